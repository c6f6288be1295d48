-- What stands where an item is due, and what reading makes of it. Assumes nothing.
use Rattle.std.proofs.Common.{◌≡◌, ℕ, ◌+◌, ◌-◌, ◌^◌, ◌<◌, ◌≤◌, Bool, true, false, cond, eqb, ◌⊎◌, List, [], ◌∷◌, length, drop, Some, None, Ok, Err, Option, sym, refl, ap, ◌∙◌, inl, inr, arith}
use Rattle.std.specs.Char.{is_ascii_digit}
use Rattle.std.proofs.lemmas.Bool.{cases_lt, cases_eq, eqb-true, eq-eqb, ne_eqb, cond-true, cond-false}
use Rattle.faults.specs.declared.Refusal.{Refusal}
use Rattle.faults.specs.declared.Refusal.TheVariants as refusal
use Rattle.faults.specs.Faults.{text_fault_of}
use Rattle.groups.specs.declared.items.Item.{Item}
use Rattle.groups.specs.declared.items.Sign.{Sign}
use Rattle.groups.specs.declared.items.Sign.TheVariants.{Plus, Minus, Star}
use Rattle.groups.specs.Items.{names, insert}
use Rattle.reading.specs.Grammar.{mark_of, item, behind, NewItem, FaultAt, no_number, ninth, repeated, no_sign, no_space, no_end}
use Rattle.reading.specs.Numbers.{run, digits_of, plate_of, Numeral}
use Rattle.reading.specs.Reading.{◌>>=◌, numbered, item_number, plate_due, sign_of, signed, sign_due, more_by, more_due, items_from, read_items}
use Rattle.reading.specs.Tokens.{symbol, byte_at}
use Rattle.reading.proofs.Items.{stop_plate, on_plate, on_sign}
use Rattle.reading.proofs.Numerals.{numeral_plate, plate_numeral}
use Rattle.reading.proofs.Steps.{run_digits, stop, go_on}

-- the place some bytes on, and then some more
pub place_more : (at a b : ℕ) → byte_at (byte_at at a) b ≡ byte_at at (a + b)
place_more at a b = omega arith

pub place_here : (at : ℕ) → at < 2 ^ 64 → byte_at at 0 ≡ at
place_here at h = omega arith

-- a sign's byte is read as that sign
mark_symbol : (s : Sign) (t : List ℕ) → symbol (mark_of s ∷ t) ≡ Some (mark_of s)
mark_symbol Plus t = refl
mark_symbol Minus t = refl
mark_symbol Star t = refl

sign_mark : (s : Sign) (at : ℕ) → sign_due at (Some (mark_of s)) ≡ Ok s
sign_mark Plus at = refl
sign_mark Minus at = refl
sign_mark Star at = refl

mark_sign : (b : ℕ) (s : Sign) → sign_of b ≡ Some s → b ≡ mark_of s
mark_sign b s h = by (eqb b 43) (eqb b 45) (eqb b 42) refl refl refl h
  where
    by : (x y z : Bool) → eqb b 43 ≡ x → eqb b 45 ≡ y → eqb b 42 ≡ z → cond x (Some Plus) (cond y (Some Minus) (cond z (Some Star) None)) ≡ Some s → b ≡ mark_of s
    by true y z e f g h = let is : Plus ≡ s = cc in eqb-true b 43 e ∙ ap mark_of is
    by false true z e f g h = let is : Minus ≡ s = cc in eqb-true b 45 f ∙ ap mark_of is
    by false false true e f g h = let is : Star ≡ s = cc in eqb-true b 42 g ∙ ap mark_of is
    by false false false e f g h = cc

-- where no sign stands
sign_fault : (a : ℕ) (u : List ℕ) → ((s : Sign) (t : List ℕ) → u ≡ mark_of s ∷ t → ⊥) → sign_due a (symbol u) ≡ Err (text_fault_of refusal.Mark a)
sign_fault a [] h = refl
sign_fault a (b ∷ u) h = by (is_ascii_digit b) (sign_of b) refl
  where
    by : (d : Bool) (o : Option Sign) → sign_of b ≡ o → sign_due a (cond d None (Some b)) ≡ Err (text_fault_of refusal.Mark a)
    by true o e = refl
    by false None e = ap (signed a) e
    by false (Some s) e = absurd (h s u (ap (λ c. c ∷ u) (mark_sign b s e)))

-- where neither a space nor the closing bracket stands
more_fault : (a : ℕ) (t : List ℕ) → ((u : List ℕ) → t ≡ 32 ∷ u → ⊥) → ((u : List ℕ) → t ≡ 41 ∷ u → ⊥) → more_due a t ≡ Err (text_fault_of refusal.Mark a)
more_fault a [] h k = refl
more_fault a (b ∷ u) h k = by (is_ascii_digit b)
  where
    by : (d : Bool) → more_by a (cond d None (Some b)) u ≡ Err (text_fault_of refusal.Mark a)
    by true = refl
    by false =
        cond-false _ _ _ (ne_eqb b 32 (λ e. h u (ap (λ c. c ∷ u) e)))
        ∙ cond-false _ _ _ (ne_eqb b 41 (λ e. k u (ap (λ c. c ∷ u) e)))

-- digits that are no number of a plate
pub no_plate : (text : List ℕ) → ((p : ℕ) → Numeral (digits_of text) p → ⊥) → plate_of (digits_of text) ≡ None
no_plate text h = by (plate_of (digits_of text)) refl
  where
    by : (o : Option ℕ) → plate_of (digits_of text) ≡ o → plate_of (digits_of text) ≡ None
    by None e = e
    by (Some p) e = absurd (h p (plate_numeral (digits_of text) p (run_digits text) e))

module _ (room : ℕ) (seen : List Item) (at : ℕ) (text : List ℕ) (full : room + length seen ≡ 8) where
  plate_ok : (p : ℕ) → NewItem seen text p → plate_due room seen at (digits_of text) ≡ Ok p
  plate_ok p n =
      let left = n.room in
      go_on (numbered at (plate_of (digits_of text))) _ p (ap (numbered at) (numeral_plate (digits_of text) p n.number))
      ∙ cond-false _ _ _ (ne_eqb room 0 (λ e. omega arith))
      ∙ cond-false _ _ _ n.fresh

  sign_ok : (s : Sign) (t : List ℕ) → behind text ≡ mark_of s ∷ t → sign_due (byte_at at (run text)) (symbol (behind text)) ≡ Ok s
  sign_ok s t e = ap (λ l. sign_due (byte_at at (run text)) (symbol l)) e ∙ ap (sign_due (byte_at at (run text))) (mark_symbol s t) ∙ sign_mark s (byte_at at (run text))

  -- behind an item with a sign
  on_item : (p : ℕ) (s : Sign) (t : List ℕ) → NewItem seen text p → behind text ≡ mark_of s ∷ t → read_items room seen at text ≡ more_due (byte_at at (run text + 1)) t >>= items_from (read_items (room - 1) (insert (item p s) seen)) (insert (item p s) seen) (byte_at at (run text + 1)) t
  on_item p s t n e =
      on_sign room seen at text p s (plate_ok p n) (sign_ok s t e)
      ∙ (λ i. more_due (place_more at (run text) 1 i) (drop 1 (e i)) >>= items_from (read_items (room - 1) (insert (item p s) seen)) (insert (item p s) seen) (place_more at (run text) 1 i) (drop 1 (e i)))

  pub read_last : (p : ℕ) (s : Sign) → NewItem seen text p → behind text ≡ mark_of s ∷ 41 ∷ [] → read_items room seen at text ≡ Ok (insert (item p s) seen)
  read_last p s n e = on_item p s (41 ∷ []) n e

  pub read_more : (p : ℕ) (s : Sign) (t : List ℕ) → NewItem seen text p → behind text ≡ mark_of s ∷ 32 ∷ t → read_items room seen at text ≡ read_items (room - 1) (insert (item p s) seen) (byte_at at (run text + 2)) t
  read_more p s t n e =
      on_item p s (32 ∷ t) n e
      ∙ ap (λ a. read_items (room - 1) (insert (item p s) seen) a t) (place_more at (run text + 1) 1 ∙ ap (byte_at at) (omega arith))

  -- a number that is refused
  number_fault : (e : Refusal) → at < 2 ^ 64 → plate_due room seen at (digits_of text) ≡ Err (text_fault_of e at) → read_items room seen at text ≡ Err (text_fault_of e (byte_at at 0))
  number_fault e fits h = stop_plate room seen at text (text_fault_of e at) h ∙ ap (λ a. Err (text_fault_of e a)) (sym (place_here at fits))

  numbered_ok : (p : ℕ) → Numeral (digits_of text) p → numbered at (plate_of (digits_of text)) ≡ Ok p
  numbered_ok p n = ap (numbered at) (numeral_plate (digits_of text) p n)

  -- each fault is the one that is read
  pub read_fault : at < 2 ^ 64 → (e : Refusal) (k : ℕ) → FaultAt seen text e k → read_items room seen at text ≡ Err (text_fault_of e (byte_at at k))
  read_fault fits _ _ (no_number h) =
      number_fault refusal.Number fits (stop (numbered at (plate_of (digits_of text))) _ (text_fault_of refusal.Number at) (ap (numbered at) (no_plate text h)))
  read_fault fits _ _ (ninth p n l) =
      number_fault refusal.Ninth fits (go_on (numbered at (plate_of (digits_of text))) (item_number room seen at) p (numbered_ok p n) ∙ cond-true _ _ _ (eq-eqb room 0 (omega arith)))
  read_fault fits _ _ (repeated p n l k) =
      number_fault refusal.Repeated fits
      (go_on (numbered at (plate_of (digits_of text))) (item_number room seen at) p (numbered_ok p n)
      ∙ cond-false _ _ _ (ne_eqb room 0 (λ e. omega arith))
      ∙ cond-true _ _ _ k)
  read_fault fits _ _ (no_sign p n h) =
      on_plate room seen at text p (plate_ok p n)
      ∙ stop (sign_due (byte_at at (run text)) (symbol (behind text))) _ (text_fault_of refusal.Mark (byte_at at (run text))) (sign_fault (byte_at at (run text)) (behind text) h)
  read_fault fits _ _ (no_space p s t n e h k) =
      on_item p s t n e
      ∙ stop (more_due (byte_at at (run text + 1)) t) _ (text_fault_of refusal.Mark (byte_at at (run text + 1))) (more_fault (byte_at at (run text + 1)) t h k)
  read_fault fits _ _ (no_end p s b t n e) =
      on_item p s (41 ∷ b ∷ t) n e
      ∙ ap (λ a. Err (text_fault_of refusal.Mark a)) (place_more at (run text + 1) 1 ∙ ap (byte_at at) (omega arith))

-- what stands where an item is due: a fault, the last item, or an item with a space behind it
pub data Front (seen : List Item) (text : List ℕ) : Type 0 where
  fault : (e : Refusal) (k : ℕ) → FaultAt seen text e k → Front seen text
  last : (p : ℕ) (s : Sign) → NewItem seen text p → behind text ≡ mark_of s ∷ 41 ∷ [] → Front seen text
  spaced : (p : ℕ) (s : Sign) (t : List ℕ) → NewItem seen text p → behind text ≡ mark_of s ∷ 32 ∷ t → Front seen text

empty_not : (c : ℕ) (u : List ℕ) → [] ≡ c ∷ u → ⊥
empty_not c u e = omega (arith, ap length e)

pub same_first : (b c : ℕ) (t u : List ℕ) → b ∷ t ≡ c ∷ u → b ≡ c
same_first b c t u e = cc

front_mark : (seen : List Item) (text : List ℕ) (p : ℕ) → NewItem seen text p → (s : Sign) (t : List ℕ) → behind text ≡ mark_of s ∷ t → Front seen text
front_mark seen text p n s [] e = fault refusal.Mark (run text + 1) (no_space p s [] n e (empty_not 32) (empty_not 41))
front_mark seen text p n s (b ∷ t) e = by (cases_eq b 32) (cases_eq b 41) t e
  where
    by : ((b ≡ 32) ⊎ (b ≡ 32 → ⊥)) → ((b ≡ 41) ⊎ (b ≡ 41 → ⊥)) → (t : List ℕ) → behind text ≡ mark_of s ∷ b ∷ t → Front seen text
    by (inl x) y t e = spaced p s t n (e ∙ ap (λ c. mark_of s ∷ c ∷ t) x)
    by (inr x) (inl y) [] e = last p s n (e ∙ ap (λ c. mark_of s ∷ c ∷ []) y)
    by (inr x) (inl y) (d ∷ t) e = fault refusal.Mark (run text + 2) (no_end p s d t n (e ∙ ap (λ c. mark_of s ∷ c ∷ d ∷ t) y))
    by (inr x) (inr y) t e = fault refusal.Mark (run text + 1) (no_space p s (b ∷ t) n e (λ u q. x (same_first b 32 t u q)) (λ u q. y (same_first b 41 t u q)))

-- no byte but a sign's is read as a sign
sign_none : (b : ℕ) (s : Sign) (u t : List ℕ) → sign_of b ≡ None → b ∷ u ≡ mark_of s ∷ t → ⊥
sign_none b s u t h e = by s (same_first b (mark_of s) u t e)
  where
    by : (s : Sign) → b ≡ mark_of s → ⊥
    by Plus q = cc (ap sign_of q)
    by Minus q = cc (ap sign_of q)
    by Star q = cc (ap sign_of q)

front_item : (seen : List Item) (text : List ℕ) (p : ℕ) → NewItem seen text p → (t : List ℕ) → behind text ≡ t → Front seen text
front_item seen text p n [] e = fault refusal.Mark (run text) (no_sign p n (λ s t q. empty_not (mark_of s) t (sym e ∙ q)))
front_item seen text p n (b ∷ t) e = by (sign_of b) refl
  where
    by : (o : Option Sign) → sign_of b ≡ o → Front seen text
    by None q = fault refusal.Mark (run text) (no_sign p n (λ s u z. sign_none b s t u q (sym e ∙ z)))
    by (Some s) q = front_mark seen text p n s t (e ∙ ap (λ c. c ∷ t) (mark_sign b s q))

-- one of the three stands there
pub front : (seen : List Item) (text : List ℕ) → length seen ≤ 8 → Front seen text
front seen text few = by (plate_of (digits_of text)) refl
  where
    number : (p : ℕ) → Numeral (digits_of text) p → (length seen < 8) ⊎ (8 ≤ length seen) → (t : Bool) → names seen p ≡ t → Front seen text
    number p n (inr l) t e = fault refusal.Ninth 0 (ninth p n (omega arith))
    number p n (inl l) true e = fault refusal.Repeated 0 (repeated p n l e)
    number p n (inl l) false e = front_item seen text p (record { number = n; room = l; fresh = e }) (behind text) refl

    by : (o : Option ℕ) → plate_of (digits_of text) ≡ o → Front seen text
    by None e = fault refusal.Number 0 (no_number (λ p n. cc (numeral_plate (digits_of text) p n)))
    by (Some p) e = number p (plate_numeral (digits_of text) p (run_digits text) e) (cases_lt (length seen) 8) (names seen p) refl
