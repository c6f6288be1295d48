-- Reading gives the group just where the text spells it, and else the first fault. Assumes nothing.
use Rattle.std.proofs.Common.{◌≡◌, ℕ, zero, suc, ◌+◌, ◌-◌, ◌^◌, ◌<◌, ◌≤◌, Bool, true, false, cond, List, [], ◌∷◌, ◌++◌, length, is_some, Some, None, Ok, Err, Result, sym, refl, ap, ◌∙◌, subst, ⊎_elim, append_assoc, arith, length-append, take-append-drop}
use Rattle.std.specs.Char.{is_ascii_digit}
use Rattle.std.proofs.lemmas.Bool.{cases_eq, ne_eqb, cond-false}
use Rattle.faults.specs.declared.Refusal.{Refusal}
use Rattle.faults.specs.declared.Refusal.TheVariants as refusal
use Rattle.faults.specs.declared.TextFault.{TextFault}
use Rattle.faults.specs.Faults.{text_fault_of}
use Rattle.groups.specs.declared.items.Item.{Item}
use Rattle.groups.specs.declared.items.Sign.{Sign}
use Rattle.groups.specs.declared.items.Sign.TheVariants.{Plus, Minus, Star}
use Rattle.groups.specs.Items.{names, insert}
use Rattle.groups.proofs.Rising.{same_signs}
use Rattle.reading.specs.Grammar.{mark_of, item, Items, none, more, Once, Spells, behind, NewItem, FaultAt, no_number, ninth, repeated, no_sign, no_space, no_end, FirstFault, no_bracket, in_items, Refused, RightAnswer}
use Rattle.reading.specs.Numbers.{run, digits_of, Numeral}
use Rattle.reading.specs.Reading.{open_due, read_items, read_group}
use Rattle.reading.specs.Tokens.{symbol, byte_at}
use Rattle.reading.proofs.Fronts.{Front, fault, last, spaced, front, read_last, read_more, read_fault, place_more, place_here, same_first}
use Rattle.reading.proofs.Gather.{gather, Apart, items_fit, fit_push, gather_push, apart_front, length_gather, once_apart, apart_once, gather_rises, gather_says}
use Rattle.reading.proofs.Items.{length_insert}
use Rattle.reading.proofs.Numerals.{numeral_digits, run_front, digits_front, behind_front}
use Rattle.reading.proofs.Steps.{stop, run_long}

-- what reading items comes to, behind those seen
data Outcome (seen : List Item) (at : ℕ) (text : List ℕ) (r : Result (List Item) TextFault) : Type 0 where
  spelled : (front : List ℕ) (its : List Item) (ds : List ℕ) (p : ℕ) (s : Sign) → Items front its → Numeral ds p → text ≡ front ++ (ds ++ (mark_of s ∷ 41 ∷ [])) → Apart seen (its ++ (item p s ∷ [])) → length its + length seen < 8 → r ≡ Ok (gather seen (its ++ (item p s ∷ []))) → Outcome seen at text r
  faulty : (front : List ℕ) (its : List Item) (rest : List ℕ) (e : Refusal) (n : ℕ) → Items front its → text ≡ front ++ rest → Apart seen its → length its + length seen ≤ 8 → FaultAt (gather seen its) rest e n → r ≡ Err (text_fault_of e (byte_at at (length front + n))) → Outcome seen at text r

-- the digits at the front, and what stands behind them
split : (text u : List ℕ) → behind text ≡ u → text ≡ digits_of text ++ u
split text u e = sym (take-append-drop (run text) text) ∙ ap (λ l. digits_of text ++ l) e

-- one item before
prepend : (seen : List Item) (at : ℕ) (text : List ℕ) (p : ℕ) (s : Sign) (t : List ℕ) (r : Result (List Item) TextFault) → NewItem seen text p → behind text ≡ mark_of s ∷ 32 ∷ t → Outcome (insert (item p s) seen) (byte_at at (run text + 2)) t r → Outcome seen at text r
prepend seen at text p s t r n e (spelled front its ds q u items number whole apart few is) =
    spelled (digits_of text ++ (mark_of s ∷ 32 ∷ front)) (item p s ∷ its) ds q u (more s n.number items) number
    (split text (mark_of s ∷ 32 ∷ t) e ∙ ap (λ l. digits_of text ++ (mark_of s ∷ 32 ∷ l)) whole ∙ sym (append_assoc (digits_of text) (mark_of s ∷ 32 ∷ front) (ds ++ (mark_of u ∷ 41 ∷ []))))
    (n.fresh, apart)
    (omega (arith, few, length_insert (item p s) seen))
    is
prepend seen at text p s t r n e (faulty front its rest x k items whole apart few f is) =
    faulty (digits_of text ++ (mark_of s ∷ 32 ∷ front)) (item p s ∷ its) rest x k (more s n.number items)
    (split text (mark_of s ∷ 32 ∷ t) e ∙ ap (λ l. digits_of text ++ (mark_of s ∷ 32 ∷ l)) whole ∙ sym (append_assoc (digits_of text) (mark_of s ∷ 32 ∷ front) rest))
    (n.fresh, apart)
    (omega (arith, few, length_insert (item p s) seen))
    f
    (is ∙ ap (λ a. Err (text_fault_of x a)) (place_more at (run text + 2) (length front + k) ∙ ap (byte_at at) (omega (arith, length-append (digits_of text) (mark_of s ∷ 32 ∷ front), run_long text))))

byte_fits : (at n : ℕ) → byte_at at n < 2 ^ 64
byte_fits at n = omega arith

-- every text comes to an outcome
outcome : (room : ℕ) (seen : List Item) (at : ℕ) (text : List ℕ) → room + length seen ≡ 8 → at < 2 ^ 64 → Outcome seen at text (read_items room seen at text)
outcome zero seen at text full fits = by (front seen text (omega arith))
  where
    by : Front seen text → Outcome seen at text (read_items 0 seen at text)
    by (fault e k f) = faulty [] [] text e k none refl tt (omega arith) f (read_fault 0 seen at text full fits e k f ∙ ap (λ n. Err (text_fault_of e (byte_at at n))) (omega arith))
    by (last p s n e) = absurd (let l = n.room in omega arith)
    by (spaced p s t n e) = absurd (let l = n.room in omega arith)
outcome (suc room) seen at text full fits = by (λ held. outcome room held) (front seen text (omega arith))
  where
    by : ((held : List Item) (at : ℕ) (t : List ℕ) → room + length held ≡ 8 → at < 2 ^ 64 → Outcome held at t (read_items room held at t)) → Front seen text → Outcome seen at text (read_items (suc room) seen at text)
    by next (fault e k f) = faulty [] [] text e k none refl tt (omega arith) f (read_fault (suc room) seen at text full fits e k f ∙ ap (λ n. Err (text_fault_of e (byte_at at n))) (omega arith))
    by next (last p s n e) = spelled [] [] (digits_of text) p s none n.number (split text (mark_of s ∷ 41 ∷ []) e) (n.fresh, tt) (let l = n.room in omega arith) (read_last (suc room) seen at text full p s n e)
    by next (spaced p s t n e) =
        let r : read_items (suc room) seen at text ≡ read_items room (insert (item p s) seen) (byte_at at (run text + 2)) t = read_more (suc room) seen at text full p s t n e ∙ ap (λ k. read_items k (insert (item p s) seen) (byte_at at (run text + 2)) t) (omega arith) in
        prepend seen at text p s t (read_items (suc room) seen at text) n e
        (subst (Outcome (insert (item p s) seen) (byte_at at (run text + 2)) t) (sym r)
        (next (insert (item p s) seen) (byte_at at (run text + 2)) t (omega (arith, length_insert (item p s) seen)) (byte_fits at (run text + 2))))

mark_no_digit : (s : Sign) → is_ascii_digit (mark_of s) ≡ false
mark_no_digit Plus = refl
mark_no_digit Minus = refl
mark_no_digit Star = refl

-- the number and the sign of an item at the front of a text
module _ (ds : List ℕ) (p : ℕ) (n : Numeral ds p) (s : Sign) (t : List ℕ) where
  item_new : (seen : List Item) → length seen < 8 → names seen p ≡ false → NewItem seen (ds ++ (mark_of s ∷ t)) p
  item_new seen room fresh = record { number = subst (λ l. Numeral l p) (sym (digits_front ds (mark_of s) t (numeral_digits ds p n) (mark_no_digit s))) n; room = room; fresh = fresh }

  item_behind : behind (ds ++ (mark_of s ∷ t)) ≡ mark_of s ∷ t
  item_behind = behind_front ds (mark_of s) t (numeral_digits ds p n) (mark_no_digit s)

  item_run : run (ds ++ (mark_of s ∷ t)) ≡ length ds
  item_run = run_front ds (mark_of s) t (numeral_digits ds p n) (mark_no_digit s)

-- items with a space behind them are read, and the rest after them
read_items_lem : {text : List ℕ} {its : List Item} → Items text its → (room : ℕ) (seen : List Item) (at : ℕ) (rest : List ℕ) → room + length seen ≡ 8 → at < 2 ^ 64 → Apart seen its → length its ≤ room → read_items room seen at (text ++ rest) ≡ read_items (room - length its) (gather seen its) (byte_at at (length text)) rest
read_items_lem none room seen at rest full fits apart few = λ i. read_items (same_room i) seen (same_place i) rest
  where
    same_room : room ≡ room - 0
    same_room = omega arith

    same_place : at ≡ byte_at at 0
    same_place = omega arith
read_items_lem (more {ds} {text} {p} {its} s n h) room seen at rest full fits apart few =
    ap (read_items room seen at) (append_assoc ds (mark_of s ∷ 32 ∷ text) rest)
    ∙ read_more room seen at (ds ++ (mark_of s ∷ 32 ∷ (text ++ rest))) full p s (text ++ rest) (item_new ds p n s (32 ∷ (text ++ rest)) seen (omega arith) apart.0) (item_behind ds p n s (32 ∷ (text ++ rest)))
    ∙ ap (λ k. read_items (room - 1) (insert (item p s) seen) (byte_at at (k + 2)) (text ++ rest)) (item_run ds p n s (32 ∷ (text ++ rest)))
    ∙ read_items_lem h (room - 1) (insert (item p s) seen) (byte_at at (length ds + 2)) rest (omega (arith, length_insert (item p s) seen)) (byte_fits at (length ds + 2)) apart.1 (omega arith)
    ∙ (λ i. read_items (rooms i) (gather seen (item p s ∷ its)) (places i) rest)
  where
    rooms : room - 1 - length its ≡ room - length (item p s ∷ its)
    rooms = omega arith

    places : byte_at (byte_at at (length ds + 2)) (length text) ≡ byte_at at (length (ds ++ (mark_of s ∷ 32 ∷ text)))
    places = place_more at (length ds + 2) (length text) ∙ ap (byte_at at) (omega (arith, length-append ds (mark_of s ∷ 32 ∷ text)))

new_like : (a b : List Item) (text : List ℕ) (p : ℕ) → length a ≡ length b → ((p : ℕ) → names a p ≡ names b p) → NewItem a text p → NewItem b text p
new_like a b text p l h n = record { number = n.number; room = (let r = n.room in omega arith); fresh = sym (h p) ∙ n.fresh }

-- a fault depends only on how many items stand before it, and which plates they name
fault_like : (a b : List Item) (text : List ℕ) (e : Refusal) (k : ℕ) → length a ≡ length b → ((p : ℕ) → names a p ≡ names b p) → FaultAt a text e k → FaultAt b text e k
fault_like a b text _ _ l h (no_number f) = no_number f
fault_like a b text _ _ l h (ninth p n m) = ninth p n (sym l ∙ m)
fault_like a b text _ _ l h (repeated p n m k) = repeated p n (omega arith) (sym (h p) ∙ k)
fault_like a b text _ _ l h (no_sign p n f) = no_sign p (new_like a b text p l h n) f
fault_like a b text _ _ l h (no_space p s t n e f g) = no_space p s t (new_like a b text p l h n) e f g
fault_like a b text _ _ l h (no_end p s c t n e) = no_end p s c t (new_like a b text p l h n) e

-- where no bracket opens the text
no_open : (start : ℕ) (text : List ℕ) → start < 2 ^ 64 → ((t : List ℕ) → text ≡ 40 ∷ t → ⊥) → read_group start text ≡ Err (text_fault_of refusal.Mark (byte_at start 0))
no_open start [] fits h = ap (λ a. Err (text_fault_of refusal.Mark a)) (sym (place_here start fits))
no_open start (b ∷ t) fits h =
    stop (open_due start (symbol (b ∷ t))) _ (text_fault_of refusal.Mark start) (by (is_ascii_digit b))
    ∙ ap (λ a. Err (text_fault_of refusal.Mark a)) (sym (place_here start fits))
  where
    by : (d : Bool) → open_due start (cond d None (Some b)) ≡ Err (text_fault_of refusal.Mark start)
    by true = refl
    by false = cond-false _ _ _ (ne_eqb b 40 (λ e. h t (ap (λ c. c ∷ t) e)))

-- the items gathered, seen from those written
module _ (its : List Item) (apart : Apart [] its) where
  gathered_long : length (gather [] its) ≡ length its
  gathered_long = length_gather [] its ∙ omega arith

  gathered_names : (p : ℕ) → names (gather [] its) p ≡ names its p
  gathered_names p = ap is_some (gather_says its p apart)

  once : Once its
  once = (apart_once [] its apart).0

pub apart_of : (its : List Item) → Once its → Apart [] its
apart_of its o = once_apart [] its o (λ p h. refl)

-- every text is answered by its group or by its fault
data Answered (start : ℕ) (text : List ℕ) (r : Result (List Item) TextFault) : Type 0 where
  good : (g : List Item) → Spells text g → r ≡ Ok g → Answered start text r
  bad : (f : TextFault) → Refused start text f → r ≡ Err f → Answered start text r

opened : (start : ℕ) (b : ℕ) (t : List ℕ) → b ≡ 40 → (r : Result (List Item) TextFault) → Outcome [] (byte_at start 1) t r → Answered start (b ∷ t) r
opened start b t e r (spelled front its ds p s items number whole apart few is) =
    let all = its ++ (item p s ∷ []) in
    good (gather [] all)
    (record {
      front = front;
      its = its;
      ds = ds;
      p = p;
      s = s;
      items = items;
      number = number;
      whole = (λ i. e i ∷ whole i);
      few = omega (arith, few);
      once = once all apart;
      rises = gather_rises [] all (fit_push its (item p s) (items_fit items) number.low number.high) apart refl;
      same = λ q. gather_says all q apart;
    })
    is
opened start b t e r (faulty front its rest x n items whole apart few f is) =
    bad (text_fault_of x (byte_at start (1 + length front + n)))
    (record {
      refusal = x;
      offset = 1 + length front + n;
      first = subst (λ l. FirstFault l x (1 + length front + n)) (λ i. sym e i ∷ sym whole i) (in_items items (omega (arith, few)) (once its apart) (fault_like (gather [] its) its rest x n (gathered_long its apart) (gathered_names its apart) f));
      is = refl;
    })
    (is ∙ ap (λ a. Err (text_fault_of x a)) (place_more start 1 (length front + n) ∙ ap (byte_at start) (omega arith)))

-- behind its bracket a group is read as items
bracketed : (start : ℕ) (b : ℕ) (t : List ℕ) → b ≡ 40 → read_group start (b ∷ t) ≡ read_items 8 [] (byte_at start 1) t
bracketed start b t e = ap (λ c. read_group start (c ∷ t)) e

answered : (start : ℕ) (text : List ℕ) → start < 2 ^ 64 → Answered start text (read_group start text)
answered start [] fits = bad (text_fault_of refusal.Mark (byte_at start 0)) (record { refusal = refusal.Mark; offset = 0; first = no_bracket [] (λ t e. omega (arith, ap length e)); is = refl }) (no_open start [] fits (λ t e. omega (arith, ap length e)))
answered start (b ∷ t) fits =
    ⊎_elim
    (λ e. subst (Answered start (b ∷ t)) (sym (bracketed start b t e)) (opened start b t e (read_items 8 [] (byte_at start 1) t) (outcome 8 [] (byte_at start 1) t refl (byte_fits start 1))))
    (λ ne.
    let none_open : (u : List ℕ) → b ∷ t ≡ 40 ∷ u → ⊥ = λ u e. ne (same_first b 40 t u e) in
    bad (text_fault_of refusal.Mark (byte_at start 0)) (record { refusal = refusal.Mark; offset = 0; first = no_bracket (b ∷ t) none_open; is = refl }) (no_open start (b ∷ t) fits none_open))
    (cases_eq b 40)

-- the items of a text's front are read
fronts_read : (start : ℕ) (front : List ℕ) (its : List Item) (rest : List ℕ) → Items front its → Apart [] its → length its ≤ 8 → read_items 8 [] (byte_at start 1) (front ++ rest) ≡ read_items (8 - length its) (gather [] its) (byte_at start (1 + length front)) rest
fronts_read start front its rest items apart few =
    read_items_lem items 8 [] (byte_at start 1) rest refl (byte_fits start 1) apart few
    ∙ ap (λ a. read_items (8 - length its) (gather [] its) a rest) (place_more start 1 (length front))

-- a text that spells a group is read as that group
pub spelled_read : (start : ℕ) (text : List ℕ) (g : List Item) → Spells text g → read_group start text ≡ Ok g
spelled_read start text g h =
    let its = h.its in
    let x = item h.p h.s in
    let all = its ++ (x ∷ []) in
    let apart = apart_of all h.once in
    let parts = apart_front [] its x apart in
    let few = h.few in
    let long = gathered_long its parts.0 in
    let last-text = h.ds ++ (mark_of h.s ∷ 41 ∷ []) in
    ap (read_group start) h.whole
    ∙ fronts_read start h.front its last-text h.items parts.0 (omega arith)
    ∙ read_last (8 - length its) (gather [] its) (byte_at start (1 + length h.front)) last-text (omega arith) h.p h.s
    (item_new h.ds h.p h.number h.s (41 ∷ []) (gather [] its) (omega arith) parts.1)
    (item_behind h.ds h.p h.number h.s (41 ∷ []))
    ∙ ap Ok (sym (gather_push [] its x)
    ∙ same_signs 0 (gather [] all) g
    (gather_rises [] all (fit_push its x (items_fit h.items) h.number.low h.number.high) apart refl)
    h.rises
    (λ q. gather_says all q apart ∙ sym (h.same q)))

-- a text with a fault is refused with it
refused_read : (start : ℕ) (text : List ℕ) (e : Refusal) (n : ℕ) → start < 2 ^ 64 → FirstFault text e n → read_group start text ≡ Err (text_fault_of e (byte_at start n))
refused_read start _ _ _ fits (no_bracket text h) = no_open start text fits h
refused_read start _ _ _ fits (in_items {front} {its} {rest} {e} {n} items few o f) =
    let apart = apart_of its o in
    let long = gathered_long its apart in
    fronts_read start front its rest items apart few
    ∙ read_fault (8 - length its) (gather [] its) (byte_at start (1 + length front)) rest (omega arith) (byte_fits start (1 + length front)) e n
    (fault_like its (gather [] its) rest e n (sym long) (λ p. sym (gathered_names its apart p)) f)
    ∙ ap (λ a. Err (text_fault_of e a)) (place_more start (1 + length front) n)

-- what is read is right
pub right : (start : ℕ) (text : List ℕ) → start < 2 ^ 64 → RightAnswer start text (read_group start text)
right start text fits = record {
  read = λ g e. by_group g e (answered start text fits);
  reads = λ g h. spelled_read start text g h;
  refused = λ f e. by_fault f e (answered start text fits);
  refuses = λ f h. refused_read start text h.refusal h.offset fits h.first ∙ ap Err (sym h.is);
}
  where
    by_group : (g : List Item) → read_group start text ≡ Ok g → Answered start text (read_group start text) → Spells text g
    by_group g e (good k h q) = let same : k ≡ g = cc in subst (Spells text) same h
    by_group g e (bad f h q) = cc

    by_fault : (f : TextFault) → read_group start text ≡ Err f → Answered start text (read_group start text) → Refused start text f
    by_fault f e (good k h q) = cc
    by_fault f e (bad k h q) = let same : k ≡ f = cc in subst (Refused start text) same h

-- so is an answer that is what reading gives
pub right_by : (start : ℕ) (text : List ℕ) (r : Result (List Item) TextFault) → r ≡ read_group start text → start < 2 ^ 64 → RightAnswer start text r
right_by start text r e fits = subst (RightAnswer start text) (sym e) (right start text fits)
