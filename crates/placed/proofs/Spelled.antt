-- What the items that a group spells say of each plate. Assumes nothing.
use Rattle.std.proofs.Common.{◌≡◌, ℕ, zero, suc, ◌+◌, ◌<◌, Bool, true, false, cond, ◌&&◌, eqb, List, [], ◌∷◌, ◌++◌, length, get_or, Some, None, Decides, Option, sym, refl, ap, ◌∙◌, ⊎_elim, arith}
use Rattle.std.proofs.lemmas.Bool.{and_parts, and_from, eq-eqb, ne_eqb, cond-true, cond-false, cases_lt, both_ways, cases_Bool}
use Rattle.groups.specs.declared.items.Item.{Item}
use Rattle.groups.specs.declared.items.Sign.{Sign}
use Rattle.groups.specs.declared.items.Sign.TheVariants.{Plus, Minus}
use Rattle.groups.specs.Items.{rising, sign_at, covers, joint, Combination}
use Rattle.groups.proofs.Rising.{unnamed_below}
use Rattle.levers.specs.Sets.{has}
use Rattle.placed.specs.declared.Placed.{Placed}
use Rattle.groups.specs.Rises.{climbing, item_if}
use Rattle.placed.specs.Signs.{sign_on, Within}
use Rattle.placed.specs.Spelling.{spell_from, spell}
use Rattle.groups.proofs.Single.{item_rises, item_here, item_other}
use Rattle.groups.proofs.Climbing.{climbing_step, climbing_above, place_cases}
use Rattle.placed.proofs.Ends.{sits_if, ends_sit, sits_up, sits_down, same_groups, equal_groups}

item_covers : (o : Option Sign) (p : ℕ) (xs h : List Item) → covers (item_if p o ++ xs) h ≡ (sits_if o (sign_at h p) && covers xs h)
item_covers None p xs h = refl
item_covers (Some s) p xs h = refl

-- the items rise with the plates
pub rises_from : (k low : ℕ) (ps : List ℕ) (g : Placed) → climbing low ps ≡ true → rising low (spell_from k ps g) ≡ true
rises_from k low [] g r = refl
rises_from k low (p ∷ ps) g r =
    let s = climbing_step low p ps r in
    item_rises (sign_on g k) low p (spell_from (suc k) ps g) s.above s.upto (rises_from (suc k) p ps g s.rest)

pub spelled_rises : (ps : List ℕ) (g : Placed) → climbing 0 ps ≡ true → rising 0 (spell ps g) ≡ true
spelled_rises ps g r = rises_from 0 0 ps g r

-- each plate has the sign of its place
sign_from : (k low : ℕ) (ps : List ℕ) (g : Placed) (j : ℕ) → climbing low ps ≡ true → j < length ps → sign_at (spell_from k ps g) (get_or ps j 0) ≡ sign_on g (k + j)
sign_from k low [] g j r h = absurd (omega arith)
sign_from k low (p ∷ ps) g zero r h =
    let s = climbing_step low p ps r in
    item_here (sign_on g k) p (spell_from (suc k) ps g) (unnamed_below p p (spell_from (suc k) ps g) (omega arith) (rises_from (suc k) p ps g s.rest))
    ∙ ap (sign_on g) (omega arith)
sign_from k low (p ∷ ps) g (suc j) r h =
    let s = climbing_step low p ps r in
    let m = climbing_above p ps j s.rest (omega arith) in
    item_other (sign_on g k) p (get_or ps j 0) (spell_from (suc k) ps g) (λ e. omega arith)
    ∙ sign_from (suc k) p ps g j s.rest (omega arith)
    ∙ ap (sign_on g) (let e : suc k + j ≡ k + suc j = omega arith in e)

pub spelled_sign : (ps : List ℕ) (g : Placed) (j : ℕ) → climbing 0 ps ≡ true → j < length ps → sign_at (spell ps g) (get_or ps j 0) ≡ sign_on g j
spelled_sign ps g j r h = sign_from 0 0 ps g j r h ∙ ap (sign_on g) (omega arith)

-- no other plate has one
none_from : (k : ℕ) (ps : List ℕ) (g : Placed) (p : ℕ) → ((j : ℕ) → j < length ps → get_or ps j 0 ≡ p → ⊥) → sign_at (spell_from k ps g) p ≡ None
none_from k [] g p n = refl
none_from k (q ∷ qs) g p n =
    item_other (sign_on g k) q p (spell_from (suc k) qs g) (n 0 (omega arith))
    ∙ none_from (suc k) qs g p (λ j h. n (suc j) (omega arith))

pub spelled_none : (ps : List ℕ) (g : Placed) (p : ℕ) → ((j : ℕ) → j < length ps → get_or ps j 0 ≡ p → ⊥) → sign_at (spell ps g) p ≡ None
spelled_none ps g p n = none_from 0 ps g p n

-- the items cover others where each place sits on what they say of its plate
sits_from : (k : ℕ) (ps : List ℕ) (g : Placed) (h : List Item) → covers (spell_from k ps g) h ≡ true → (j : ℕ) → j < length ps → sits_if (sign_on g (k + j)) (sign_at h (get_or ps j 0)) ≡ true
sits_from k [] g h c j l = absurd (omega arith)
sits_from k (p ∷ ps) g h c zero l =
    ap (λ n. sits_if (sign_on g n) (sign_at h p)) (let e : k + 0 ≡ k = omega arith in e)
    ∙ (and_parts (sits_if (sign_on g k) (sign_at h p)) (covers (spell_from (suc k) ps g) h) (sym (item_covers (sign_on g k) p (spell_from (suc k) ps g) h) ∙ c)).0
sits_from k (p ∷ ps) g h c (suc j) l =
    ap (λ n. sits_if (sign_on g n) (sign_at h (get_or ps j 0))) (let e : k + suc j ≡ suc k + j = omega arith in e)
    ∙ sits_from (suc k) ps g h (and_parts (sits_if (sign_on g k) (sign_at h p)) (covers (spell_from (suc k) ps g) h) (sym (item_covers (sign_on g k) p (spell_from (suc k) ps g) h) ∙ c)).1 j (omega arith)

covers_from : (k : ℕ) (ps : List ℕ) (g : Placed) (h : List Item) → ((j : ℕ) → j < length ps → sits_if (sign_on g (k + j)) (sign_at h (get_or ps j 0)) ≡ true) → covers (spell_from k ps g) h ≡ true
covers_from k [] g h s = refl
covers_from k (p ∷ ps) g h s =
    item_covers (sign_on g k) p (spell_from (suc k) ps g) h
    ∙ and_from _ _
    (ap (λ n. sits_if (sign_on g n) (sign_at h p)) (let e : k ≡ k + 0 = omega arith in e) ∙ s 0 (omega arith))
    (covers_from (suc k) ps g h (λ j l. ap (λ n. sits_if (sign_on g n) (sign_at h (get_or ps j 0))) (let e : suc k + j ≡ k + suc j = omega arith in e) ∙ s (suc j) (omega arith)))

pub spelled_covers : (ps : List ℕ) (g : Placed) (h : List Item) → Decides (covers (spell ps g) h) ((j : ℕ) → j < length ps → sits_if (sign_on g j) (sign_at h (get_or ps j 0)) ≡ true)
spelled_covers ps g h = (
  (λ c j l. ap (λ n. sits_if (sign_on g n) (sign_at h (get_or ps j 0))) (let e : j ≡ 0 + j = omega arith in e) ∙ sits_from 0 ps g h c j l),
  (λ s. covers_from 0 ps g h (λ j l. ap (λ n. sits_if (sign_on g n) (sign_at h (get_or ps j 0))) (let e : 0 + j ≡ j = omega arith in e) ∙ s j l)),
)

-- groups within the plates that spell the same are the same
pub same_spelled : (ps : List ℕ) (g h : Placed) → climbing 0 ps ≡ true → Within (length ps) g → Within (length ps) h → spell ps g ≡ spell ps h → g ≡ h
same_spelled ps g h r v w e =
    same_groups g h (λ k.
    ⊎_elim
    (λ l. sym (spelled_sign ps g k r l) ∙ ap (λ xs. sign_at xs (get_or ps k 0)) e ∙ spelled_sign ps h k r l)
    (λ l. v k l ∙ sym (w k l))
    (cases_lt k (length ps)))

-- one group covers another where its ends are among the other's
pub covers_ends : (ps : List ℕ) (g h : Placed) → climbing 0 ps ≡ true → Within (length ps) g → Decides (covers (spell ps g) (spell ps h)) (((k : ℕ) → has g.up k ≡ true → has h.up k ≡ true) × ((k : ℕ) → has g.down k ≡ true → has h.down k ≡ true))
covers_ends ps g h r w = (
  (λ c. ((λ k. sits_up _ _ _ _ (sits c k)), (λ k. sits_down _ _ _ _ (sits c k)))),
  (λ e. (spelled_covers ps g (spell ps h)).1 (λ j l. ap (sits_if (sign_on g j)) (spelled_sign ps h j r l) ∙ ends_sit _ _ _ _ (e.0 j) (e.1 j))),
)
  where
    sits : covers (spell ps g) (spell ps h) ≡ true → (k : ℕ) → sits_if (sign_on g k) (sign_on h k) ≡ true
    sits c k =
        ⊎_elim
        (λ l. ap (sits_if (sign_on g k)) (sym (spelled_sign ps h k r l)) ∙ (spelled_covers ps g (spell ps h)).0 c k l)
        (λ l. ap (λ o. sits_if o (sign_on h k)) (w k l))
        (cases_lt k (length ps))

not_covers : (ps : List ℕ) (g h : Placed) → (covers (spell ps g) (spell ps h) ≡ true → ⊥) → covers (spell ps g) (spell ps h) ≡ false
not_covers ps g h n = ⊎_elim (λ t. absurd (n t)) (λ t. t) (cases_Bool (covers (spell ps g) (spell ps h)))

-- each end of the one is an end of the other
pub covers_all : (ps : List ℕ) (g h : Placed) → climbing 0 ps ≡ true → Within (length ps) g → ((k : ℕ) → has g.up k ≡ true → has h.up k ≡ true) → ((k : ℕ) → has g.down k ≡ true → has h.down k ≡ true) → covers (spell ps g) (spell ps h) ≡ true
covers_all ps g h r w u d = (covers_ends ps g h r w).1 (u, d)

-- some upper end is not, or some lower end
pub covers_not_up : (ps : List ℕ) (g h : Placed) (u : Bool) → climbing 0 ps ≡ true → Within (length ps) g → Decides u ((k : ℕ) → has g.up k ≡ true → has h.up k ≡ true) → u ≡ false → covers (spell ps g) (spell ps h) ≡ false
covers_not_up ps g h u r w a e = not_covers ps g h (λ t. both_ways u e (a.1 ((covers_ends ps g h r w).0 t).0))

pub covers_not_down : (ps : List ℕ) (g h : Placed) (d : Bool) → climbing 0 ps ≡ true → Within (length ps) g → Decides d ((k : ℕ) → has g.down k ≡ true → has h.down k ≡ true) → d ≡ false → covers (spell ps g) (spell ps h) ≡ false
covers_not_down ps g h d r w a e = not_covers ps g h (λ t. both_ways d e (a.1 ((covers_ends ps g h r w).0 t).1))

-- what `==` says
pub same_told : (ps : List ℕ) (g h : Placed) (r : Bool) → r ≡ (eqb g.up.bits h.up.bits && eqb g.down.bits h.down.bits) → climbing 0 ps ≡ true → Within (length ps) g → Within (length ps) h → Decides r (spell ps g ≡ spell ps h)
same_told ps g h r e c v w =
    let same = equal_groups r g h e in
    ((λ t. ap (spell ps) (same.0 t)), (λ t. same.1 (same_spelled ps g h c v w t)))

-- what is joined has no sign at the place, and elsewhere the two signs together
pub joined_dropped : (ps : List ℕ) (a b c : Placed) (i : ℕ) → climbing 0 ps ≡ true → i < length ps → ((k : ℕ) → sign_on c k ≡ cond (eqb k i) None (joint (sign_on a k) (sign_on b k))) → sign_at (spell ps c) (get_or ps i 0) ≡ None
joined_dropped ps a b c i r l s = spelled_sign ps c i r l ∙ s i ∙ cond-true _ _ _ (eq-eqb i i refl)

pub joined_elsewhere : (ps : List ℕ) (a b c : Placed) (i q : ℕ) → climbing 0 ps ≡ true → i < length ps → ((k : ℕ) → sign_on c k ≡ cond (eqb k i) None (joint (sign_on a k) (sign_on b k))) → (q ≡ get_or ps i 0 → ⊥) → sign_at (spell ps c) q ≡ joint (sign_at (spell ps a) q) (sign_at (spell ps b) q)
joined_elsewhere ps a b c i q r l s ne =
    ⊎_elim
    (λ f.
    ap (sign_at (spell ps c)) (sym f.2)
    ∙ spelled_sign ps c f.0 r f.1
    ∙ s f.0
    ∙ cond-false _ _ _ (ne_eqb f.0 i (λ e. ne (sym f.2 ∙ ap (λ n. get_or ps n 0) e)))
    ∙ (λ z. joint (sym (spelled_sign ps a f.0 r f.1) z) (sym (spelled_sign ps b f.0 r f.1) z))
    ∙ ap (λ n. joint (sign_at (spell ps a) n) (sign_at (spell ps b) n)) f.2)
    (λ n. spelled_none ps c q n ∙ (λ z. joint (sym (spelled_none ps a q n) z) (sym (spelled_none ps b q n) z)))
    (place_cases ps q)

-- the combination on the plate at a place
pub joined_over : (ps : List ℕ) (a b c : Placed) (i : ℕ) → climbing 0 ps ≡ true → i < length ps → ((k : ℕ) → sign_on c k ≡ cond (eqb k i) None (joint (sign_on a k) (sign_on b k))) → sign_at (spell ps a) (get_or ps i 0) ≡ Some Plus → sign_at (spell ps b) (get_or ps i 0) ≡ Some Minus → Combination (get_or ps i 0) (spell ps a) (spell ps b) (spell ps c)
joined_over ps a b c i r l s plus minus =
    record { plus = plus; minus = minus; spelled = spelled_rises ps c r; dropped = joined_dropped ps a b c i r l s; others = λ q ne. joined_elsewhere ps a b c i q r l s ne }
