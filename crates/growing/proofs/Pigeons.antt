-- A list of different elements is no longer than a list that has them all. Assumes nothing.
use Rattle.std.proofs.Common.{◌≡◌, ℕ, zero, suc, ◌<◌, ◌≤◌, true, false, List, [], ◌∷◌, length, get_or, sym, refl, ap, ◌∙◌, subst, ⊎_elim, arith}
use Rattle.std.specs.List.{ContainsAt as Has, AllByRecursion}
use Rattle.std.proofs.ByRecursion.{all-has, all_has_itself, All-map, All-weaker}
use Rattle.std.proofs.lemmas.Bool.{and_parts, both_ways}
use Rattle.groups.specs.declared.items.Item.{Item}
use Rattle.groups.specs.Items.{covers}
use Rattle.groups.specs.Rises.{climbing}
use Rattle.meaning.specs.Tables.{before_all, in_order}
use Rattle.meaning.proofs.Ends.{covers_itself}
use Rattle.meaning.proofs.Members.{has_none, has_first, has_later, has_cases}
use Rattle.meaning.proofs.OneTable.{before_each}
use Rattle.meaning.proofs.Order.{order_is_strict}
use Rattle.placed.specs.declared.Placed.{Placed}
use Rattle.placed.specs.Spelling.{spell}
use Rattle.placed.proofs.Spelled.{spelled_rises}
use Rattle.rows.specs.Rows.{spell_all}
use Rattle.growing.specs.Gathered.{Apart}

-- no element stands twice
abbrev pub Different : {X : Type 0} → List X → Type 0
Different [] = Unit {0}
Different (x ∷ xs) = (Has xs x → ⊥) × Different xs

-- a list without the element at a place
removed : {X : Type 0} → ℕ → List X → List X
removed k [] = []
removed zero (y ∷ ys) = ys
removed (suc k) (y ∷ ys) = y ∷ removed k ys

removed_length : {X : Type 0} (k : ℕ) (ys : List X) → k < length ys → suc (length (removed k ys)) ≡ length ys
unfolding removed
removed_length k [] l = absurd (omega arith)
removed_length zero (y ∷ ys) l = refl
removed_length (suc k) (y ∷ ys) l = ap suc (removed_length k ys (omega arith))

removed_has : {X : Type 0} (k : ℕ) (ys : List X) (y : X) → k < length ys → Has ys y → ((d : X) → get_or ys k d ≡ y → ⊥) → Has (removed k ys) y
unfolding removed
removed_has k [] y l h ne = absurd (has_none y h)
removed_has zero (z ∷ ys) y l h ne = ⊎_elim (λ e. absurd (ne z e)) (λ m. m) (has_cases z y ys h)
removed_has (suc k) (z ∷ ys) y l h ne =
    ⊎_elim
    (λ e. subst (Has (z ∷ removed k ys)) e (has_first z (removed k ys)))
    (λ m. has_later z y (removed k ys) (removed_has k ys y (omega arith) m ne))
    (has_cases z y ys h)

-- what holds of each element, with the element in the list
with_itself : {X : Type 0} (P : X → Type 0) (xs : List X) → AllByRecursion P xs → AllByRecursion (λ y. P y × Has xs y) xs
with_itself P xs b = All-weaker (Has xs) (λ y. P y × Has xs y) (λ y m. (all-has P xs y b m, m)) xs (all_has_itself xs)

pub no_longer : {X : Type 0} (xs ys : List X) → Different xs → AllByRecursion (Has ys) xs → length xs ≤ length ys
no_longer [] ys d a = omega arith
no_longer (x ∷ xs) ys d a =
    let h = a.0 in
    let l = removed_length h.0 ys h.1 in
    let r = no_longer xs (removed h.0 ys) d.1 (All-weaker (λ y. Has ys y × Has xs y) (Has (removed h.0 ys)) (λ y m. removed_has h.0 ys y h.1 m.0 (λ e q. d.0 (subst (Has xs) (sym q ∙ h.2 e) m.1))) xs (with_itself (Has ys) xs a.1)) in
    omega arith

-- groups in order are different
pub order_different : (t : List (List Item)) → in_order t ≡ true → Different t
order_different [] h = tt
order_different (g ∷ t) h =
    let parts = and_parts (before_all g t) (in_order t) h in
    ((λ m. let b = before_each g t parts.0 g m in order_is_strict.one_way g g b b), order_different t parts.1)

-- groups of which none is covered by one before it are different
pub apart_different : (ps : List ℕ) (gs : List Placed) → climbing 0 ps ≡ true → Apart ps gs → Different (spell_all ps gs)
apart_different ps [] c a = tt
apart_different ps (g ∷ gs) c a =
    ((λ m. both_ways (covers (spell ps g) (spell ps g)) (all-has (λ h. covers (spell ps g) h ≡ false) (spell_all ps gs) (spell ps g) (All-map (λ h. covers (spell ps g) h ≡ false) (spell ps) gs a.0) m) (covers_itself (spell ps g) (spelled_rises ps g c))), apart_different ps gs c a.1)
