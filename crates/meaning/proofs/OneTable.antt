-- A frame has one table. Assumes nothing.
use Rattle.std.proofs.Common.{◌≡◌, true, List, [], ◌∷◌, sym, refl, ap, ◌∙◌, ⊎_elim}
use Rattle.std.specs.List.{ContainsAt as Has}
use Rattle.std.proofs.ByRecursion.{all-has}
use Rattle.std.proofs.lemmas.Bool.{and_parts}
use Rattle.groups.specs.declared.items.Item.{Item}
use Rattle.meaning.specs.Frames.{Shortest}
use Rattle.meaning.specs.Tables.{before, before_all, in_order}
use Rattle.meaning.specs.Laws.{OneTable}
use Rattle.meaning.proofs.Members.{has_none, has_first, has_later, has_cases}
use Rattle.meaning.proofs.Order.{order_is_strict}

-- what comes before all groups of a list comes before each of them
pub before_each : (g : List Item) (t : List (List Item)) → before_all g t ≡ true → (h : List Item) → Has t h → before g h ≡ true
before_each g [] a h k = absurd (has_none h k)
before_each g (x ∷ t) a h k =
    let p = and_parts (before g x) (before_all g t) a in
    ⊎_elim (λ e. ap (before g) (sym e) ∙ p.0) (before_each g t p.1 h) (has_cases x h t k)

-- a group that comes before all of a list is not in it
not_behind : (g : List Item) (t : List (List Item)) → before_all g t ≡ true → (h : List Item) → g ≡ h → Has t h → ⊥
not_behind g t a h e k =
    let p = before_each g t a h k in
    let q : before h g ≡ true = ap (before h) e ∙ ap (λ x. before x h) (sym e) ∙ p in
    order_is_strict.one_way g h p q

-- the first groups of two lists in order with the same groups
first_same : (x y : List Item) (t u : List (List Item)) → before_all x t ≡ true → before_all y u ≡ true → Has (y ∷ u) x → Has (x ∷ t) y → x ≡ y
first_same x y t u a b h k =
    ⊎_elim
    sym
    (λ m. ⊎_elim (λ e. e) (λ n. absurd (order_is_strict.one_way x y (before_each x t a y n) (before_each y u b x m))) (has_cases x y t k))
    (has_cases y x u h)

-- behind the same first group each list has what the other has
rest_has : (x y : List Item) (t u : List (List Item)) → x ≡ y → before_all x t ≡ true → ((g : List Item) → Has (x ∷ t) g → Has (y ∷ u) g) → (g : List Item) → Has t g → Has u g
rest_has x y t u e a h g k = ⊎_elim (λ q. absurd (not_behind x t a g (e ∙ q) k)) (λ m. m) (has_cases y g u (h g (has_later x g t k)))

-- two lists in order with the same groups are the same
pub same_groups : (t u : List (List Item)) → in_order t ≡ true → in_order u ≡ true → ((g : List Item) → Has t g → Has u g) → ((g : List Item) → Has u g → Has t g) → t ≡ u
same_groups [] [] p q a b = refl
same_groups [] (y ∷ u) p q a b = absurd (has_none y (b y (has_first y u)))
same_groups (x ∷ t) [] p q a b = absurd (has_none x (a x (has_first x t)))
same_groups (x ∷ t) (y ∷ u) p q a b =
    let v = and_parts (before_all x t) (in_order t) p in
    let w = and_parts (before_all y u) (in_order u) q in
    let e = first_same x y t u v.0 w.0 (a x (has_first x t)) (b y (has_first y u)) in
    let r = same_groups t u v.1 w.1 (rest_has x y t u e v.0 a) (rest_has y x u t (sym e) w.0 b) in
    λ i. e i ∷ r i

pub one_table : OneTable
one_table f t u a b =
    same_groups t u a.order b.order
    (λ g h. b.every g (all-has (Shortest f) t g a.only h))
    (λ g h. a.every g (all-has (Shortest f) u g b.only h))
