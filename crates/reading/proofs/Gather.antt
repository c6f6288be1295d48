-- Items put one after the other into a group. Assumes nothing.
use Rattle.std.proofs.Common.{◌≡◌, ℕ, ◌+◌, ◌≤◌, true, false, List, [], ◌∷◌, ◌++◌, length, is_some, Some, None, Option, sym, refl, ap, ◌∙◌, ⊎_elim, arith}
use Rattle.std.proofs.lemmas.Bool.{cases_eq, eq-eqb, ne_eqb, cond-true, cond-false, both_ways}
use Rattle.groups.specs.declared.items.Item.{Item}
use Rattle.groups.specs.declared.items.Sign.{Sign}
use Rattle.groups.specs.Items.{rising, sign_at, names, insert}
use Rattle.groups.proofs.Rising.{insert_rises, insert_sign, unnamed}
use Rattle.reading.specs.Grammar.{Items, Once, none, more}
use Rattle.reading.proofs.Items.{length_insert}

-- the items seen and more items, each put into its place
abbrev pub gather : List Item → List Item → List Item
gather seen [] = seen
gather seen (i ∷ is) = gather (insert i seen) is

-- in turn, no plate is named before
abbrev pub Apart : List Item → List Item → Type 0
Apart seen [] = Unit {0}
Apart seen (i ∷ is) = (names seen i.plate ≡ false) × Apart (insert i seen) is

-- each plate is a lever's
abbrev pub Fit : List Item → Type 0
Fit [] = Unit {0}
Fit (i ∷ is) = (1 ≤ i.plate) × (i.plate ≤ 2097151) × Fit is

pub items_fit : {text : List ℕ} {its : List Item} → Items text its → Fit its
items_fit none = tt
items_fit (more s n h) = (n.low, n.high, items_fit h)

pub fit_push : (is : List Item) (i : Item) → Fit is → 1 ≤ i.plate → i.plate ≤ 2097151 → Fit (is ++ (i ∷ []))
fit_push [] i h l u = (l, u, tt)
fit_push (x ∷ is) i h l u = (h.0, h.1, fit_push is i h.2 l u)

pub gather_push : (seen is : List Item) (i : Item) → gather seen (is ++ (i ∷ [])) ≡ insert i (gather seen is)
gather_push seen [] i = refl
gather_push seen (x ∷ is) i = gather_push (insert x seen) is i

pub apart_push : (seen is : List Item) (i : Item) → Apart seen is → names (gather seen is) i.plate ≡ false → Apart seen (is ++ (i ∷ []))
apart_push seen [] i h n = (n, tt)
apart_push seen (x ∷ is) i h n = (h.0, apart_push (insert x seen) is i h.1 n)

pub apart_front : (seen is : List Item) (i : Item) → Apart seen (is ++ (i ∷ [])) → Apart seen is × (names (gather seen is) i.plate ≡ false)
apart_front seen [] i h = (tt, h.0)
apart_front seen (x ∷ is) i h = let r = apart_front (insert x seen) is i h.1 in ((h.0, r.0), r.1)

pub length_gather : (seen is : List Item) → length (gather seen is) ≡ length is + length seen
length_gather seen [] = omega arith
length_gather seen (i ∷ is) = let h = length_gather (insert i seen) is in let l = length_insert i seen in omega arith

pub names_insert : (i : Item) (seen : List Item) (p : ℕ) → names seen i.plate ≡ false → names (insert i seen) p ≡ names (i ∷ seen) p
names_insert i seen p h = ap is_some (insert_sign i seen p (unnamed (sign_at seen i.plate) seen i.plate h refl))

named_first : (i : Item) (is : List Item) → names (i ∷ is) i.plate ≡ true
named_first i is = ap is_some (cond-true _ _ _ (eq-eqb i.plate i.plate refl))

named_rest : (i : Item) (is : List Item) (p : ℕ) → (i.plate ≡ p → ⊥) → names (i ∷ is) p ≡ names is p
named_rest i is p h = ap is_some (cond-false _ _ _ (ne_eqb i.plate p h))

-- plates that are named once, and not before, are apart
pub once_apart : (seen is : List Item) → Once is → ((p : ℕ) → names is p ≡ true → names seen p ≡ false) → Apart seen is
once_apart seen [] o d = tt
once_apart seen (i ∷ is) o d =
    let new = d i.plate (named_first i is) in (
      new,
      once_apart (insert i seen) is o.1 (λ p h.
          let ne : i.plate ≡ p → ⊥ = λ e. both_ways (names is p) (ap (names is) (sym e) ∙ o.0) h in
          names_insert i seen p new ∙ named_rest i seen p ne ∙ d p (named_rest i is p ne ∙ h)),
    )

pub apart_once : (seen is : List Item) → Apart seen is → Once is × ((p : ℕ) → names seen p ≡ true → names is p ≡ false)
apart_once seen [] a = (tt, λ p h. refl)
apart_once seen (i ∷ is) a =
    let r = apart_once (insert i seen) is a.1 in (
      (r.1 i.plate (names_insert i seen i.plate a.0 ∙ named_first i seen), r.0),
      λ p h.
          let ne : i.plate ≡ p → ⊥ = λ e. both_ways (names seen p) (ap (names seen) (sym e) ∙ a.0) h in
          named_rest i is p ne ∙ r.1 p (names_insert i seen p a.0 ∙ named_rest i seen p ne ∙ h),
    )

-- the items gathered rise
pub gather_rises : (seen is : List Item) → Fit is → Apart seen is → rising 0 seen ≡ true → rising 0 (gather seen is) ≡ true
gather_rises seen [] f a r = r
gather_rises seen (i ∷ is) f a r =
    gather_rises (insert i seen) is f.2 a.1 (insert_rises i 0 seen f.0 f.1 (unnamed (sign_at seen i.plate) seen i.plate a.0 refl) r)

abbrev first_of : Option Sign → Option Sign → Option Sign
first_of None t = t
first_of (Some s) t = Some s

first_none : (o : Option Sign) → first_of o None ≡ o
first_none None = refl
first_none (Some s) = refl

-- and say of each plate what the items say
gather_signs : (seen is : List Item) (p : ℕ) → Apart seen is → sign_at (gather seen is) p ≡ first_of (sign_at is p) (sign_at seen p)
gather_signs seen [] p a = refl
gather_signs seen (i ∷ is) p a =
    gather_signs (insert i seen) is p a.1
    ∙ ap (first_of (sign_at is p)) (insert_sign i seen p (unnamed (sign_at seen i.plate) seen i.plate a.0 refl))
    ∙ ⊎_elim
    (λ e.
    let once = (apart_once seen (i ∷ is) a).0.0 in
    let rest : sign_at is p ≡ None = unnamed (sign_at is p) is p (ap (names is) (sym e) ∙ once) refl in
    ap (λ o. first_of o (sign_at (i ∷ seen) p)) rest
    ∙ cond-true _ _ _ (eq-eqb i.plate p e)
    ∙ sym (ap (λ o. first_of o (sign_at seen p)) (cond-true _ _ _ (eq-eqb i.plate p e))))
    (λ ne.
    ap (first_of (sign_at is p)) (cond-false _ _ _ (ne_eqb i.plate p ne))
    ∙ sym (ap (λ o. first_of o (sign_at seen p)) (cond-false _ _ _ (ne_eqb i.plate p ne))))
    (cases_eq i.plate p)

pub gather_says : (is : List Item) (p : ℕ) → Apart [] is → sign_at (gather [] is) p ≡ sign_at is p
gather_says is p a = gather_signs [] is p a ∙ first_none (sign_at is p)
