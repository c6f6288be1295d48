-- Groups over fitted plates, and groups made by giving each plate a sign. Assumes nothing.
use Rattle.std.proofs.Common.{◌≡◌, ℕ, true, false, eqb, ltb, ◌⊎◌, List, [], ◌∷◌, ◌++◌, is_some, Some, None, Option, sym, refl, ap, ◌∙◌, inl, inr, ⊎_elim, arith}
use Rattle.std.proofs.lemmas.Bool.{and_parts, and_from, or_cases, or_parts, eq-eqb, ne_eqb, eqb-true, eqb-false, cond-true, cond-false, cond_both, cases_eq, cases_Bool, both_ways, false≢true}
use Rattle.groups.specs.declared.items.Item.{Item}
use Rattle.groups.specs.declared.items.Sign.{Sign}
use Rattle.groups.specs.Items.{rising, sign_at, names, insert}
use Rattle.groups.specs.Rises.{climbing, item_if, items_on}
use Rattle.groups.proofs.Climbing.{climbing_step}
use Rattle.groups.proofs.Rising.{unnamed_below, same_signs}
use Rattle.groups.proofs.Single.{item_rises, item_here, item_other}
use Rattle.meaning.specs.Frames.{is_one_of, fitted_in, group_over}
use Rattle.meaning.proofs.Ends.{End, ends}

-- a plate that is not named has no sign
pub unnamed_none : (g : List Item) (p : ℕ) → names g p ≡ false → sign_at g p ≡ None
unnamed_none g p h = go (sign_at g p) h
  where
    go : (o : Option Sign) → is_some o ≡ false → o ≡ None
    go None q = refl
    go (Some s) q = absurd (false≢true (sym q))

pub has_named : (g : List Item) (p : ℕ) (e : End) → ends (sign_at g p) e ≡ true → names g p ≡ true
has_named g p e h = go (sign_at g p) h
  where
    go : (o : Option Sign) → ends o e ≡ true → is_some o ≡ true
    go None q = absurd (false≢true q)
    go (Some s) q = refl

-- each named plate is fitted
pub fitted_names : (ps : List ℕ) (g : List Item) → fitted_in ps g ≡ true → (p : ℕ) → names g p ≡ true → is_one_of ps p ≡ true
fitted_names ps [] h p n = absurd (false≢true n)
fitted_names ps (i ∷ g) h p n =
    let parts = and_parts (is_one_of ps i.plate) (fitted_in ps g) h in
    ⊎_elim
    (λ same. ap (is_one_of ps) (sym same) ∙ parts.0)
    (λ ne. fitted_names ps g parts.1 p (ap is_some (sym (cond-false _ _ _ (ne_eqb i.plate p ne))) ∙ n))
    (cases_eq i.plate p)

pub names_fitted : (ps : List ℕ) (g : List Item) → ((p : ℕ) → names g p ≡ true → is_one_of ps p ≡ true) → fitted_in ps g ≡ true
names_fitted ps [] h = refl
names_fitted ps (i ∷ g) h =
    and_from _ _
    (h i.plate (ap is_some (cond-true _ _ _ (eq-eqb i.plate i.plate refl))))
    (names_fitted ps g (λ p n. h p (cond_both (eqb i.plate p) (Some i.sign) (sign_at g p) (λ o. is_some o ≡ true) (λ _. refl) (λ _. n))))

-- what is said of a plate that is not fitted
pub unfitted_none : (ps : List ℕ) (g : List Item) → fitted_in ps g ≡ true → (p : ℕ) → is_one_of ps p ≡ false → sign_at g p ≡ None
unfitted_none ps g h p u =
    ⊎_elim
    (λ n. absurd (both_ways (is_one_of ps p) u (fitted_names ps g h p n)))
    (λ n. unnamed_none g p n)
    (cases_Bool (names g p))

-- the items of plates that rise
pub items_rise : (sign : ℕ → Option Sign) (low : ℕ) (ps : List ℕ) → climbing low ps ≡ true → rising low (items_on sign ps) ≡ true
items_rise sign low [] c = refl
items_rise sign low (p ∷ ps) c =
    let s = climbing_step low p ps c in
    item_rises (sign p) low p (items_on sign ps) s.above s.upto (items_rise sign p ps s.rest)

-- a fitted plate has the sign that it is given
items_sign : (sign : ℕ → Option Sign) (low : ℕ) (ps : List ℕ) → climbing low ps ≡ true → (p : ℕ) → is_one_of ps p ≡ true → sign_at (items_on sign ps) p ≡ sign p
items_sign sign low [] c p h = absurd (false≢true h)
items_sign sign low (q ∷ ps) c p h =
    let s = climbing_step low q ps c in
    ⊎_elim
    (λ same. ap (sign_at (item_if q (sign q) ++ items_on sign ps)) (sym same) ∙ item_here (sign q) q (items_on sign ps) (unnamed_below q q (items_on sign ps) (omega arith) (items_rise sign q ps s.rest)) ∙ ap sign same)
    (λ ne. item_other (sign q) q p (items_on sign ps) ne ∙ items_sign sign q ps s.rest p (later ne (or_cases (eqb q p) (is_one_of ps p) h)))
    (cases_eq q p)
  where
    later : (q ≡ p → ⊥) → (eqb q p ≡ true) ⊎ (is_one_of ps p ≡ true) → is_one_of ps p ≡ true
    later ne (inl e) = absurd (ne (eqb-true q p e))
    later ne (inr m) = m

-- no other plate has one
items_none : (sign : ℕ → Option Sign) (ps : List ℕ) (p : ℕ) → is_one_of ps p ≡ false → sign_at (items_on sign ps) p ≡ None
items_none sign [] p h = refl
items_none sign (q ∷ ps) p h =
    let parts = or_parts (eqb q p) (is_one_of ps p) h in
    item_other (sign q) q p (items_on sign ps) (eqb-false q p parts.0) ∙ items_none sign ps p parts.1

-- signs that only fitted plates are given
pub items_all : (sign : ℕ → Option Sign) (ps : List ℕ) → climbing 0 ps ≡ true → ((p : ℕ) → is_one_of ps p ≡ false → sign p ≡ None) → (p : ℕ) → sign_at (items_on sign ps) p ≡ sign p
items_all sign ps c n p =
    ⊎_elim
    (λ h. items_sign sign 0 ps c p h)
    (λ h. items_none sign ps p h ∙ sym (n p h))
    (cases_Bool (is_one_of ps p))

pub items_over : (sign : ℕ → Option Sign) (ps : List ℕ) → climbing 0 ps ≡ true → group_over ps (items_on sign ps) ≡ true
items_over sign ps c =
    and_from _ _
    (items_rise sign 0 ps c)
    (names_fitted ps (items_on sign ps) (λ p n.
    ⊎_elim
    (λ h. h)
    (λ h. absurd (false≢true (sym (ap is_some (items_none sign ps p h)) ∙ n)))
    (cases_Bool (is_one_of ps p))))

pub record Over (ps : List ℕ) (g : List Item) : Type 0 where
  pub rises : rising 0 g ≡ true
  pub fitted : fitted_in ps g ≡ true

pub over_parts : (ps : List ℕ) (g : List Item) → group_over ps g ≡ true → Over ps g
over_parts ps g h = let parts = and_parts (rising 0 g) (fitted_in ps g) h in record { rises = parts.0; fitted = parts.1 }

-- a group over fitted plates is made of the signs that it gives them
pub items_again : (ps : List ℕ) (g : List Item) → climbing 0 ps ≡ true → group_over ps g ≡ true → items_on (sign_at g) ps ≡ g
items_again ps g c h =
    let o = over_parts ps g h in
    same_signs 0 (items_on (sign_at g) ps) g (items_rise (sign_at g) 0 ps c) o.rises (items_all (sign_at g) ps c (unfitted_none ps g o.fitted))

-- one more item on a fitted plate
pub insert_fitted : (ps : List ℕ) (i : Item) (g : List Item) → is_one_of ps i.plate ≡ true → fitted_in ps g ≡ true → fitted_in ps (insert i g) ≡ true
insert_fitted ps i [] h k = and_from _ _ h refl
insert_fitted ps i (j ∷ g) h k =
    cond_both (ltb i.plate j.plate) (i ∷ j ∷ g) (j ∷ insert i g) (λ l. fitted_in ps l ≡ true)
    (λ _. and_from _ _ h k)
    (λ _. let parts = and_parts (is_one_of ps j.plate) (fitted_in ps g) k in and_from _ _ parts.0 (insert_fitted ps i g h parts.1))
