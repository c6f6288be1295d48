-- The steps by which the table tells: the groups of the table, the places of the line, one place. Assumes nothing.
use Rattle.std.proofs.Common.{◌||◌, drop, ◌≡◌, ℕ, zero, suc, ◌+◌, ◌<◌, ◌≤◌, Bool, true, false, cond, ◌&&◌, eqb, ltb, ◌⊎◌, List, [], ◌∷◌, ◌++◌, length, get_or, Some, None, Option, sym, refl, ap, ◌∙◌, subst, inl, inr, ⊎_elim, arith}
use Rattle.std.proofs.ByRecursion.{All-get_or}
use Rattle.std.proofs.lemmas.List.{at_drop_more, at_drop_all}
use Rattle.std.specs.Bool.{MatchBool}
use Rattle.std.specs.List.{AllWithin as AllOf, HoldsAt, range_with_len}
use Rattle.std.proofs.lemmas.List.FromFn.{length-range_with_len, get_or-range_with_len}
use Rattle.std.proofs.lemmas.Bool.{cases_eq, eq-eqb, ne_eqb, cond-true, cond-false, and_from, and_left, and_right, or_left, or_right, or_from, lt-ltb}
use Rattle.groups.specs.declared.items.Item.{Item}
use Rattle.groups.specs.declared.items.Sign.{Sign}
use Rattle.groups.specs.Items.{sign_at, insert, covers}
use Rattle.groups.specs.Rises.{climbing, item_if}
use Rattle.groups.proofs.Climbing.{climbing_above, climbing_upto, one_place, place_cases}
use Rattle.groups.proofs.Rising.{same_signs, insert_rises, insert_sign}
use Rattle.meaning.specs.Tables.{covered_by}
use Rattle.meaning.specs.Laws.{all_settled}
use Rattle.placed.specs.declared.Placed.{Placed}
use Rattle.placed.specs.Signs.{Within, sign_on}
use Rattle.placed.specs.Spelling.{spell, spell_from}
use Rattle.placed.proofs.Spelled.{spelled_sign, spelled_none, spelled_rises}
use Rattle.rows.specs.Rows.{spell_all, AllWithin}
use Rattle.telling.specs.declared.Gap.TheVariants.{Filled, Opposite, Open}
use Rattle.telling.specs.Gaps.{gap_of}
use Rattle.telling.specs.Told.{Holds, settled_if, SettledOver}

-- ## The groups of the table

-- a group at some place covers
pub covered_at : (ps : List ℕ) (table : List Placed) (g : List Item) (i : ℕ) (d : Placed) → i < length table → covers (spell ps (get_or table i d)) g ≡ true → covered_by (spell_all ps table) g ≡ true
covered_at ps [] g i d l h = absurd (omega arith)
covered_at ps (a ∷ table) g zero d l h = or_left (covers (spell ps a) g) (covered_by (spell_all ps table) g) h
covered_at ps (a ∷ table) g (suc i) d l h = or_right (covers (spell ps a) g) (covered_by (spell_all ps table) g) (covered_at ps table g i d (omega arith) h)

-- no group at any place covers
pub covered_nowhere : (ps : List ℕ) (table : List Placed) (g : List Item) (d : Placed) → ((j : ℕ) → j < length table → covers (spell ps (get_or table j d)) g ≡ false) → covered_by (spell_all ps table) g ≡ false
covered_nowhere ps [] g d h = refl
covered_nowhere ps (a ∷ table) g d h = or_from _ _ (h 0 (omega arith)) (covered_nowhere ps table g d (λ j l. h (suc j) (omega arith)))

pub within_at : (ps : List ℕ) (table : List Placed) (i : ℕ) (d : Placed) → i < length table → AllWithin (length ps) table → Within (length ps) (get_or table i d)
within_at ps table i d l w = All-get_or (Within (length ps)) table i d l w

-- the groups from one place on
module _ (ps : List ℕ) (table : List Placed) (g : Placed) (i : ℕ) (d : Placed) (l : i < length table) where
  abbrev pub CoveredFrom : ℕ → Bool
  CoveredFrom k = covered_by (spell_all ps (drop k table)) (spell ps g)

  covered_next : CoveredFrom i ≡ (covers (spell ps (get_or table i d)) (spell ps g) || CoveredFrom (i + 1))
  covered_next = at_drop_more (λ gs. covered_by (spell_all ps gs) (spell ps g)) table i d l

  pub covered_here : covers (spell ps (get_or table i d)) (spell ps g) ≡ true → CoveredFrom i ≡ true
  covered_here h = covered_next ∙ ap (λ b. b || CoveredFrom (i + 1)) h

  pub covered_later : covers (spell ps (get_or table i d)) (spell ps g) ≡ false → CoveredFrom (i + 1) ≡ CoveredFrom i
  covered_later h = sym (covered_next ∙ ap (λ b. b || CoveredFrom (i + 1)) h)

pub covered_end : (ps : List ℕ) (table : List Placed) (g : Placed) (i : ℕ) → length table ≤ i → covered_by (spell_all ps (drop i table)) (spell ps g) ≡ false
covered_end ps table g i l = at_drop_all (λ gs. covered_by (spell_all ps gs) (spell ps g)) table i l

-- ## The places of the line

settled_item : (t : List (List Item)) (g : List Item) (p : ℕ) (o : Option Sign) (xs : List Item) → all_settled t g (item_if p o ++ xs) ≡ (settled_if t g p o && all_settled t g xs)
settled_item t g p None xs = refl
settled_item t g p (Some s) xs = refl

settled_from : (t : List (List Item)) (g : List Item) (line : Placed) (k : ℕ) (ps : List ℕ) → ((j : ℕ) → j < length ps → settled_if t g (get_or ps j 0) (sign_on line (k + j)) ≡ true) → all_settled t g (spell_from k ps line) ≡ true
settled_from t g line k [] h = refl
settled_from t g line k (p ∷ ps) h =
    settled_item t g p (sign_on line k) (spell_from (suc k) ps line)
    ∙ and_from _ _
    (ap (λ n. settled_if t g p (sign_on line n)) (let e : k ≡ k + 0 = omega arith in e) ∙ h 0 (omega arith))
    (settled_from t g line (suc k) ps (λ j l. ap (λ n. settled_if t g (get_or ps j 0) (sign_on line n)) (let e : suc k + j ≡ k + suc j = omega arith in e) ∙ h (suc j) (omega arith)))

unsettled_from : (t : List (List Item)) (g : List Item) (line : Placed) (k : ℕ) (ps : List ℕ) (j : ℕ) → j < length ps → settled_if t g (get_or ps j 0) (sign_on line (k + j)) ≡ false → all_settled t g (spell_from k ps line) ≡ false
unsettled_from t g line k [] j l h = absurd (omega arith)
unsettled_from t g line k (p ∷ ps) zero l h =
    settled_item t g p (sign_on line k) (spell_from (suc k) ps line)
    ∙ and_left _ _ (ap (λ n. settled_if t g p (sign_on line n)) (let e : k ≡ k + 0 = omega arith in e) ∙ h)
unsettled_from t g line k (p ∷ ps) (suc j) l h =
    settled_item t g p (sign_on line k) (spell_from (suc k) ps line)
    ∙ and_right _ _ (unsettled_from t g line (suc k) ps j (omega arith) (ap (λ n. settled_if t g (get_or ps j 0) (sign_on line n)) (let e : suc k + j ≡ k + suc j = omega arith in e) ∙ h))

-- what a search through the places for one that is not settled answers
pub settled_told : (ps : List ℕ) (table : List Placed) (line g : Placed) (places : ℕ) (r : Bool) → Holds ps table → length ps ≡ places → MatchBool r (AllOf (λ k. SettledOver table line g k true) (range_with_len 0 places) 0 (length (range_with_len 0 places))) ((k : ℕ) × (k < length (range_with_len 0 places)) × HoldsAt (λ k. SettledOver table line g k false) (range_with_len 0 places) k) → r ≡ all_settled (spell_all ps table) (spell ps g) (spell ps line)
settled_told ps table line g places true h e m =
    let n = length-range_with_len 0 places in
    sym (settled_from (spell_all ps table) (spell ps g) line 0 ps (λ j l.
    let q : get_or (range_with_len 0 places) j 0 ≡ j = get_or-range_with_len 0 places j 0 (omega arith) ∙ omega arith in
    ap (λ k. settled_if (spell_all ps table) (spell ps g) (get_or ps j 0) (sign_on line k)) (let z : 0 + j ≡ j = omega arith in z)
    ∙ sym (subst (λ k. SettledOver table line g k true) q (m j 0 (omega arith) (omega arith)) ps h l)))
settled_told ps table line g places false h e m =
    let n = length-range_with_len 0 places in
    let l : m.0 < length ps = let b = m.1 in omega arith in
    let q : get_or (range_with_len 0 places) m.0 0 ≡ m.0 = get_or-range_with_len 0 places m.0 0 (omega arith) ∙ omega arith in
    sym (unsettled_from (spell_all ps table) (spell ps g) line 0 ps m.0 l
    (ap (λ k. settled_if (spell_all ps table) (spell ps g) (get_or ps m.0 0) (sign_on line k)) (let z : 0 + m.0 ≡ m.0 = omega arith in z)
    ∙ sym (subst (λ k. SettledOver table line g k false) q (m.2 0) ps h l)))

-- ## One place

gap_filled : (t : List (List Item)) (g : List Item) (p : ℕ) (o u : Option Sign) → sign_at g p ≡ u → Filled ≡ gap_of o u → settled_if t g p o ≡ true
gap_filled t g p o u e h = grind arith

gap_open : (t : List (List Item)) (g : List Item) (p : ℕ) (o u : Option Sign) → sign_at g p ≡ u → Open ≡ gap_of o u → settled_if t g p o ≡ false
gap_open t g p o u e h = grind arith

gap_opposite : (t : List (List Item)) (g : List Item) (p : ℕ) (o u : Option Sign) (s : Sign) → sign_at g p ≡ u → Opposite s ≡ gap_of o u → settled_if t g p o ≡ covered_by t (insert (record { plate = p; sign = s }) g)
gap_opposite t g p o u s e h = grind arith

gap_unnamed : (o u : Option Sign) (s : Sign) → Opposite s ≡ gap_of o u → u ≡ None
gap_unnamed o u s h = grind arith

-- the group with one more sign spells one more item
pub spell_insert : (ps : List ℕ) (k : ℕ) (g h : Placed) (s : Sign) → climbing 0 ps ≡ true → length ps ≤ 32 → k < length ps → sign_on g k ≡ None → ((j : ℕ) → sign_on h j ≡ cond (eqb j k && ltb k 32) (Some s) (sign_on g j)) → insert (record { plate = get_or ps k 0; sign = s }) (spell ps g) ≡ spell ps h
spell_insert ps k g h s c few l none given =
    let x : Item = record { plate = get_or ps k 0; sign = s } in
    let unnamed : sign_at (spell ps g) (get_or ps k 0) ≡ None = spelled_sign ps g k c l ∙ none in
    same_signs 0 (insert x (spell ps g)) (spell ps h)
    (insert_rises x 0 (spell ps g) (climbing_above 0 ps k c l) (climbing_upto 0 ps k c l) unnamed (spelled_rises ps g c))
    (spelled_rises ps h c)
    (λ q. insert_sign x (spell ps g) q unnamed ∙ at_plate q (place_cases ps q))
  where
    at_place : (j : ℕ) → j < length ps → cond (eqb (get_or ps k 0) (get_or ps j 0)) (Some s) (sign_at (spell ps g) (get_or ps j 0)) ≡ sign_at (spell ps h) (get_or ps j 0)
    at_place j m =
        ⊎_elim
        (λ e. cond-true (eqb (get_or ps k 0) (get_or ps j 0)) (Some s) (sign_at (spell ps g) (get_or ps j 0)) (eq-eqb (get_or ps k 0) (get_or ps j 0) (ap (λ n. get_or ps n 0) (sym e))) ∙ sym (spelled_sign ps h j c m ∙ given j ∙ cond-true (eqb j k && ltb k 32) (Some s) (sign_on g j) (and_from _ _ (eq-eqb j k e) (lt-ltb k 32 (omega arith)))))
        (λ ne. cond-false (eqb (get_or ps k 0) (get_or ps j 0)) (Some s) (sign_at (spell ps g) (get_or ps j 0)) (ne_eqb (get_or ps k 0) (get_or ps j 0) (λ e. ne (one_place 0 ps j k c m l (sym e)))) ∙ spelled_sign ps g j c m ∙ sym (spelled_sign ps h j c m ∙ given j ∙ cond-false (eqb j k && ltb k 32) (Some s) (sign_on g j) (and_left (eqb j k) (ltb k 32) (ne_eqb j k ne))))
        (cases_eq j k)

    at_plate : (q : ℕ) → ((j : ℕ) × (j < length ps) × (get_or ps j 0 ≡ q)) ⊎ ((j : ℕ) → j < length ps → get_or ps j 0 ≡ q → ⊥) → cond (eqb (get_or ps k 0) q) (Some s) (sign_at (spell ps g) q) ≡ sign_at (spell ps h) q
    at_plate q (inl f) = subst (λ n. cond (eqb (get_or ps k 0) n) (Some s) (sign_at (spell ps g) n) ≡ sign_at (spell ps h) n) f.2 (at_place f.0 f.1)
    at_plate q (inr n) = cond-false (eqb (get_or ps k 0) q) (Some s) (sign_at (spell ps g) q) (ne_eqb (get_or ps k 0) q (n k l)) ∙ spelled_none ps g q n ∙ sym (spelled_none ps h q n)

-- what is left open of a line's sign tells whether it is settled
module _ (table : List Placed) (line g : Placed) (k : ℕ) (ps : List ℕ) (holds : Holds ps table) (l : k < length ps) where
  here : sign_at (spell ps g) (get_or ps k 0) ≡ sign_on g k
  here = spelled_sign ps g k holds.climbs l

  pub told_filled : Filled ≡ gap_of (sign_on line k) (sign_on g k) → true ≡ settled_if (spell_all ps table) (spell ps g) (get_or ps k 0) (sign_on line k)
  told_filled h = sym (gap_filled (spell_all ps table) (spell ps g) (get_or ps k 0) (sign_on line k) (sign_on g k) here h)

  pub told_open : Open ≡ gap_of (sign_on line k) (sign_on g k) → false ≡ settled_if (spell_all ps table) (spell ps g) (get_or ps k 0) (sign_on line k)
  told_open h = sym (gap_open (spell_all ps table) (spell ps g) (get_or ps k 0) (sign_on line k) (sign_on g k) here h)

  pub told_opposite : (s : Sign) (h : Placed) (r : Bool) → Opposite s ≡ gap_of (sign_on line k) (sign_on g k) → ((j : ℕ) → sign_on h j ≡ cond (eqb j k && ltb k 32) (Some s) (sign_on g j)) → r ≡ covered_by (spell_all ps table) (spell ps h) → r ≡ settled_if (spell_all ps table) (spell ps g) (get_or ps k 0) (sign_on line k)
  told_opposite s h r e given c =
      c
      ∙ ap (covered_by (spell_all ps table)) (sym (spell_insert ps k g h s holds.climbs holds.few l (gap_unnamed (sign_on line k) (sign_on g k) s e) given))
      ∙ sym (gap_opposite (spell_all ps table) (spell ps g) (get_or ps k 0) (sign_on line k) (sign_on g k) s here e)
