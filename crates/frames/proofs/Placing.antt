-- Items that are taken into a frame one by one. Assumes nothing.
use Rattle.std.proofs.Common.{◌≡◌, ℕ, ◌+◌, ◌<◌, ◌≤◌, true, cond, ◌&&◌, eqb, ltb, List, [], ◌∷◌, length, get_or, drop, is_some, Some, None, Option, sym, refl, ap, ◌∙◌, subst, ⊎_elim, add-one, arith}
use Rattle.std.proofs.lemmas.List.{drop_more}
use Rattle.std.proofs.lemmas.Bool.{eq-eqb, ne_eqb, lt-ltb, and_from, and_left, cond-true, cond-false, both_ways, cases_eq, cases_lt}
use Rattle.groups.specs.declared.items.Item.{Item}
use Rattle.groups.specs.declared.items.Sign.{Sign}
use Rattle.groups.specs.Items.{rising, sign_at, names}
use Rattle.groups.proofs.Rising.{blank, unnamed_below, same_signs}
use Rattle.placed.specs.declared.Placed.{Placed}
use Rattle.groups.specs.Rises.{climbing}
use Rattle.placed.specs.Signs.{sign_on, Within}
use Rattle.placed.specs.Spelling.{spell}
use Rattle.groups.proofs.Climbing.{one_place, place_cases}
use Rattle.placed.proofs.Spelled.{spelled_rises, spelled_sign, spelled_none}
use Rattle.frames.specs.Fitted.{place_in, LowestMissing}
use Rattle.frames.proofs.Fitting.{place_none, place_found}
use Rattle.frames.proofs.Items.{rest_rises}

-- the first of two signs, if there is one
abbrev pub first : Option Sign → Option Sign → Option Sign
first None t = t
first (Some s) t = Some s

first_none : (o : Option Sign) → first o None ≡ o
first_none None = refl
first_none (Some s) = refl

-- all but `rest` of the items are in the group g
pub record Placing (ps : List ℕ) (items rest : List Item) (g : Placed) : Type 0 where
  pub unfitted : (q : ℕ) → place_in ps q ≡ None → sign_at rest q ≡ sign_at items q
  pub signs : (j : ℕ) → j < length ps → first (sign_at rest (get_or ps j 0)) (sign_on g j) ≡ sign_at items (get_or ps j 0)
  pub within : Within (length ps) g

pub placing_none : (ps : List ℕ) (items : List Item) (g : Placed) → ((k : ℕ) → sign_on g k ≡ None) → Placing ps items items g
placing_none ps items g n =
    record { unfitted = λ q u. refl; signs = λ j l. ap (first (sign_at items (get_or ps j 0))) (n j) ∙ first_none (sign_at items (get_or ps j 0)); within = λ k l. n k }

-- one more item, whose plate stands at place i
module _ (ps : List ℕ) (items rest : List Item) (x : Item) (g h : Placed) (i : ℕ) (climbs : climbing 0 ps ≡ true) (few : length ps ≤ 32) (rises : rising x.plate rest ≡ true) (found : place_in ps x.plate ≡ Some i) (given : (k : ℕ) → sign_on h k ≡ cond (eqb k i && ltb i 32) (Some x.sign) (sign_on g k)) where
  stands : (i < length ps) × (get_or ps i 0 ≡ x.plate)
  stands = place_found ps x.plate i climbs found

  given_here : sign_on h i ≡ Some x.sign
  given_here = let l = stands.0 in given i ∙ cond-true _ _ _ (and_from _ _ (eq-eqb i i refl) (lt-ltb i 32 (omega arith)))

  given_other : (k : ℕ) → (k ≡ i → ⊥) → sign_on h k ≡ sign_on g k
  given_other k ne = given k ∙ cond-false _ _ _ (and_left _ _ (ne_eqb k i ne))

  pub placing_next : Placing ps items (x ∷ rest) g → Placing ps items rest h
  placing_next s =
      record {
        unfitted = λ q u. sym (cond-false _ _ _ (ne_eqb x.plate q (λ e. let z : ◌≡◌ {A = ℕ} 0 1 = cc in omega arith))) ∙ s.unfitted q u;
        signs = λ j l.
            ⊎_elim
            (λ e.
            let q : get_or ps j 0 ≡ x.plate = ap (λ k. get_or ps k 0) e ∙ stands.1 in
            (λ z. first (unnamed_below (get_or ps j 0) x.plate rest (omega arith) rises z) ((ap (sign_on h) e ∙ given_here) z))
            ∙ sym (ap (λ o. first o (sign_on g j)) (cond-true (eqb x.plate (get_or ps j 0)) (Some x.sign) (sign_at rest (get_or ps j 0)) (eq-eqb _ _ (sym q))))
            ∙ s.signs j l)
            (λ ne.
            ap (first (sign_at rest (get_or ps j 0))) (given_other j ne)
            ∙ sym (ap (λ o. first o (sign_on g j)) (cond-false (eqb x.plate (get_or ps j 0)) (Some x.sign) (sign_at rest (get_or ps j 0)) (ne_eqb _ _ (λ e. ne (one_place 0 ps j i climbs l stands.0 (sym e ∙ sym stands.1))))))
            ∙ s.signs j l)
            (cases_eq j i);
        within = λ k l. given_other k (λ e. omega (arith, stands.0)) ∙ s.within k l;
      }

-- the same at index n of the items
pub placing_more : (ps : List ℕ) (items : List Item) (n : ℕ) (g h : Placed) (i : ℕ) → climbing 0 ps ≡ true → length ps ≤ 32 → rising 0 items ≡ true → n < length items → place_in ps (get_or items n blank).plate ≡ Some i → ((k : ℕ) → sign_on h k ≡ cond (eqb k i && ltb i 32) (Some (get_or items n blank).sign) (sign_on g k)) → Placing ps items (drop n items) g → Placing ps items (drop (n + 1) items) h
placing_more ps items n g h i c few r l f given s =
    placing_next ps items (drop (n + 1) items) (get_or items n blank) g h i c few (rw add-one (rest_rises 0 items n blank r l)) f given
    (subst (λ rest. Placing ps items rest g) (drop_more items n blank l) s)

-- the first item left has no place
pub lowest_here : (ps : List ℕ) (items : List Item) (n : ℕ) (g : Placed) → rising 0 items ≡ true → n < length items → place_in ps (get_or items n blank).plate ≡ None → Placing ps items (drop n items) g → LowestMissing ps items (get_or items n blank).plate
lowest_here ps items n g r l u s =
    record {
      named = ap is_some (sym (left x.plate u) ∙ cond-true _ _ _ (eq-eqb x.plate x.plate refl));
      unfitted = u;
      lowest = λ q named v.
          ⊎_elim
          (λ lt.
          absurd (both_ways (names items q)
          (ap is_some (sym (left q v) ∙ cond-false _ _ _ (ne_eqb x.plate q (λ e. omega arith)) ∙ unnamed_below q x.plate (drop (n + 1) items) (omega arith) (rw add-one (rest_rises 0 items n blank r l))))
          named))
          (λ le. le)
          (cases_lt q x.plate);
    }
  where
    x : Item
    x = get_or items n blank

    left : (q : ℕ) → place_in ps q ≡ None → sign_at (x ∷ drop (n + 1) items) q ≡ sign_at items q
    left q v = ap (λ rest. sign_at rest q) (sym (drop_more items n blank l)) ∙ s.unfitted q v

pub placing_all : (ps : List ℕ) (items : List Item) (g : Placed) → climbing 0 ps ≡ true → rising 0 items ≡ true → Placing ps items [] g → (spell ps g ≡ items) × Within (length ps) g
placing_all ps items g c r s = (
  same_signs 0 (spell ps g) items (spelled_rises ps g c) r (λ p.
      ⊎_elim
      (λ f. ap (sign_at (spell ps g)) (sym f.2) ∙ spelled_sign ps g f.0 c f.1 ∙ s.signs f.0 f.1 ∙ ap (sign_at items) f.2)
      (λ n. spelled_none ps g p n ∙ s.unfitted p (place_none ps p n))
      (place_cases ps p)),
  s.within,
)
