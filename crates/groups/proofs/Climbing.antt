-- Plates that climb. Assumes nothing.
use Rattle.std.proofs.Common.{◌≡◌, ℕ, zero, suc, ◌<◌, ◌≤◌, true, ◌⊎◌, List, [], ◌∷◌, length, get_or, refl, ap, inl, inr, ⊎_elim, arith}
use Rattle.std.proofs.lemmas.Bool.{and_parts, and_from, lt-ltb, le-leb, ltb-true, leb-true, cases_eq}
use Rattle.groups.specs.Rises.{climbing}

pub record Step (low p : ℕ) (ps : List ℕ) : Type 0 where
  pub above : low < p
  pub upto : p ≤ 2097151
  pub rest : climbing p ps ≡ true

pub climbing_step : (low p : ℕ) (ps : List ℕ) → climbing low (p ∷ ps) ≡ true → Step low p ps
climbing_step low p ps h =
    let a = and_parts _ _ h in
    let b = and_parts _ _ a.1 in
    record { above = ltb-true _ _ a.0; upto = leb-true _ _ b.0; rest = b.1 }

pub climbing_more : (low p : ℕ) (ps : List ℕ) → low < p → p ≤ 2097151 → climbing p ps ≡ true → climbing low (p ∷ ps) ≡ true
climbing_more low p ps l h r = and_from _ _ (lt-ltb _ _ l) (and_from _ _ (le-leb _ _ h) r)

-- each plate lies above where the climb starts
pub climbing_above : (low : ℕ) (ps : List ℕ) (j : ℕ) → climbing low ps ≡ true → j < length ps → low < get_or ps j 0
climbing_above low [] j r h = absurd (omega arith)
climbing_above low (p ∷ ps) zero r h = (climbing_step low p ps r).above
climbing_above low (p ∷ ps) (suc j) r h =
    let s = climbing_step low p ps r in
    let l = s.above in
    let m = climbing_above p ps j s.rest (omega arith) in
    omega arith

-- a plate stands at one place only
pub one_place : (low : ℕ) (ps : List ℕ) (i j : ℕ) → climbing low ps ≡ true → i < length ps → j < length ps → get_or ps i 0 ≡ get_or ps j 0 → i ≡ j
one_place low [] i j r h l e = absurd (omega arith)
one_place low (p ∷ ps) zero zero r h l e = refl
one_place low (p ∷ ps) zero (suc j) r h l e = let m = climbing_above p ps j (climbing_step low p ps r).rest (omega arith) in absurd (omega arith)
one_place low (p ∷ ps) (suc i) zero r h l e = let m = climbing_above p ps i (climbing_step low p ps r).rest (omega arith) in absurd (omega arith)
one_place low (p ∷ ps) (suc i) (suc j) r h l e = ap suc (one_place p ps i j (climbing_step low p ps r).rest (omega arith) (omega arith) e)

-- a plate stands at some place, or at none
pub place_cases : (ps : List ℕ) (p : ℕ) → ((j : ℕ) × (j < length ps) × (get_or ps j 0 ≡ p)) ⊎ ((j : ℕ) → j < length ps → get_or ps j 0 ≡ p → ⊥)
place_cases [] p = inr (λ j h e. omega arith)
place_cases (q ∷ qs) p =
    ⊎_elim
    (λ e. inl (0, omega arith, e))
    (λ ne.
    ⊎_elim
    (λ f. inl (suc f.0, omega (arith, f.1), f.2))
    (λ none. inr (λ j h e. elsewhere ne none j h e))
    (place_cases qs p))
    (cases_eq q p)
  where
    elsewhere : (q ≡ p → ⊥) → ((j : ℕ) → j < length qs → get_or qs j 0 ≡ p → ⊥) → (j : ℕ) → j < length (q ∷ qs) → get_or (q ∷ qs) j 0 ≡ p → ⊥
    elsewhere ne none zero h e = ne e
    elsewhere ne none (suc j) h e = none j (omega arith) e

-- no plate passes the highest
pub climbing_upto : (low : ℕ) (ps : List ℕ) (j : ℕ) → climbing low ps ≡ true → j < length ps → get_or ps j 0 ≤ 2097151
climbing_upto low [] j r h = absurd (omega arith)
climbing_upto low (p ∷ ps) zero r h = (climbing_step low p ps r).upto
climbing_upto low (p ∷ ps) (suc j) r h = climbing_upto p ps j (climbing_step low p ps r).rest (omega arith)
