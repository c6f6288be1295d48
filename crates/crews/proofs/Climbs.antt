-- Plates that rise from one to the next, the first above 0 and the last no higher than allowed. Assumes nothing.
use Rattle.std.proofs.Common.{◌≡◌, ℕ, zero, suc, add-one, ◌+◌, ◌<◌, ◌≤◌, Bool, true, false, ◌&&◌, ltb, leb, List, [], ◌∷◌, length, get_or, sym, refl, ap, ◌∙◌, ⊎_elim, arith}
use Rattle.std.specs.List.{AllAdjacentBelow}
use Rattle.std.proofs.lemmas.Bool.{lt-ltb, le-leb, ltb-true, leb-true, and_from, and_parts, cases_Bool, both_ways}
use Rattle.groups.specs.Rises.{climbing}

-- what a climb says of its first plate
pub record Step (low p : ℕ) (ps : List ℕ) : Type 0 where
  pub above : low < p
  pub upto : p ≤ 2097151
  pub rest : climbing p ps ≡ true

step : (low p : ℕ) (ps : List ℕ) → climbing low (p ∷ ps) ≡ true → Step low p ps
step low p ps c =
    let a = and_parts (ltb low p) (leb p 2097151 && climbing p ps) c in
    let b = and_parts (leb p 2097151) (climbing p ps) a.1 in
    record { above = ltb-true low p a.0; upto = leb-true p 2097151 b.0; rest = b.1 }

-- a plate that can follow another: it is above it, and allowed
abbrev pub follows : ℕ → ℕ → Bool
follows low high = ltb low high && leb high 2097151

-- each plate of a climb follows the one before it
adjacent : (low : ℕ) (ps : List ℕ) → climbing low ps ≡ true → (k d : ℕ) → suc k < length ps → follows (get_or ps k d) (get_or ps (suc k) d) ≡ true
adjacent low [] c k d l = absurd (omega arith)
adjacent low (p ∷ []) c k d l = absurd (omega arith)
adjacent low (p ∷ q ∷ ps) c zero d l =
    let s = step p q ps (step low p (q ∷ ps) c).rest in
    and_from _ _ (lt-ltb p q s.above) (le-leb q 2097151 s.upto)
adjacent low (p ∷ q ∷ ps) c (suc k) d l = adjacent p (q ∷ ps) (step low p (q ∷ ps) c).rest k d (omega arith)

-- plates of which each follows the one before it climb
rises_up : (low p : ℕ) (ps : List ℕ) → low < p → p ≤ 2097151 → ((k d : ℕ) → suc k < length (p ∷ ps) → follows (get_or (p ∷ ps) k d) (get_or (p ∷ ps) (suc k) d) ≡ true) → climbing low (p ∷ ps) ≡ true
rises_up low p [] l h a = and_from _ _ (lt-ltb low p l) (and_from _ _ (le-leb p 2097151 h) refl)
rises_up low p (q ∷ ps) l h a =
    let b = and_parts (ltb p q) (leb q 2097151) (a 0 0 (omega arith)) in
    and_from _ _ (lt-ltb low p l) (and_from _ _ (le-leb p 2097151 h) (rises_up p q ps (ltb-true p q b.0) (leb-true q 2097151 b.1) (λ k d m. a (suc k) d (omega arith))))

-- where a plate does not follow the one before it, the plates do not climb
pub not_climbing : (ps : List ℕ) → (k : ℕ) × (k + 1 < length ps) × ((d : ℕ) → false ≡ follows (get_or ps k d) (get_or ps (k + 1) d)) → false ≡ climbing 0 ps
not_climbing ps f =
    let l = f.1 in
    ⊎_elim
    (λ c. absurd (both_ways _ (ap (λ j. follows (get_or ps f.0 0) (get_or ps j 0)) (sym (add-one f.0)) ∙ sym (f.2 0)) (adjacent 0 ps c f.0 0 (omega arith))))
    sym
    (cases_Bool (climbing 0 ps))

-- the first plate is a lever's
abbrev first_fits : List ℕ → Bool
first_fits ps = ltb 0 (get_or ps 0 1) && leb (get_or ps 0 1) 2097151

-- where it is not, the plates do not climb
pub unfit_not_climbing : (ps : List ℕ) → false ≡ first_fits ps → false ≡ climbing 0 ps
unfit_not_climbing [] f = f
unfit_not_climbing (p ∷ ps) f =
    ⊎_elim
    (λ c. let s = step 0 p ps c in absurd (both_ways _ (sym f) (and_from _ _ (lt-ltb 0 p s.above) (le-leb p 2097151 s.upto))))
    sym
    (cases_Bool (climbing 0 (p ∷ ps)))

-- where it is, and each plate follows the one before it, they climb
pub rising_climbs : (ps : List ℕ) → true ≡ first_fits ps → AllAdjacentBelow (λ low high. true ≡ follows low high) ps (length ps) → true ≡ climbing 0 ps
rising_climbs [] f a = refl
rising_climbs (p ∷ ps) f a =
    let h = and_parts (ltb 0 p) (leb p 2097151) (sym f) in
    sym (rises_up 0 p ps (ltb-true 0 p h.0) (leb-true p 2097151 h.1) (λ k d l. ap (λ j. follows (get_or (p ∷ ps) k d) (get_or (p ∷ ps) j d)) (sym (add-one k)) ∙ sym (a k d (omega arith))))
