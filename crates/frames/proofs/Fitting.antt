-- Where a plate stands among fitted ones, and one more plate behind them. Assumes nothing.
use Rattle.std.proofs.Common.{cond, not, ◌+◌, ◌≡◌, ◌==◌, ℕ, zero, suc, ◌-◌, ◌<◌, ◌≤◌, true, ltb, List, [], ◌∷◌, ◌++◌, length, get_or, take, Some, None, sym, refl, ap, ◌∙◌, subst, ⊎_elim, arith}
use Rattle.std.specs.List.{position_or_len}
use Rattle.std.proofs.lemmas.Bool.{lt-ltb, le-ltb, eq-eqb, ne_eqb, ltb-true, leb-true, and_parts, cond-true, cond-false, cases_eq}
use Rattle.std.proofs.lemmas.Bool.Decides.{nat_tests, same_from_decides, Decides-ltb}
use Rattle.groups.specs.Items.{is_plate}
use Rattle.groups.specs.Rises.{climbing}
use Rattle.groups.proofs.Climbing.{climbing_step, climbing_more, climbing_above, one_place, place_cases}
use Rattle.frames.specs.Fitted.{place_in, fit_refusal}

-- how many plates stand in front of one
before : (ps : List ℕ) (p i : ℕ) → i < length ps → get_or ps i 0 ≡ p → ((k : ℕ) → k < i → get_or ps k 0 ≡ p → ⊥) → position_or_len (λ q. q == p) ps ≡ i
before [] p i l e n = absurd (omega arith)
before (q ∷ qs) p zero l e n = cond-false _ _ _ (ap not (eq-eqb q p e))
before (q ∷ qs) p (suc i) l e n =
    cond-true _ _ _ (ap not (ne_eqb q p (n 0 (omega arith))))
    ∙ ap (λ k. 1 + k) (before qs p i (omega arith) e (λ k h. n (suc k) (omega arith)))
    ∙ omega arith

all_others : (ps : List ℕ) (p : ℕ) → ((k : ℕ) → k < length ps → get_or ps k 0 ≡ p → ⊥) → position_or_len (λ q. q == p) ps ≡ length ps
all_others [] p n = refl
all_others (q ∷ qs) p n =
    cond-true _ _ _ (ap not (ne_eqb q p (n 0 (omega arith))))
    ∙ ap (λ k. 1 + k) (all_others qs p (λ k h. n (suc k) (omega arith)))
    ∙ omega arith

-- the first place of a plate
pub place_first : (ps : List ℕ) (p i : ℕ) → i < length ps → get_or ps i 0 ≡ p → ((k : ℕ) → k < i → get_or ps k 0 ≡ p → ⊥) → place_in ps p ≡ Some i
place_first ps p i l e n =
    ap (λ j. cond (ltb j (length ps)) (Some j) None) (before ps p i l e n) ∙ cond-true _ _ _ (lt-ltb i (length ps) l)

pub place_none : (ps : List ℕ) (p : ℕ) → ((k : ℕ) → k < length ps → get_or ps k 0 ≡ p → ⊥) → place_in ps p ≡ None
place_none ps p n =
    ap (λ j. cond (ltb j (length ps)) (Some j) None) (all_others ps p n) ∙ cond-false _ _ _ (le-ltb (length ps) (length ps) (omega arith))

-- of climbing plates each has one place
pub place_at : (ps : List ℕ) (i : ℕ) → climbing 0 ps ≡ true → i < length ps → place_in ps (get_or ps i 0) ≡ Some i
place_at ps i r l =
    place_first ps (get_or ps i 0) i l refl (λ k h e. let same = one_place 0 ps k i r (omega arith) l e in omega arith)

-- what a place that was found says
pub place_found : (ps : List ℕ) (p i : ℕ) → climbing 0 ps ≡ true → place_in ps p ≡ Some i → (i < length ps) × (get_or ps i 0 ≡ p)
place_found ps p i r h =
    ⊎_elim
    (λ f.
    let s : Some f.0 ≡ Some i = sym (place_at ps f.0 r f.1) ∙ ap (place_in ps) f.2 ∙ h in
    let e : f.0 ≡ i = cc in
    (omega (arith, f.1), ap (λ k. get_or ps k 0) (sym e) ∙ f.2))
    (λ n. absurd (let z : ◌≡◌ {A = ℕ} 0 1 = cc (place_none ps p n) in omega arith))
    (place_cases ps p)

pub place_missing : (ps : List ℕ) (p : ℕ) → climbing 0 ps ≡ true → place_in ps p ≡ None → (k : ℕ) → k < length ps → get_or ps k 0 ≡ p → ⊥
place_missing ps p r h k l e =
    let s : Some k ≡ None = sym (place_at ps k r l) ∙ ap (place_in ps) e ∙ h in
    let z : ◌≡◌ {A = ℕ} 0 1 = cc in
    omega arith

-- a front climbs as the whole does
pub climbing_take : (low : ℕ) (ps : List ℕ) (n : ℕ) → climbing low ps ≡ true → climbing low (take n ps) ≡ true
climbing_take low ps zero r = refl
climbing_take low [] (suc n) r = refl
climbing_take low (p ∷ ps) (suc n) r =
    let s = climbing_step low p ps r in
    climbing_more low p (take n ps) s.above s.upto (climbing_take p ps n s.rest)

-- a plate above the last one climbs on
pub climbing_push : (low : ℕ) (ps : List ℕ) (p : ℕ) → climbing low ps ≡ true → low < p → p ≤ 2097151 → ((j : ℕ) → suc j ≡ length ps → get_or ps j 0 < p) → climbing low (ps ++ (p ∷ [])) ≡ true
climbing_push low [] p r l h last = climbing_more low p [] l h refl
climbing_push low (q ∷ qs) p r l h last =
    let s = climbing_step low q qs r in
    climbing_more low q (qs ++ (p ∷ [])) s.above s.upto (climbing_push q qs p s.rest (first s.rest) h (λ j e. last (suc j) (ap suc e)))
  where
    first : climbing q qs ≡ true → q < p
    first r =
        ⊎_elim
        (λ e. last 0 (ap suc (sym e)))
        (λ ne.
        let a = climbing_above q qs (length qs - 1) r (omega arith) in
        let b = last (suc (length qs - 1)) (omega arith) in
        omega arith)
        (cases_eq (length qs) 0)

-- what climbs on lies above each plate before it
climbing_end : (low : ℕ) (ps : List ℕ) (p : ℕ) → climbing low (ps ++ (p ∷ [])) ≡ true → low < p
climbing_end low [] p r = (climbing_step low p [] r).above
climbing_end low (q ∷ qs) p r =
    let s = climbing_step low q (qs ++ (p ∷ [])) r in
    let a = s.above in
    let b = climbing_end q qs p s.rest in
    omega arith

pub climbing_last : (low : ℕ) (ps : List ℕ) (p j : ℕ) → climbing low (ps ++ (p ∷ [])) ≡ true → j < length ps → get_or ps j 0 < p
climbing_last low [] p j r l = absurd (omega arith)
climbing_last low (q ∷ qs) p zero r l = climbing_end q qs p (climbing_step low q (qs ++ (p ∷ [])) r).rest
climbing_last low (q ∷ qs) p (suc j) r l = climbing_last q qs p j (climbing_step low q (qs ++ (p ∷ [])) r).rest (omega arith)

-- a lever's plate climbs on where it lies above the last one, and nowhere else
module _ (ps : List ℕ) (p : ℕ) (rises : climbing 0 ps ≡ true) (lever : is_plate p ≡ true) where
  climbs : ((j : ℕ) → suc j ≡ length ps → get_or ps j 0 < p) → climbing 0 (ps ++ (p ∷ [])) ≡ true
  climbs above =
      let h = and_parts _ _ lever in
      climbing_push 0 ps p rises (ltb-true 0 p h.0) (leb-true p 2097151 h.1) above

  pub climbs_first : length ps ≡ 0 → true ≡ climbing 0 (ps ++ (p ∷ []))
  climbs_first none = sym (climbs (λ j e. absurd (omega arith)))

  pub climbs_behind : 0 < length ps → ltb (get_or ps (length ps - 1) 0) p ≡ climbing 0 (ps ++ (p ∷ []))
  climbs_behind some =
      same_from_decides _ _ (Decides-ltb (get_or ps (length ps - 1) 0) p) (
        (λ t. climbing_last 0 ps p (length ps - 1) t (omega arith)),
        (λ l. climbs (λ j e. subst (λ k. get_or ps k 0 < p) (let k : length ps - 1 ≡ j = omega arith in k) l)),
      )

-- what a plate that is not refused says
pub fits_behind : (ps : List ℕ) (p : ℕ) → fit_refusal ps p ≡ None → (climbing 0 (ps ++ (p ∷ [])) ≡ true) × (length ps < 32)
fits_behind ps p h = (grind (arith, nat_tests), grind (arith, nat_tests))
