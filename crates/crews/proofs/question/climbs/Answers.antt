use Rattle.std.proofs.Common.{ℕ, ◌≡◌, ◌∙◌, Bool, rules, sym, subst, ⊎_elim}
use Rattle.std.specs.List.{IsAllAdjacentAnswer}
use Rattle.std.proofs.lemmas.Bool.{cases_Bool}
use Rattle.std.proofs.lemmas.List.Sorted.{answers_always}
use Rattle.crews.proofs.Climbs.{follows, rising_climbs, not_climbing, unfit_not_climbing}
use Rattle.crews.proofs.question.climbs.Goals as goal
use Rattle.crews.proofs.question.climbs.Goals.{After-is_sorted_by}

rises_or_not : (c : After-is_sorted_by) → IsAllAdjacentAnswer (λ (low high : ℕ) (b : Bool). b ≡ follows low high) c.args.plates.now c.is_sorted_by.result
rises_or_not c = c.is_sorted_by.ensures.cases follows (answers_always _ _ _ (λ f a r g h. search rules))

pub returns-then-first_fits : goal.returns-then-first_fits
returns-then-first_fits c =
    let ps = c.args.plates.now in
    let is_answer = IsAllAdjacentAnswer (λ (low high : ℕ) (b : Bool). b ≡ follows low high) ps in
    ⊎_elim
    (λ up. up ∙ rising_climbs ps (sym c.if-first_fits.true ∙ c.first_fits.ensures) (subst is_answer up (rises_or_not c)))
    (λ down. down ∙ not_climbing ps (subst is_answer down (rises_or_not c)))
    (cases_Bool c.is_sorted_by.result)

pub returns-else-first_fits : goal.returns-else-first_fits
returns-else-first_fits c = c.if-first_fits.false ∙ unfit_not_climbing c.args.plates.now (sym c.if-first_fits.false ∙ c.first_fits.ensures)
