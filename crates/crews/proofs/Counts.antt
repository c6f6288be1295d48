-- How many plates lie on each side of a plate. Assumes nothing.
use Rattle.std.proofs.Common.{◌≡◌, ℕ, ◌+◌, not, ltb, leb, List, length, filter, sym, ◌∙◌, ⊎_elim}
use Rattle.std.proofs.lemmas.List.Filters.{length-filter_both}
use Rattle.std.proofs.lemmas.Bool.{le-leb, lt-leb, lt-ltb, le-ltb, cases_lt, not_from_true, not_from_false}

-- each plate lies below a plate or from it upwards
side : (plate p : ℕ) → leb plate p ≡ not (ltb p plate)
side plate p =
    ⊎_elim
    (λ l. lt-leb plate p l ∙ sym (not_from_true _ (lt-ltb p plate l)))
    (λ l. le-leb plate p l ∙ sym (not_from_false _ (le-ltb p plate l)))
    (cases_lt p plate)

pub both_sides : (plate : ℕ) (ps : List ℕ) → length (filter (λ p. ltb p plate) ps) + length (filter (λ p. leb plate p) ps) ≡ length ps
both_sides plate ps = length-filter_both (λ p. ltb p plate) (λ p. leb plate p) (side plate) ps
