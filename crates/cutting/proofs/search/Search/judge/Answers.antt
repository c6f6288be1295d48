use Rattle.std.proofs.Common.{[], ◌++◌}
use Rattle.cutting.specs.Searching.{Fails}
use Rattle.std.proofs.lemmas.List.Elements.{All-nil}
use Rattle.cutting.proofs.Escaping.{surveyed_judged}
use Rattle.cutting.proofs.Surveying.{met_sooner, refused}
use Rattle.cutting.proofs.search.Search.judge.Goals as goal

pub returns-in_err-choice : goal.returns-in_err-choice
returns-in_err-choice c =
    let s = c.args.self.now in
    let lines = s.before.now ++ s.behind.now in
    surveyed_judged s.levers lines c.args.set c.from_residual.result
    (refused s.levers lines c.args.set c.from_residual.result c.from_residual.ensures.0
    (met_sooner s.levers s.before.now s.behind.now c.args.set (c.in_err-choice.ensures [] (All-nil (λ l. Fails s.levers l c.args.set)))))

pub returns : goal.returns
returns c =
    let s = c.args.self.now in
    surveyed_judged s.levers (s.before.now ++ s.behind.now) c.args.set c.survey-2.result
    (c.survey-2.ensures s.before.now (c.in_ok-choice.ensures [] (All-nil (λ l. Fails s.levers l c.args.set))))
