use Rattle.std.proofs.Common.{◌++◌, subst, Ok}
use Rattle.std.proofs.lemmas.List.{take_all}
use Rattle.cutting.specs.Searching.{Surveyed}
use Rattle.cutting.proofs.Surveying.{survey_more}
use Rattle.cutting.proofs.search.survey.Goals as goal

pub loop-line-preserved : goal.loop-line-preserved
loop-line-preserved c = λ before s.
    survey_more c.args.levers before c.args.lines.now c.args.set c.loop-line.line-index _ c.loop-line-test.true c.loop-line.best c.in_ok-weigh.field-0 c.fewer-best.result (c.loop-line.invariant before s) c.in_ok-weigh.ensures c.fewer-best.ensures

pub returns : goal.returns
returns c = λ before s. subst (λ xs. Surveyed c.args.levers (before ++ xs) c.args.set (Ok c.loop-line.best)) (take_all c.loop-line.line-index c.args.lines.now c.loop-line-test.false) (c.loop-line.invariant before s)
