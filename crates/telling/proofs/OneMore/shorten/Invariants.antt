use Rattle.telling.specs.Shortened.{WhereTold}
use Rattle.telling.proofs.Drops.{Upto}
use Rattle.telling.proofs.OneMore.shorten.Given as goal

abbrev pub invariant-loop-place : goal.invariant-loop-place
invariant-loop-place l = WhereTold l.self.table.now l.self.line l.self.places l.fn.group (Upto l.place l.fn.group l.short)
