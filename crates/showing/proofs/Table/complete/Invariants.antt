use Rattle.std.proofs.Common.{◌≡◌, false}
use Rattle.meaning.specs.Tables.{covered_by}
use Rattle.placed.specs.Spelling.{spell}
use Rattle.rows.specs.Rows.{spell_all}
use Rattle.showing.specs.Showing.{WhereManageable}
use Rattle.showing.proofs.Completing.{Upto}
use Rattle.showing.proofs.Table.complete.Given as goal

abbrev pub invariant-loop-place : goal.invariant-loop-place
invariant-loop-place l = WhereManageable l.self.groups.now l.self.places l.fn.group (λ f. covered_by (spell_all f.plates l.self.groups.now) (spell f.plates l.fn.group) ≡ false → Upto f l.self.groups.now l.fn.group l.place l.whole)
