use Rattle.cutting.specs.Searching.{free_places}
use Rattle.cutting.proofs.search.Search.+escapes.Given as goal

-- with each call fewer levers are left free
abbrev pub decreases-escapes : goal.decreases-escapes
decreases-escapes l = free_places l.set
