use Rattle.std.proofs.Common.{rules}
use Rattle.std.proofs.lemmas.List.Sorted.{answers_always}
use Rattle.cutting.specs.declared.search.Choice.{Choice}
use Rattle.cutting.proofs.search.fewer.Goals as goal

pub returns-in-Some-Some : goal.returns-in-Some-Some
returns-in-Some-Some c = cc (c.min_by_key.ensures (λ (choice : Choice). choice.free) (answers_always _ _ _ (λ f a r g h. search rules)))
