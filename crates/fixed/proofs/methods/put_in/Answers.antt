use Rattle.std.proofs.Common.{refl}
use Rattle.fixed.proofs.Shift as shift
use Rattle.fixed.proofs.methods.put_in.Goals as goal

pub returns-clause-put : goal.returns-clause-put
returns-clause-put g c =
    shift.put_upto c.args.places.now c.args.at c.args.count c.min-at.result c.args.item _ _ c.min-at.ensures c.requires refl c.rotate_right.ensures.after
