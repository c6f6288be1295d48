use Rattle.std.proofs.Common.{◌≡◌, take}
use Rattle.frames.specs.Fitted.{fitted}
use Rattle.frames.proofs.methods.PlatesTryFromRefSliceU32.try_from.Given as goal

abbrev pub invariant-loop-plate : goal.invariant-loop-plate
invariant-loop-plate l = fitted l.frame ≡ take l.plate-index l.plates
