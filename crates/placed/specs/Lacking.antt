-- What one sign has and another lacks. Assumes nothing.
use Rattle.std.specs.Prelude.{Bool, false, not, Some, None, Option}
use Rattle.groups.specs.declared.items.Sign.{Sign}
use Rattle.groups.specs.Items.{sits}

-- the second sign has an end that the first lacks
abbrev pub lacks : Option Sign → Option Sign → Bool
lacks u None = false
lacks u (Some s) = not (sits s u)
