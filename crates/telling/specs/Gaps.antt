-- What a group leaves open of the sign that a line has for a lever. Assumes nothing.
use Rattle.std.specs.Prelude.{cond, Some, None, Option}
use Rattle.groups.specs.declared.items.Sign.{Sign}
use Rattle.groups.specs.Items.{sits}
use Rattle.meaning.specs.Laws.{opposite}
use Rattle.telling.specs.declared.Gap.{Gap}
use Rattle.telling.specs.declared.Gap.TheVariants.{Filled, Opposite, Open}

-- the opposite sign, if there is one, is left to try
abbrev pub try_opposite : Option Sign → Gap
try_opposite None = Open
try_opposite (Some s) = Opposite s

-- where the group has not the sign: its opposite, if the group does not name the lever
abbrev pub unfilled : Sign → Option Sign → Gap
unfilled s None = try_opposite (opposite s)
unfilled s (Some t) = Open

-- nothing is left open where the line has no sign, or the group has it
abbrev pub gap_of : Option Sign → Option Sign → Gap
gap_of None o = Filled
gap_of (Some s) o = cond (sits s o) Filled (unfilled s o)
