-- What the crews with a number of their own, and a crew that is one of the three, mean. Assumes nothing.
use Rattle.std.specs.Prelude.{length, nat_le}
use Rattle.crews.specs.declared.any.AnyCrew.{AnyCrew}
use Rattle.crews.specs.declared.any.AnyCrew.TheVariants as any
use Rattle.crews.specs.declared.hands.Hands.{Hands}
use Rattle.crews.specs.declared.split.Split.{Split}
use Rattle.meaning.specs.Crews.{Admits, split, free}

-- at most so many levers as the crew counts hands
abbrev pub hands_of : Hands → Admits
hands_of c ps = nat_le (length ps) c.count

-- split at the crew's plate
abbrev pub split_of : Split → Admits
split_of c = split c.plate

-- what the one of the three crews means
abbrev pub meant_by : AnyCrew → Admits
meant_by (any.Hands c) = hands_of c
meant_by (any.Split c) = split_of c
meant_by (any.Free _) = free
