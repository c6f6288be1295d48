-- What is written of a group is read back. Assumes nothing.
use Rattle.std.specs.Prelude.{◌≡◌, ℕ, ◌≤◌, List, length, take, Some, None, Ok, Err, Option, Result}
use Rattle.faults.specs.declared.Fault.{Fault}
use Rattle.groups.specs.declared.items.Item.{Item}
use Rattle.lines.specs.Texts.{group_text}
use Rattle.reading.specs.Reading.{read_group}

-- a group that can be read, one of one to eight items, is read back from its text
abbrev pub ReadBack : List Item → Type 0
ReadBack is = (start : ℕ) → 1 ≤ length is → length is ≤ 8 → read_group start (group_text is) ≡ Ok is

-- what stands in the buffer after a group was written, as far as the answer says, is read as that group, if it can be read
abbrev pub ReadsBack : Option (List Item) → Result (Option ℕ) Fault → List ℕ → Type 0
ReadsBack None r after = Unit {0}
ReadsBack (Some is) (Err f) after = Unit {0}
ReadsBack (Some is) (Ok None) after = Unit {0}
ReadsBack (Some is) (Ok (Some n)) after = (start : ℕ) → 1 ≤ length is → length is ≤ 8 → read_group start (take n after) ≡ Ok is
