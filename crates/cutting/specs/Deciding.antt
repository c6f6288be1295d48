-- What is told of one line of a cut list. Assumes nothing.
use Rattle.std.specs.Prelude.{◌≡◌, Bool, true, false, List}
use Rattle.groups.specs.declared.items.Item.{Item}
use Rattle.meaning.specs.Frames.{Frame}
use Rattle.meaning.specs.CutLists.{Superfluous, Needed}

-- r tells whether the line is kept on a list with these others
pub record Told (f : Frame) (others : List (List Item)) (line : List Item) (r : Bool) : Type 0 where
  pub kept : r ≡ true → Needed f others line
  pub left : r ≡ false → Superfluous f others line
