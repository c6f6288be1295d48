-- The cut list of a frame: the lines that the fitters file. Assumes nothing.
use Rattle.std.specs.Prelude.{◌≡◌, true, false, List, [], ◌∷◌, ◌++◌}
use Rattle.groups.specs.declared.items.Item.{Item}
use Rattle.meaning.specs.States.{Setting, shows}
use Rattle.meaning.specs.Frames.{Frame, permits}

-- some lines permit no setting that shows the line
abbrev pub Superfluous : Frame → List (List Item) → List Item → Type 0
Superfluous f others line = (s : Setting) → permits f others s ≡ true → shows s line ≡ false

-- some lines permit a setting that shows the line
pub record Needed (f : Frame) (others : List (List Item)) (line : List Item) : Type 0 where
  pub setting : Setting
  pub permitted : permits f others setting ≡ true
  pub shown : shows setting line ≡ true

-- `kept` is what stays of the lines `rest`, gone through from the last to the first, while the lines `front` before
-- them are still on the list: a line is left out if the others still on the list permit no setting that shows it
pub data CutFrom (f : Frame) : List (List Item) → List (List Item) → List (List Item) → Type 0 where
  end : {front : List (List Item)} → CutFrom f front [] []
  leave : {front rest kept : List (List Item)} {line : List Item} → CutFrom f (front ++ (line ∷ [])) rest kept → Superfluous f (front ++ kept) line → CutFrom f front (line ∷ rest) kept
  keep : {front rest kept : List (List Item)} {line : List Item} → CutFrom f (front ++ (line ∷ [])) rest kept → Needed f (front ++ kept) line → CutFrom f front (line ∷ rest) (line ∷ kept)

-- the list is the frame's cut list: what stays of the lines in force
abbrev pub IsCutList : Frame → List (List Item) → Type 0
IsCutList f cut = CutFrom f [] f.lines cut
