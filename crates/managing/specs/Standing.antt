-- A frame whose lines are known by their places. Assumes nothing.
use Rattle.std.specs.Prelude.{ℕ, List}
use Rattle.meaning.specs.Crews.{Admits}
use Rattle.meaning.specs.Frames.{Frame}
use Rattle.placed.specs.declared.Placed.{Placed}
use Rattle.rows.specs.Rows.{spell_all}

-- the frame of a crew, some plates, and lines by their places among these
abbrev pub frame_of : Admits → List ℕ → List Placed → Frame
frame_of crew ps lines = record { crew = crew; plates = ps; lines = spell_all ps lines }
