-- Ten small frames and their tables. Assumes nothing.
use Rattle.std.specs.Prelude.{◌≡◌, ℕ, false, List, [], ◌∷◌}
use Rattle.std.specs.List.{AllByRecursion}
use Rattle.groups.specs.declared.items.Item.{Item}
use Rattle.groups.specs.declared.items.Sign.TheVariants.{Plus, Minus, Star}
use Rattle.meaning.specs.States.{Setting}
use Rattle.meaning.specs.Crews.{hands, free}
use Rattle.meaning.specs.Frames.{Frame, possible}
use Rattle.meaning.specs.Tables.{IsTable}

-- the item p+
abbrev pub plus : ℕ → Item
plus p = record { plate = p; sign = Plus }

-- the item p-
abbrev pub minus : ℕ → Item
minus p = record { plate = p; sign = Minus }

-- the item p*
abbrev pub star : ℕ → Item
star p = record { plate = p; sign = Star }

-- a frame with the table that it should have
pub record Example : Type 0 where
  pub frame : Frame
  pub table : List (List Item)

-- nothing is wanted, nothing is forbidden
abbrev pub no_lines : Example
no_lines = record {
  frame = record { crew = free; plates = 5 ∷ 6 ∷ []; lines = [] };
  table = [];
}

-- (5+ 6-) (5- 6-): two lines that differ in the end of one lever leave that lever out
abbrev pub either_end : Example
either_end = record {
  frame = record { crew = free; plates = 5 ∷ 6 ∷ []; lines = (plus 5 ∷ minus 6 ∷ []) ∷ (minus 5 ∷ minus 6 ∷ []) ∷ [] };
  table = (minus 6 ∷ []) ∷ [];
}

-- (5+ 6+) (5- 6-): two levers that must stand at different ends
abbrev pub crossed : List (List Item)
crossed = (plus 5 ∷ plus 6 ∷ []) ∷ (minus 5 ∷ minus 6 ∷ []) ∷ []

-- so neither of the two can move
abbrev pub neither_moves : Example
neither_moves = record {
  frame = record { crew = free; plates = 5 ∷ 6 ∷ []; lines = crossed };
  table = (star 5 ∷ []) ∷ (star 6 ∷ []) ∷ crossed;
}

-- with no hands nobody could move one, and the table need not say so
abbrev pub nobody_moves : Example
nobody_moves = record {
  frame = record { crew = hands 0; plates = 5 ∷ 6 ∷ []; lines = crossed };
  table = crossed;
}

-- (5+ 6*) (5- 6-): a line with * is shortened to the lever with *
abbrev pub moving_line : Example
moving_line = record {
  frame = record { crew = free; plates = 5 ∷ 6 ∷ []; lines = (plus 5 ∷ star 6 ∷ []) ∷ (minus 5 ∷ minus 6 ∷ []) ∷ [] };
  table = (star 6 ∷ []) ∷ (minus 5 ∷ minus 6 ∷ []) ∷ [];
}

-- (5+ 6+ 7-) (5- 6- 8-): signs that oppose besides those of the lever that is dropped give *
abbrev pub opposed_twice : Example
opposed_twice = record {
  frame = record { crew = free; plates = 5 ∷ 6 ∷ 7 ∷ 8 ∷ []; lines = (plus 5 ∷ plus 6 ∷ minus 7 ∷ []) ∷ (minus 5 ∷ minus 6 ∷ minus 8 ∷ []) ∷ [] };
  table = (plus 5 ∷ plus 6 ∷ minus 7 ∷ []) ∷ (minus 5 ∷ minus 6 ∷ minus 8 ∷ []) ∷ (star 5 ∷ minus 7 ∷ minus 8 ∷ []) ∷ (star 6 ∷ minus 7 ∷ minus 8 ∷ []) ∷ [];
}

-- (5+ 6+ 7+) (5- 6- 7-): three levers that must not stand all at one end
abbrev pub all_at_one_end : List (List Item)
all_at_one_end = (plus 5 ∷ plus 6 ∷ plus 7 ∷ []) ∷ (minus 5 ∷ minus 6 ∷ minus 7 ∷ []) ∷ []

-- so no two of them can move together
abbrev pub no_two_move : Example
no_two_move = record {
  frame = record { crew = free; plates = 5 ∷ 6 ∷ 7 ∷ []; lines = all_at_one_end };
  table = (star 5 ∷ star 6 ∷ []) ∷ (star 5 ∷ star 7 ∷ []) ∷ (star 6 ∷ star 7 ∷ []) ∷ all_at_one_end;
}

-- with one hand no two would, and the table need not say so
abbrev pub one_moves : Example
one_moves = record {
  frame = record { crew = hands 1; plates = 5 ∷ 6 ∷ 7 ∷ []; lines = all_at_one_end };
  table = all_at_one_end;
}

-- (5+ 6-) (6+ 7-) (7+ 8-): along a chain combinations are combined again
abbrev pub chain : Example
chain = record {
  frame = record { crew = free; plates = 5 ∷ 6 ∷ 7 ∷ 8 ∷ []; lines = (plus 5 ∷ minus 6 ∷ []) ∷ (plus 6 ∷ minus 7 ∷ []) ∷ (plus 7 ∷ minus 8 ∷ []) ∷ [] };
  table = (plus 5 ∷ minus 6 ∷ []) ∷ (plus 5 ∷ minus 7 ∷ []) ∷ (plus 5 ∷ minus 8 ∷ []) ∷ (plus 6 ∷ minus 7 ∷ []) ∷ (plus 6 ∷ minus 8 ∷ []) ∷ (plus 7 ∷ minus 8 ∷ []) ∷ [];
}

-- (5+) (5-): a lever that may stand at neither end leaves no possible setting
abbrev pub neither_end : Example
neither_end = record {
  frame = record { crew = free; plates = 5 ∷ []; lines = (plus 5 ∷ []) ∷ (minus 5 ∷ []) ∷ [] };
  table = [] ∷ [];
}

-- the ten of them
abbrev pub small_frames : List Example
small_frames = no_lines ∷ either_end ∷ neither_moves ∷ nobody_moves ∷ moving_line ∷ opposed_twice ∷ no_two_move ∷ one_moves ∷ chain ∷ neither_end ∷ []

-- each of the frames has its table, and in the last no setting is possible
pub record SmallFrames : Type 0 where
  pub tables : AllByRecursion (λ e. IsTable e.frame e.table) small_frames
  pub stuck : (s : Setting) → possible neither_end.frame s ≡ false
