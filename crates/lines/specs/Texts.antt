-- What is written of a group, and what a call that writes leaves in the caller's buffer. Assumes nothing.
use Rattle.std.specs.Prelude.{ℕ, cond, List, [], ◌∷◌, ◌++◌, length, drop, Some, None, Ok, Err, decimal, Option, Result, nat_lt}
use Rattle.std.specs.List.{flat_map}
use Rattle.std.specs.Option.{option_map}
use Rattle.faults.specs.declared.Fault.{Fault}
use Rattle.faults.specs.declared.Place.TheVariants.{Nowhere}
use Rattle.faults.specs.declared.Refusal.TheVariants.{ShortBuffer}
use Rattle.faults.specs.Faults.{fault_of}
use Rattle.groups.specs.declared.items.Item.{Item}
use Rattle.groups.specs.Items.{mark_of}

-- an item: the number of its plate, and its sign
abbrev pub item_text : Item → List ℕ
item_text i = decimal i.plate ++ (mark_of i.sign ∷ [])

-- an item behind another: with a space in front
abbrev pub next_text : Item → List ℕ
next_text i = 32 ∷ item_text i

-- items with one space between
abbrev pub row_text : List Item → List ℕ
row_text [] = []
row_text (i ∷ is) = item_text i ++ flat_map next_text is

-- a group: its items in brackets
abbrev pub group_text : List Item → List ℕ
group_text is = 40 ∷ (row_text is ++ (41 ∷ []))

-- the answer of a call that writes a text, or nothing: 16 for a buffer of fewer than 320 bytes, else the text's length
abbrev pub write_answer : Option (List ℕ) → List ℕ → Result (Option ℕ) Fault
write_answer o buffer = cond (nat_lt (length buffer) 320) (Err (fault_of ShortBuffer Nowhere)) (Ok (option_map length o))

-- the buffer after it: the text from the first byte on, and behind it what was there
abbrev pub write_after : Option (List ℕ) → List ℕ → List ℕ
write_after None buffer = buffer
write_after (Some t) buffer = cond (nat_lt (length buffer) 320) buffer (t ++ drop (length t) buffer)
