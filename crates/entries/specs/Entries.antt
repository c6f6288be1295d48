-- What comes of a line of text: its group, or the fault that is passed on whole. Assumes nothing.
use Rattle.std.specs.Prelude.{◌≡◌, ℕ, cond, List, [], ◌∷◌, ◌++◌, length, drop, Ok, Err, codes, decimal, Result, nat_lt}
use Rattle.faults.specs.declared.Fault.{Fault}
use Rattle.faults.specs.declared.Place.{Place}
use Rattle.faults.specs.declared.Place.TheVariants.{Nowhere, Byte, Plate}
use Rattle.faults.specs.declared.Refusal.TheVariants.{ShortBuffer}
use Rattle.faults.specs.declared.SheetFault.{SheetFault}
use Rattle.faults.specs.declared.SheetFault.TheVariants as sheet
use Rattle.faults.specs.declared.TextFault.{TextFault}
use Rattle.faults.specs.declared.JournalFault.{JournalFault}
use Rattle.faults.specs.declared.JournalFault.TheVariants as journal
use Rattle.faults.specs.Faults.{fault_of}
use Rattle.frames.specs.Fitted.{PlacesTo}
use Rattle.groups.specs.declared.items.Item.{Item}
use Rattle.groups.specs.Groups.{items_of}
use Rattle.placed.specs.declared.Placed.{Placed}
use Rattle.reading.specs.Reading.{read_group}
use Rattle.lines.specs.Texts.{group_text}
use Rattle.entries.specs.declared.Reading.{Reading}

-- what taking a text into a frame answers: the reading fault, whole; else the group by its places, or the plate that is
-- not fitted
abbrev pub EntersAs : List ℕ → ℕ → List ℕ → Result Placed SheetFault → Type 0
EntersAs ps start text (Ok g) = (is : List Item) × (read_group start text ≡ Ok is) × PlacesTo ps is (Ok g)
EntersAs ps start text (Err (sheet.Reading f)) = read_group start text ≡ Err f
EntersAs ps start text (Err (sheet.Own f)) = (is : List Item) × (read_group start text ≡ Ok is) × PlacesTo ps is (Err f)

-- the answer line of a group that was read: the line's number and the group
abbrev pub group_line : ℕ → List Item → List ℕ
group_line n is = decimal n ++ (32 ∷ group_text is)

-- the answer to a line by what reading it gave: the group and the length of its answer line, or the reading fault, whole
abbrev pub answer_by : ℕ → Result (List Item) TextFault → Result (List Item × ℕ) JournalFault
answer_by n (Ok is) = Ok (is, length (group_line n is))
answer_by n (Err f) = Err (journal.Reading f)

-- the answer to a line that has to be a group: refusal 16 for a short buffer, and else by what reading it gives
abbrev pub line_answer : ℕ → List ℕ → List ℕ → Result (List Item × ℕ) JournalFault
line_answer n text buffer = cond (nat_lt (length buffer) 320) (Err (journal.Own (fault_of ShortBuffer Nowhere))) (answer_by n (read_group 0 text))

-- the buffer then: the answer line from the first byte on, and behind it what was there; as it was where reading refused
abbrev pub buffer_by : ℕ → Result (List Item) TextFault → List ℕ → List ℕ
buffer_by n (Ok is) buffer = group_line n is ++ drop (length (group_line n is)) buffer
buffer_by n (Err f) buffer = buffer

-- the buffer after a line that has to be a group
abbrev pub line_after : ℕ → List ℕ → List ℕ → List ℕ
line_after n text buffer = cond (nat_lt (length buffer) 320) buffer (buffer_by n (read_group 0 text) buffer)

-- what an answer holds
abbrev pub held_by : Result Reading JournalFault → Result (List Item × ℕ) JournalFault
held_by (Ok r) = Ok (items_of r.group, r.length)
held_by (Err f) = Err f

-- a place as an answer line has it
abbrev pub place_text : Place → List ℕ
place_text Nowhere = []
place_text (Byte b) = codes " at " ++ decimal b
place_text (Plate p) = codes " plate " ++ decimal p

-- the answer line of a fault: the line's number, "no", the refusal's number and its place
abbrev pub tell_text : ℕ → Fault → List ℕ
tell_text n f = decimal n ++ (codes " no " ++ (decimal f.number ++ place_text f.place))
