-- The refusals by number and layer, and the one record that every fault is. Assumes nothing.
use Rattle.std.specs.Prelude.{cond, ℕ, nat_le}
use Rattle.faults.specs.declared.Refusal.{Refusal}
use Rattle.faults.specs.declared.Refusal.TheVariants.{Word, Number, Mark, Repeated, Ninth, NotAbove, FrameFull, NotFitted, Named, InForce, LinesFull, NoSetting, TableFull, NotInForce, Unmanageable, ShortBuffer}
use Rattle.faults.specs.declared.Layer.{Layer}
use Rattle.faults.specs.declared.Layer.TheVariants.{Text, Frame, Sheet, Journal}
use Rattle.faults.specs.declared.Place.{Place}
use Rattle.faults.specs.declared.Place.TheVariants.{Byte}
use Rattle.faults.specs.declared.Fault.{Fault}
use Rattle.faults.specs.declared.TextFault.{TextFault}
use Rattle.faults.specs.declared.SheetFault.{SheetFault}
use Rattle.faults.specs.declared.SheetFault.TheVariants as sheet
use Rattle.faults.specs.declared.JournalFault.{JournalFault}
use Rattle.faults.specs.declared.JournalFault.TheVariants as journal

-- the number of each refusal
abbrev pub number_of : Refusal → ℕ
number_of Word = 1
number_of Number = 2
number_of Mark = 3
number_of Repeated = 4
number_of Ninth = 5
number_of NotAbove = 6
number_of FrameFull = 7
number_of NotFitted = 8
number_of Named = 9
number_of InForce = 10
number_of LinesFull = 11
number_of NoSetting = 12
number_of TableFull = 13
number_of NotInForce = 14
number_of Unmanageable = 15
number_of ShortBuffer = 16

-- the layer that refuses with a number: the text 1 to 5, the frame 6 to 9, the sheet 10 to 15, the journal 16
abbrev pub layer_of : ℕ → Layer
layer_of n = cond (nat_le n 5) Text (cond (nat_le n 9) Frame (cond (nat_le n 15) Sheet Journal))

-- the record of a refusal at a place
abbrev pub fault_of : Refusal → Place → Fault
fault_of r p = record { number = number_of r; layer = layer_of (number_of r); place = p }

-- a refusal found in a text, at a byte
abbrev pub text_fault_of : Refusal → ℕ → TextFault
text_fault_of r byte = record { fault = fault_of r (Byte byte) }

-- the record that a sheet's fault holds: a text's fault whole, or its own
abbrev pub sheet_record : SheetFault → Fault
sheet_record (sheet.Reading t) = t.fault
sheet_record (sheet.Own f) = f

-- the record that a journal's fault holds: a text's fault or a sheet's whole, or its own
abbrev pub journal_record : JournalFault → Fault
journal_record (journal.Reading t) = t.fault
journal_record (journal.Refused s) = sheet_record s
journal_record (journal.Own f) = f
