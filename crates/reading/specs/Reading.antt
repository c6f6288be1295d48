-- Reading from left to right: what is due, and the fault where it is not there. Assumes nothing.
use Rattle.std.specs.Prelude.{ℕ, zero, suc, Bool, true, false, cond, List, [], ◌∷◌, drop, Some, None, Ok, Err, Option, Result, ◌==◌}
use Rattle.faults.specs.declared.Refusal.TheVariants as refusal
use Rattle.faults.specs.declared.TextFault.{TextFault}
use Rattle.faults.specs.Faults.{text_fault_of}
use Rattle.groups.specs.declared.items.Item.{Item}
use Rattle.groups.specs.declared.items.Sign.{Sign}
use Rattle.groups.specs.declared.items.Sign.TheVariants.{Plus, Minus, Star}
use Rattle.groups.specs.declared.group.Group.{Group}
use Rattle.groups.specs.Groups.{items_of}
use Rattle.groups.specs.Items.{names, insert}
use Rattle.reading.specs.Numbers.{run, digits_of, plate_of}
use Rattle.reading.specs.Tokens.{symbol, byte_at}

infixl 10 ◌>>=◌
-- a step, and another where it is not refused
abbrev pub ◌>>=◌ : {A B : Type 0} → Result A TextFault → (A → Result B TextFault) → Result B TextFault
◌>>=◌ (Ok x) f = f x
◌>>=◌ (Err e) f = Err e

-- where a number is due: the plate that stands there, or refusal 2
abbrev pub numbered : ℕ → Option ℕ → Result ℕ TextFault
numbered at None = Err (text_fault_of refusal.Number at)
numbered at (Some p) = Ok p

-- the same, from the digits that stand there
abbrev pub number_due : ℕ → List ℕ → Result ℕ TextFault
number_due at ds = numbered at (plate_of ds)

-- the number of an item: refusal 5 where no room is left, then 4 for a plate named before
abbrev pub item_number : ℕ → List Item → ℕ → ℕ → Result ℕ TextFault
item_number room seen at p = cond (room == 0) (Err (text_fault_of refusal.Ninth at)) (cond (names seen p) (Err (text_fault_of refusal.Repeated at)) (Ok p))

-- where the number of an item is due
abbrev pub plate_due : ℕ → List Item → ℕ → List ℕ → Result ℕ TextFault
plate_due room seen at ds = number_due at ds >>= item_number room seen at

-- the sign that a byte spells
abbrev pub sign_of : ℕ → Option Sign
sign_of b = cond (b == 43) (Some Plus) (cond (b == 45) (Some Minus) (cond (b == 42) (Some Star) None))

-- where a sign is due: the one that stands there, or refusal 3
abbrev pub signed : ℕ → Option Sign → Result Sign TextFault
signed at None = Err (text_fault_of refusal.Mark at)
signed at (Some s) = Ok s

-- the same, from the byte that stands there, if there is one that is no digit
abbrev pub sign_due : ℕ → Option ℕ → Result Sign TextFault
sign_due at None = Err (text_fault_of refusal.Mark at)
sign_due at (Some b) = signed at (sign_of b)

-- where the end is due
abbrev pub end_due : ℕ → List ℕ → Result (Unit {0}) TextFault
end_due at [] = Ok tt
end_due at (b ∷ bs) = Err (text_fault_of refusal.Mark at)

-- behind an item: a space (one more item is due), or the closing bracket and the end (none is), or refusal 3
abbrev pub more_by : ℕ → Option ℕ → List ℕ → Result Bool TextFault
more_by at None rest = Err (text_fault_of refusal.Mark at)
more_by at (Some b) rest = cond (b == 32) (Ok true) (cond (b == 41) (end_due (byte_at at 1) rest >>= λ _. Ok false) (Err (text_fault_of refusal.Mark at)))

-- the same, from the text
abbrev pub more_due : ℕ → List ℕ → Result Bool TextFault
more_due at text = more_by at (symbol text) (drop 1 text)

-- how reading goes on behind an item, with the items `held`: with the next item, or not at all
abbrev pub items_from : (ℕ → List ℕ → Result (List Item) TextFault) → List Item → ℕ → List ℕ → Bool → Result (List Item) TextFault
items_from next held at text true = next (byte_at at 1) (drop 1 text)
items_from next held at text false = Ok held

-- the items seen, with those that are read where an item is due and there is room for so many
unfoldable pub read_items : ℕ → List Item → ℕ → List ℕ → Result (List Item) TextFault
read_items zero seen at text = plate_due 0 seen at (digits_of text) >>= λ p. Ok seen
read_items (suc room) seen at text =
    let at₁ = byte_at at (run text) in
    let text₁ = drop (run text) text in
    plate_due (suc room) seen at (digits_of text) >>= λ p.
    sign_due at₁ (symbol text₁) >>= λ s.
    let held = insert (record { plate = p; sign = s }) seen in
    more_due (byte_at at₁ 1) (drop 1 text₁) >>= items_from (read_items room held) held (byte_at at₁ 1) (drop 1 text₁)

-- where an opening bracket is due
abbrev pub open_due : ℕ → Option ℕ → Result (Unit {0}) TextFault
open_due at None = Err (text_fault_of refusal.Mark at)
open_due at (Some b) = cond (b == 40) (Ok tt) (Err (text_fault_of refusal.Mark at))

-- the group that a text spells from its first byte, which stands at a place, to its end
abbrev pub read_group : ℕ → List ℕ → Result (List Item) TextFault
read_group at text = open_due at (symbol text) >>= λ _. read_items 8 [] (byte_at at 1) (drop 1 text)

-- the number that a text spells from its first byte to its end
abbrev pub read_plate : ℕ → List ℕ → Result ℕ TextFault
read_plate at text = number_due at (digits_of text) >>= λ p. (end_due (byte_at at (run text)) (drop (run text) text) >>= λ _. Ok p)

-- what an answer holds, by its items
abbrev pub held_by : Result Group TextFault → Result (List Item) TextFault
held_by (Ok g) = Ok (items_of g)
held_by (Err f) = Err f
