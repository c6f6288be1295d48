-- One item of a group: where its reading stops, and how it goes on. Assumes nothing.
use Rattle.std.proofs.Common.{◌≡◌, ℕ, zero, suc, ◌-◌, Bool, true, false, cond, ltb, List, [], ◌∷◌, length, drop, Some, None, Ok, Err, Option, Result, sym, refl, ap, ◌∙◌, arith}
use Rattle.faults.specs.declared.TextFault.{TextFault}
use Rattle.groups.specs.declared.items.Item.{Item}
use Rattle.groups.specs.declared.items.Sign.{Sign}
use Rattle.groups.specs.Items.{insert}
use Rattle.reading.specs.Grammar.{item}
use Rattle.reading.specs.Numbers.{run, digits_of, plate_of}
use Rattle.reading.specs.Reading.{◌>>=◌, numbered, item_number, plate_due, sign_due, more_due, items_from, read_items}
use Rattle.reading.specs.Tokens.{symbol, byte_at}
use Rattle.reading.proofs.Steps.{stop, go_on}

pub length_insert : (x : Item) (xs : List Item) → length (insert x xs) ≡ suc (length xs)
length_insert x [] = refl
length_insert x (i ∷ xs) = by (ltb x.plate i.plate) (length_insert x xs)
  where
    by : (t : Bool) → length (insert x xs) ≡ suc (length xs) → length (cond t (x ∷ i ∷ xs) (i ∷ insert x xs)) ≡ suc (length (i ∷ xs))
    by true h = refl
    by false h = ap suc h

-- no number is taken for an item where no room is left
no_room : (seen : List Item) (at : ℕ) (ds : List ℕ) (p : ℕ) → plate_due 0 seen at ds ≡ Ok p → ⊥
no_room seen at ds p h = by (plate_of ds) h
  where
    by : (o : Option ℕ) → (numbered at o >>= item_number 0 seen at) ≡ Ok p → ⊥
    by None h = cc
    by (Some q) h = cc

-- what is due behind the number of an item
abbrev pub after_plate : ℕ → List Item → ℕ → List ℕ → ℕ → Sign → Result (List Item) TextFault
after_plate room seen at text p s =
    more_due (byte_at at 1) (drop 1 text) >>= items_from (read_items room (insert (item p s) seen)) (insert (item p s) seen) (byte_at at 1) (drop 1 text)

-- a number that is refused ends the reading
pub stop_plate : (room : ℕ) (seen : List Item) (at : ℕ) (text : List ℕ) (e : TextFault) → plate_due room seen at (digits_of text) ≡ Err e → read_items room seen at text ≡ Err e
unfolding read_items
stop_plate zero seen at text e h = stop (plate_due 0 seen at (digits_of text)) _ e h
stop_plate (suc room) seen at text e h = stop (plate_due (suc room) seen at (digits_of text)) _ e h

-- behind a number a sign is due
pub on_plate : (room : ℕ) (seen : List Item) (at : ℕ) (text : List ℕ) (p : ℕ) → plate_due room seen at (digits_of text) ≡ Ok p → read_items room seen at text ≡ sign_due (byte_at at (run text)) (symbol (drop (run text) text)) >>= after_plate (room - 1) seen (byte_at at (run text)) (drop (run text) text) p
unfolding read_items
on_plate zero seen at text p h = absurd (no_room seen at (digits_of text) p h)
on_plate (suc room) seen at text p h =
    go_on (plate_due (suc room) seen at (digits_of text)) _ p h
    ∙ ap (λ r. sign_due (byte_at at (run text)) (symbol (drop (run text) text)) >>= after_plate r seen (byte_at at (run text)) (drop (run text) text) p) (omega arith)

-- behind a sign a space or the closing bracket is due
pub on_sign : (room : ℕ) (seen : List Item) (at : ℕ) (text : List ℕ) (p : ℕ) (s : Sign) → plate_due room seen at (digits_of text) ≡ Ok p → sign_due (byte_at at (run text)) (symbol (drop (run text) text)) ≡ Ok s → read_items room seen at text ≡ after_plate (room - 1) seen (byte_at at (run text)) (drop (run text) text) p s
on_sign room seen at text p s h k =
    on_plate room seen at text p h
    ∙ go_on (sign_due (byte_at at (run text)) (symbol (drop (run text) text))) _ s k

-- the reading of an item, where there is room and where there is none
pub read_item : (room : ℕ) (seen : List Item) (at : ℕ) (text : List ℕ) → read_items room seen at text ≡ (plate_due room seen at (digits_of text) >>= λ p. (sign_due (byte_at at (run text)) (symbol (drop (run text) text)) >>= after_plate (room - 1) seen (byte_at at (run text)) (drop (run text) text) p))
read_item room seen at text = by (plate_due room seen at (digits_of text)) refl
  where
    by : (r : Result ℕ TextFault) → plate_due room seen at (digits_of text) ≡ r → read_items room seen at text ≡ (plate_due room seen at (digits_of text) >>= λ p. (sign_due (byte_at at (run text)) (symbol (drop (run text) text)) >>= after_plate (room - 1) seen (byte_at at (run text)) (drop (run text) text) p))
    by (Ok p) e = on_plate room seen at text p e ∙ sym (go_on (plate_due room seen at (digits_of text)) _ p e)
    by (Err f) e = stop_plate room seen at text f e ∙ sym (stop (plate_due room seen at (digits_of text)) _ f e)

-- what reading one item after another goes by
pub ruleset item_rules = (read_item, length_insert)
