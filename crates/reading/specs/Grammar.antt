-- The grammar of groups, and the first fault of a text that spells none. Assumes nothing.
use Rattle.std.specs.Prelude.{◌≡◌, ℕ, ◌+◌, ◌<◌, ◌≤◌, true, false, List, [], ◌∷◌, ◌++◌, length, drop, Ok, Err, Result, ◌≢◌}
use Rattle.faults.specs.declared.Refusal.{Refusal}
use Rattle.faults.specs.declared.Refusal.TheVariants as refusal
use Rattle.faults.specs.declared.TextFault.{TextFault}
use Rattle.faults.specs.Faults.{text_fault_of}
use Rattle.groups.specs.declared.items.Item.{Item}
use Rattle.groups.specs.declared.items.Sign.{Sign}
use Rattle.groups.specs.Items.{rising, sign_at, names}
pub use Rattle.groups.specs.Items.{mark_of}
use Rattle.reading.specs.Numbers.{run, digits_of, Numeral}
use Rattle.reading.specs.Tokens.{byte_at}

-- an item from its parts
abbrev pub item : ℕ → Sign → Item
item p s = record { plate = p; sign = s }

-- a text of items, each a number and a sign, with one space behind it
pub data Items : List ℕ → List Item → Type 0 where
  none : Items [] []
  more : {ds text : List ℕ} {p : ℕ} {its : List Item} (s : Sign) → Numeral ds p → Items text its → Items (ds ++ (mark_of s ∷ 32 ∷ text)) (item p s ∷ its)

-- each plate is named once
abbrev pub Once : List Item → Type 0
Once [] = Unit {0}
Once (i ∷ is) = (names is i.plate ≡ false) × Once is

-- a text spells a group: one to eight items in brackets, in any order of plates, each plate once, with one space between
pub record Spells (text : List ℕ) (g : List Item) : Type 0 where
  pub front : List ℕ
  pub its : List Item
  pub ds : List ℕ
  pub p : ℕ
  pub s : Sign
  pub items : Items front its
  pub number : Numeral ds p
  pub whole : text ≡ 40 ∷ (front ++ (ds ++ (mark_of s ∷ 41 ∷ [])))
  pub few : length its < 8
  pub once : Once (its ++ (item p s ∷ []))
  pub rises : rising 0 g ≡ true
  pub same : (q : ℕ) → sign_at g q ≡ sign_at (its ++ (item p s ∷ [])) q

-- what stands behind the run of digits at the front of a text
abbrev pub behind : List ℕ → List ℕ
behind text = drop (run text) text

-- the number of an item can stand at the front of a text, behind the items `named`
pub record NewItem (named : List Item) (text : List ℕ) (p : ℕ) : Type 0 where
  pub number : Numeral (digits_of text) p
  pub room : length named < 8
  pub fresh : names named p ≡ false

-- an item is due at the front of a text, behind the items `named`, and this is the fault, so many bytes on
pub data FaultAt (named : List Item) (text : List ℕ) : Refusal → ℕ → Type 0 where
  no_number : ((p : ℕ) → Numeral (digits_of text) p → ⊥) → FaultAt named text refusal.Number 0
  ninth : (p : ℕ) → Numeral (digits_of text) p → length named ≡ 8 → FaultAt named text refusal.Ninth 0
  repeated : (p : ℕ) → Numeral (digits_of text) p → length named < 8 → names named p ≡ true → FaultAt named text refusal.Repeated 0
  no_sign : (p : ℕ) → NewItem named text p → ((s : Sign) (t : List ℕ) → behind text ≢ mark_of s ∷ t) → FaultAt named text refusal.Mark (run text)
  no_space : (p : ℕ) (s : Sign) (t : List ℕ) → NewItem named text p → behind text ≡ mark_of s ∷ t → ((u : List ℕ) → t ≢ 32 ∷ u) → ((u : List ℕ) → t ≢ 41 ∷ u) → FaultAt named text refusal.Mark (run text + 1)
  no_end : (p : ℕ) (s : Sign) (b : ℕ) (t : List ℕ) → NewItem named text p → behind text ≡ mark_of s ∷ 41 ∷ b ∷ t → FaultAt named text refusal.Mark (run text + 2)

-- the first fault of a text: all before it is right, and there what is due is not
pub data FirstFault : List ℕ → Refusal → ℕ → Type 0 where
  no_bracket : (text : List ℕ) → ((t : List ℕ) → text ≢ 40 ∷ t) → FirstFault text refusal.Mark 0
  in_items : {front : List ℕ} {its : List Item} {rest : List ℕ} {e : Refusal} {n : ℕ} → Items front its → length its ≤ 8 → Once its → FaultAt its rest e n → FirstFault (40 ∷ (front ++ rest)) e (1 + length front + n)

-- the fault that a text is refused with, where its first byte stands at a place
pub record Refused (start : ℕ) (text : List ℕ) (f : TextFault) : Type 0 where
  pub refusal : Refusal
  pub offset : ℕ
  pub first : FirstFault text refusal offset
  pub is : f ≡ text_fault_of refusal (byte_at start offset)

-- an answer is right: it is a group just where the text spells that group, and a fault just where that is the first
pub record RightAnswer (start : ℕ) (text : List ℕ) (r : Result (List Item) TextFault) : Type 0 where
  pub read : (g : List Item) → r ≡ Ok g → Spells text g
  pub reads : (g : List Item) → Spells text g → r ≡ Ok g
  pub refused : (f : TextFault) → r ≡ Err f → Refused start text f
  pub refuses : (f : TextFault) → Refused start text f → r ≡ Err f

-- an answer to a text that has to be a number and no more is right
pub record RightNumber (start : ℕ) (text : List ℕ) (r : Result ℕ TextFault) : Type 0 where
  pub read : (p : ℕ) → r ≡ Ok p → Numeral text p
  pub reads : (p : ℕ) → Numeral text p → r ≡ Ok p
  pub no_number : ((p : ℕ) → Numeral (digits_of text) p → ⊥) → r ≡ Err (text_fault_of refusal.Number start)
  pub no_end : (p b : ℕ) (t : List ℕ) → Numeral (digits_of text) p → behind text ≡ b ∷ t → r ≡ Err (text_fault_of refusal.Mark (byte_at start (run text)))
