-- What is told of two groups by their ends, in the words of the items that they spell over any frame. Assumes nothing.
use Rattle.std.specs.Prelude.{◌≡◌, ℕ, ◌<◌, Bool, true, List, length, Some, Decides, Option, MatchOption, ◌≢◌, slice_index}
use Rattle.std.specs.declared.cmp.Ordering.{Ordering}
use Rattle.std.specs.Option.{option_map}
use Rattle.std.specs.Ordering.{MatchOrdering}
use Rattle.groups.specs.declared.items.Sign.TheVariants.{Plus, Minus}
use Rattle.groups.specs.Items.{sign_at, covers, CombinesTo}
use Rattle.meaning.specs.Tables.{earlier, before}
use Rattle.placed.specs.declared.Placed.{Placed}
use Rattle.groups.specs.Rises.{climbing}
use Rattle.placed.specs.Signs.{sign_on, Within}
use Rattle.placed.specs.Spelling.{spell}

-- r tells, over any frame that has the levers of g, whether what g spells covers what h spells
abbrev pub CoversOver : Placed → Placed → Bool → Type 0
CoversOver g h r = (ps : List ℕ) → climbing 0 ps ≡ true → Within (length ps) g → r ≡ covers (spell ps g) (spell ps h)

-- r tells, over any frame that has the levers of both, whether g and h spell the same items
abbrev pub SameOver : Placed → Placed → Bool → Type 0
SameOver g h r = (ps : List ℕ) → climbing 0 ps ≡ true → Within (length ps) g → Within (length ps) h → Decides r (spell ps g ≡ spell ps h)

-- r is, over any frame with a lever at place k, what combining what a and b spell on that lever's plate answers
abbrev pub CombinesOver : Placed → Placed → ℕ → Option Placed → Type 0
CombinesOver a b k r = (ps : List ℕ) → climbing 0 ps ≡ true → k < length ps → CombinesTo (slice_index ps k) (spell ps a) (spell ps b) (option_map (spell ps) r)

-- r tells, over any frame with a lever at place k, whether a has + on that lever's plate and b has -
abbrev pub OpposesOver : Placed → Placed → ℕ → Bool → Type 0
OpposesOver a b k r = (ps : List ℕ) → climbing 0 ps ≡ true → k < length ps → Decides r ((sign_at (spell ps a) (slice_index ps k) ≡ Some Plus) × (sign_at (spell ps b) (slice_index ps k) ≡ Some Minus))

-- n is, over any frame that has the levers of g, the number of items that g spells
abbrev pub CountsOver : Placed → ℕ → Type 0
CountsOver g n = (ps : List ℕ) → Within (length ps) g → n ≡ length (spell ps g)

-- o is the lowest place at which g and h have other signs, and nothing where there is none
abbrev pub DiffersFirst : Placed → Placed → Option ℕ → Type 0
DiffersFirst g h o = MatchOption o ((k : ℕ) → sign_on g k ≡ sign_on h k) (λ p. (sign_on g p ≢ sign_on h p) × ((k : ℕ) → k < p → sign_on g k ≡ sign_on h k))

-- r tells, over any frame that has the levers of both and at an equal number of items, which of g and h comes first item by item
abbrev pub EarlierOver : Placed → Placed → Ordering → Type 0
EarlierOver g h r = (ps : List ℕ) → climbing 0 ps ≡ true → Within (length ps) g → Within (length ps) h → length (spell ps g) ≡ length (spell ps h) → MatchOrdering r (earlier (spell ps g) (spell ps h) ≡ true) (g ≡ h) (earlier (spell ps h) (spell ps g) ≡ true)

-- r tells, over any frame that has the levers of both, which of g and h comes first in a table
abbrev pub OrdersOver : Placed → Placed → Ordering → Type 0
OrdersOver g h r = (ps : List ℕ) → climbing 0 ps ≡ true → Within (length ps) g → Within (length ps) h → MatchOrdering r (before (spell ps g) (spell ps h) ≡ true) (g ≡ h) (before (spell ps h) (spell ps g) ≡ true)
