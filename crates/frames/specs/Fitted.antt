-- The plates of a frame, and what is looked for among them. Assumes nothing.
use Rattle.std.specs.Prelude.{position, ◌≡◌, ℕ, ◌<◌, ◌≤◌, true, cond, not, List, [], ◌∷◌, ◌++◌, length, take, Some, None, Ok, Err, Option, Result, ◌==◌, nat_le, slice_index}
use Rattle.fixed.specs.Rows.{held}
use Rattle.faults.specs.declared.Fault.{Fault}
use Rattle.faults.specs.declared.Place.TheVariants.{Nowhere, Plate}
use Rattle.faults.specs.declared.Refusal.{Refusal}
use Rattle.faults.specs.declared.Refusal.TheVariants.{Number, NotAbove, FrameFull, NotFitted}
use Rattle.faults.specs.Faults.{fault_of}
use Rattle.groups.specs.declared.items.Item.{Item}
use Rattle.groups.specs.Items.{is_plate, names}
use Rattle.placed.specs.declared.Placed.{Placed}
use Rattle.frames.specs.declared.plates.Plates.{Plates}
use Rattle.groups.specs.Rises.{climbing}
use Rattle.placed.specs.Signs.{Within}
use Rattle.placed.specs.Spelling.{spell}

-- the fitted plates, in rising order
abbrev pub fitted : Plates → List ℕ
fitted f = held f.plates

-- the place of a plate among others, counted from 0
abbrev pub place_in : List ℕ → ℕ → Option ℕ
place_in ps p = position (λ q. q == p) ps

-- why a plate cannot be fitted behind others: it is no lever's, it is not above them all, or 32 are there
abbrev pub fit_refusal : List ℕ → ℕ → Option Refusal
fit_refusal ps p = cond (not (is_plate p)) (Some Number) (cond (not (climbing 0 (ps ++ (p ∷ [])))) (Some NotAbove) (cond (nat_le 32 (length ps)) (Some FrameFull) None))

-- the answer of a call that a refusal ends, if there is one
abbrev pub refused_by : Option Refusal → Result (Unit {0}) Fault
refused_by None = Ok tt
refused_by (Some r) = Err (fault_of r Nowhere)

-- what fitting plates one after the other answers: all of them, or why one cannot follow those before it, which all can
abbrev pub FitsAs : List ℕ → Result Plates Fault → Type 0
FitsAs ps (Ok f) = fitted f ≡ ps
FitsAs ps (Err e) = (n : ℕ) × (n < length ps) × (n ≤ 32) × (climbing 0 (take n ps) ≡ true) × (refused_by (fit_refusal (take n ps) (slice_index ps n)) ≡ Err e)

-- p is the lowest plate of the items that is not fitted
pub record LowestMissing (ps : List ℕ) (is : List Item) (p : ℕ) : Type 0 where
  pub named : names is p ≡ true
  pub unfitted : place_in ps p ≡ None
  pub lowest : (q : ℕ) → names is q ≡ true → place_in ps q ≡ None → p ≤ q

-- what taking spelled items into a frame answers: the group that spells them, or the lowest plate that is not fitted
abbrev pub PlacesTo : List ℕ → List Item → Result Placed Fault → Type 0
PlacesTo ps is (Ok g) = (spell ps g ≡ is) × Within (length ps) g
PlacesTo ps is (Err f) = (p : ℕ) × LowestMissing ps is p × (f ≡ fault_of NotFitted (Plate p))
