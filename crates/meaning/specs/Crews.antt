-- What a crew means: which levers can be between together. Assumes nothing.
use Rattle.std.specs.Prelude.{◌≡◌, ℕ, min, Bool, true, ◌&&◌, List, [], ◌∷◌, ◌++◌, length, filter, nat_le, nat_lt}
use Rattle.groups.specs.Rises.{climbing}

-- a crew's meaning: whether it admits a list of plates, so that the levers of the list can be between together
abbrev pub Admits : Type 0
Admits = List ℕ → Bool

-- the laws of a crew: the empty list is admitted, and an admitted list with one plate taken out is admitted
pub record Lawful (crew : Admits) : Type 0 where
  pub none : crew [] ≡ true
  pub fewer : (xs : List ℕ) (p : ℕ) (ys : List ℕ) → crew (xs ++ (p ∷ ys)) ≡ true → crew (xs ++ ys) ≡ true

-- a list that a crew can be asked about: up to 32 different plates in rising order
abbrev pub askable : List ℕ → Bool
askable ps = nat_le (length ps) 32 && climbing 0 ps

-- hands: at most h levers are between together; h above 32 counts as 32
abbrev pub hands : ℕ → Admits
hands h ps = nat_le (length ps) (min h 32)

-- split: at most one lever below the plate is between, and at most one from the plate upwards
abbrev pub split : ℕ → Admits
split plate ps = nat_le (length (filter (λ p. nat_lt p plate) ps)) 1 && nat_le (length (filter (λ p. nat_le plate p) ps)) 1

-- free: any levers can be between together
abbrev pub free : Admits
free ps = true
