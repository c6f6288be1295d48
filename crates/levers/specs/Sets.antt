-- Sets of levers by their places in a frame. Assumes nothing.
use Rattle.std.specs.Prelude.{◌≡◌, ℕ, zero, suc, ◌+◌, ◌/◌, ◌%◌, ◌^◌, ◌<◌, Bool, true, false, cond, Option, MatchOption, ◌==◌}
use Rattle.levers.specs.declared.Levers.{Levers}

-- the binary digit of a number at place k is 1
abbrev pub digit : ℕ → ℕ → Bool
digit n k = n / 2 ^ k % 2 == 1

-- the lever at place k is in the set
abbrev pub has : Levers → ℕ → Bool
has s k = digit s.bits k

-- how many of the n places from k on pass a test
abbrev pub tally : (ℕ → Bool) → ℕ → ℕ → ℕ
tally f k zero = 0
tally f k (suc n) = cond (f k) 1 0 + tally f (suc k) n

-- o is the lowest place that passes a test, and nothing where none does
abbrev pub Lowest : (ℕ → Bool) → Option ℕ → Type 0
Lowest f o = MatchOption o ((k : ℕ) → f k ≡ false) (λ p. (f p ≡ true) × ((k : ℕ) → k < p → f k ≡ false))
