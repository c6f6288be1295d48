-- Numbers in a text. Assumes nothing.
use Rattle.std.specs.Prelude.{◌≡◌, ℕ, ◌+◌, ◌-◌, ◌*◌, ◌≤◌, cond, List, [], ◌∷◌, take, Some, None, decimal, Option, ◌==◌, nat_le}
use Rattle.std.specs.Char.{is_ascii_digit}
use Rattle.std.specs.List.{prefix_len}

-- how long the run of digits at the front of a text is
abbrev pub run : List ℕ → ℕ
run text = prefix_len is_ascii_digit text

-- that run
abbrev pub digits_of : List ℕ → List ℕ
digits_of text = take (run text) text

-- the value of digits, behind those of value n
abbrev pub value_from : ℕ → List ℕ → ℕ
value_from n [] = n
value_from n (d ∷ ds) = value_from (n * 10 + (d - 48)) ds

-- the plate that digits spell: no zero in front, and a value of at most 2,097,151
abbrev pub plate_of : List ℕ → Option ℕ
plate_of [] = None
plate_of (d ∷ ds) = cond (d == 48) None (cond (nat_le (value_from 0 (d ∷ ds)) 2097151) (Some (value_from 0 (d ∷ ds))) None)

-- digits are the number of a plate: a number from 1 to 2,097,151 as one writes it
pub record Numeral (ds : List ℕ) (p : ℕ) : Type 0 where
  pub written : ds ≡ decimal p
  pub low : 1 ≤ p
  pub high : p ≤ 2097151
