-- What is named and what is lacking, read off the ends. Assumes nothing.
use Rattle.std.proofs.Common.{◌≡◌, Bool, not, ◌&&◌, ◌||◌, is_some, arith}
use Rattle.placed.specs.Lacking.{lacks}
use Rattle.placed.specs.Signs.{sign_of}

pub named_ends : (u d : Bool) → (u || d) ≡ is_some (sign_of u d)
named_ends u d = grind arith

pub lacking_ends : (u d v e : Bool) → ((v && not u) || (e && not d)) ≡ lacks (sign_of u d) (sign_of v e)
lacking_ends u d v e = grind arith
