-- Groups as two sets of levers, one for each end of a lever. Assumes nothing.
use Rattle.std.specs.Prelude.{◌≡◌, ℕ, ◌≤◌, Bool, true, false, Some, None, Option}
use Rattle.groups.specs.declared.items.Sign.{Sign}
use Rattle.groups.specs.declared.items.Sign.TheVariants.{Plus, Minus, Star}
use Rattle.levers.specs.Sets.{has}
use Rattle.meaning.specs.Tables.{rank_of}
use Rattle.placed.specs.declared.Placed.{Placed}
use Rattle.placed.specs.declared.End.{End}
use Rattle.placed.specs.declared.End.TheVariants.{Upper, Lower}

-- the sign that is read off the two ends: + the upper, - the lower, * both
abbrev pub sign_of : Bool → Bool → Option Sign
sign_of true true = Some Star
sign_of true false = Some Plus
sign_of false true = Some Minus
sign_of false false = None

-- the sign that a group gives the lever at place k
abbrev pub sign_on : Placed → ℕ → Option Sign
sign_on g k = sign_of (has g.up k) (has g.down k)

-- the group names no lever from place n on
abbrev pub Within : ℕ → Placed → Type 0
Within n g = (k : ℕ) → n ≤ k → sign_on g k ≡ None

-- what is left of a sign with an end taken away
abbrev pub without_end : End → Option Sign → Option Sign
without_end e None = None
without_end Upper (Some Plus) = None
without_end Upper (Some Minus) = Some Minus
without_end Upper (Some Star) = Some Minus
without_end Lower (Some Plus) = Some Plus
without_end Lower (Some Minus) = None
without_end Lower (Some Star) = Some Plus

-- a sign has an end: + and * the upper, - and * the lower
abbrev pub has_end : End → Option Sign → Bool
has_end e None = false
has_end Upper (Some Plus) = true
has_end Upper (Some Minus) = false
has_end Upper (Some Star) = true
has_end Lower (Some Plus) = false
has_end Lower (Some Minus) = true
has_end Lower (Some Star) = true

-- two signs stand against each other: one is + and the other -
abbrev pub opposed_signs : Option Sign → Option Sign → Bool
opposed_signs None t = false
opposed_signs (Some s) None = false
opposed_signs (Some Plus) (Some Plus) = false
opposed_signs (Some Plus) (Some Minus) = true
opposed_signs (Some Plus) (Some Star) = false
opposed_signs (Some Minus) (Some Plus) = true
opposed_signs (Some Minus) (Some Minus) = false
opposed_signs (Some Minus) (Some Star) = false
opposed_signs (Some Star) (Some Plus) = false
opposed_signs (Some Star) (Some Minus) = false
opposed_signs (Some Star) (Some Star) = false

-- at one place + comes before -, - before *, and * before no sign: a group with a sign there has its next item earlier
abbrev pub rank_if : Option Sign → ℕ
rank_if None = 3
rank_if (Some s) = rank_of s
