-- Groups as lists of items: what a sign says of a plate, covering and combining. Assumes nothing.
use Rattle.std.specs.Prelude.{◌≡◌, ℕ, Bool, true, false, cond, ◌&&◌, List, [], ◌∷◌, is_some, Some, None, Option, ◌==◌, ◌≢◌, nat_le, nat_lt}
use Rattle.std.specs.List.{prefix_len}
use Rattle.groups.specs.declared.items.Item.{Item}
use Rattle.groups.specs.declared.items.Sign.{Sign}
use Rattle.groups.specs.declared.items.Sign.TheVariants.{Plus, Minus, Star}

-- the plates of levers go from 1 to 2,097,151
abbrev pub is_plate : ℕ → Bool
is_plate p = nat_lt 0 p && nat_le p 2097151

-- the plates rise, from above `low` on, and none passes 2,097,151
abbrev pub rising : ℕ → List Item → Bool
rising low [] = true
rising low (i ∷ is) = nat_lt low i.plate && (nat_le i.plate 2097151 && rising i.plate is)

-- the sign that the items give a plate, if they name it
abbrev pub sign_at : List Item → ℕ → Option Sign
sign_at [] p = None
sign_at (i ∷ is) p = cond (i.plate == p) (Some i.sign) (sign_at is p)

-- the items name the plate
abbrev pub names : List Item → ℕ → Bool
names is p = is_some (sign_at is p)

-- the items with one more, in its place by rising plates
abbrev pub insert : Item → List Item → List Item
insert x [] = x ∷ []
insert x (i ∷ is) = cond (nat_lt x.plate i.plate) (x ∷ i ∷ is) (i ∷ insert x is)

-- how many items at the front have a plate below p
abbrev pub place_of : ℕ → List Item → ℕ
place_of p is = prefix_len (λ i. nat_lt i.plate p) is

-- where one group has sign s, another that it covers has the same sign or *
abbrev pub sits : Sign → Option Sign → Bool
sits s None = false
sits s (Some Star) = true
sits Plus (Some Plus) = true
sits Plus (Some Minus) = false
sits Minus (Some Plus) = false
sits Minus (Some Minus) = true
sits Star (Some Plus) = false
sits Star (Some Minus) = false

-- group g covers group h: each plate of g is in h, with the same sign or with * in h
abbrev pub covers : List Item → List Item → Bool
covers [] h = true
covers (i ∷ g) h = sits i.sign (sign_at h i.plate) && covers g h

-- a plate of two groups keeps its sign if the signs agree, else it gets *
abbrev pub joint : Option Sign → Option Sign → Option Sign
joint None t = t
joint (Some s) None = Some s
joint (Some Plus) (Some Plus) = Some Plus
joint (Some Minus) (Some Minus) = Some Minus
joint (Some Plus) (Some Minus) = Some Star
joint (Some Plus) (Some Star) = Some Star
joint (Some Minus) (Some Plus) = Some Star
joint (Some Minus) (Some Star) = Some Star
joint (Some Star) (Some Plus) = Some Star
joint (Some Star) (Some Minus) = Some Star
joint (Some Star) (Some Star) = Some Star

-- c is the combination of a and b on plate x: a has x+ and b has x-, c drops x and has all other items of both
pub record Combination (x : ℕ) (a b c : List Item) : Type 0 where
  pub plus : sign_at a x ≡ Some Plus
  pub minus : sign_at b x ≡ Some Minus
  pub spelled : rising 0 c ≡ true
  pub dropped : sign_at c x ≡ None
  pub others : (p : ℕ) → (p ≢ x) → sign_at c p ≡ joint (sign_at a p) (sign_at b p)

-- what combining a and b on x answers: the combination, or nothing unless a has x+ and b has x-
abbrev pub CombinesTo : ℕ → List Item → List Item → Option (List Item) → Type 0
CombinesTo x a b None = sign_at a x ≡ Some Plus → sign_at b x ≢ Some Minus
CombinesTo x a b (Some c) = Combination x a b c

-- the byte of a sign: + - *
abbrev pub mark_of : Sign → ℕ
mark_of Plus = 43
mark_of Minus = 45
mark_of Star = 42
