-- Which elements a list has, from its first element and its rest. Assumes nothing.
use Rattle.std.proofs.Common.{◌≡◌, ℕ, zero, suc, ◌<◌, ◌⊎◌, List, [], ◌∷◌, length, refl, inl, inr, arith}
use Rattle.std.specs.List.{ContainsAt as Has, HoldsAt}

pub has_none : {X : Type 0} (x : X) → Has [] x → ⊥
has_none x h = let a = h.1 in omega arith

pub has_first : {X : Type 0} (x : X) (xs : List X) → Has (x ∷ xs) x
has_first x xs = (0, omega arith, λ d. refl)

pub has_later : {X : Type 0} (x y : X) (xs : List X) → Has xs y → Has (x ∷ xs) y
has_later x y xs h = let a = h.1 in (suc h.0, omega arith, h.2)

-- the first element, or one of the rest
pub has_cases : {X : Type 0} (x y : X) (xs : List X) → Has (x ∷ xs) y → (x ≡ y) ⊎ Has xs y
has_cases {X} x y xs h = go h.0 h.1 h.2
  where
    go : (k : ℕ) → k < length (x ∷ xs) → HoldsAt (λ z. z ≡ y) (x ∷ xs) k → (x ≡ y) ⊎ Has xs y
    go zero l e = inl (e x)
    go (suc k) l e = inr (k, omega arith, e)
