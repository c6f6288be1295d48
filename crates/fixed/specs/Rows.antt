-- What a row holds. Assumes nothing.
use Rattle.std.specs.Prelude.{ℕ, List, ◌∷◌, ◌++◌, take, drop}
use Rattle.std.specs.List.{prefix_len}
use Rattle.std.specs.Ordering.{is_lt}
use Rattle.std.specs.declared.cmp.Ordering.{Ordering}
use Rattle.fixed.specs.declared.row.Row.{Row}

-- the items of a row, in their order
abbrev pub held : {T : Type 0} {n : ℕ} → Row T n → List T
held r = take r.count r.places

-- how many items at the front are less than x
abbrev pub less_in_front : {T : Type 0} → (T → T → Ordering) → T → List T → ℕ
less_in_front cmp x xs = prefix_len (λ y. is_lt (cmp y x)) xs

-- the items with x behind those at the front that are less
abbrev pub behind_less : {T : Type 0} → (T → T → Ordering) → T → List T → List T
behind_less cmp x xs = take (less_in_front cmp x xs) xs ++ (x ∷ drop (less_in_front cmp x xs) xs)
