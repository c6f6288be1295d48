-- What a group over the places of a frame spells. Assumes nothing.
use Rattle.std.specs.Prelude.{ℕ, suc, List, [], ◌∷◌, ◌++◌}
use Rattle.groups.specs.declared.items.Item.{Item}
pub use Rattle.groups.specs.Rises.{item_if}
use Rattle.placed.specs.declared.Placed.{Placed}
use Rattle.placed.specs.Signs.{sign_on}

-- the items of a group, where the plates stand from place k on
abbrev pub spell_from : ℕ → List ℕ → Placed → List Item
spell_from k [] g = []
spell_from k (p ∷ ps) g = item_if p (sign_on g k) ++ spell_from (suc k) ps g

-- the items of a group over the plates of a frame: place k stands for the k-th plate
abbrev pub spell : List ℕ → Placed → List Item
spell ps g = spell_from 0 ps g
