-- What a group shows: the settings that rest on it, and the first of these. Assumes nothing.
use Rattle.std.specs.Prelude.{◌≡◌, ℕ, Bool, true, false, ◌&&◌, ◌||◌, List, [], ◌∷◌, Some, ◌==◌, nat_lt}
use Rattle.groups.specs.declared.items.Item.{Item}
use Rattle.groups.specs.declared.items.Sign.{Sign}
use Rattle.groups.specs.declared.items.Sign.TheVariants.{Plus, Minus, Star}
use Rattle.groups.specs.Items.{sign_at}
use Rattle.groups.specs.Rises.{items_on}
use Rattle.meaning.specs.States.{State, normal, reversed, between, holds, Setting, shows}
use Rattle.meaning.specs.Frames.{Frame, is_one_of, possible, starred}

-- the sign that is written for a state: + for normal, - for reversed, * for between
abbrev pub sign_for : State → Sign
sign_for normal = Plus
sign_for reversed = Minus
sign_for between = Star

-- a setting written as a group over these plates: each plate with the sign of its lever's state
abbrev pub written : List ℕ → Setting → List Item
written ps s = items_on (λ p. Some (sign_for (s p))) ps

-- a setting rests on a group: it shows the group, is possible, and has a fitted lever between just where the group has *
pub record RestsOn (f : Frame) (g : List Item) (s : Setting) : Type 0 where
  pub shown : shows s g ≡ true
  pub possible : possible f s ≡ true
  pub rests : (p : ℕ) → is_one_of f.plates p ≡ true → holds Star (s p) ≡ starred (sign_at g p)

-- normal comes before reversed, and reversed before between
abbrev pub state_rank : State → ℕ
state_rank normal = 0
state_rank reversed = 1
state_rank between = 2

-- a setting comes sooner than another: the first of these plates at which the two differ decides
abbrev pub sooner : List ℕ → Setting → Setting → Bool
sooner [] s t = false
sooner (p ∷ ps) s t = nat_lt (state_rank (s p)) (state_rank (t p)) || (state_rank (s p) == state_rank (t p) && sooner ps s t)

-- a setting is the first for a group: it rests on the group, and none that does comes sooner
pub record FirstSetting (f : Frame) (g : List Item) (s : Setting) : Type 0 where
  pub rests : RestsOn f g s
  pub first : (t : Setting) → RestsOn f g t → sooner f.plates t s ≡ false
