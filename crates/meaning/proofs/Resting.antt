-- A setting rests wherever a group lets it: so a manageable group is forbidden just when each setting that shows it shows
-- a line. Assumes nothing.
use Rattle.std.proofs.Common.{◌≡◌, ℕ, true, not, List, [], ◌∷◌, Some, None, Option, sym, ap, ◌∙◌, ⊎_elim, arith}
use Rattle.std.specs.List.{AllByRecursion}
use Rattle.std.proofs.lemmas.Bool.{and_parts, and_from, or_cases, or_left, or_right, not-true, not_from_false, cases_Bool, both_ways}
use Rattle.groups.specs.declared.items.Item.{Item}
use Rattle.groups.specs.declared.items.Sign.{Sign}
use Rattle.groups.specs.declared.items.Sign.TheVariants.{Plus, Minus, Star}
use Rattle.groups.specs.Items.{rising, sign_at, covers}
use Rattle.meaning.specs.States.{State, normal, reversed, between, holds, Setting, shows, shows_any}
use Rattle.meaning.specs.Frames.{Frame, Sound, group_over, moving, stars, manageable, Forbidden, starred}
use Rattle.meaning.specs.Laws.{Excluded, ForbiddenIsExcluded}
use Rattle.meaning.specs.Shown.{sign_for}
use Rattle.meaning.proofs.Ends.{Within, states_of, shows_has, has_shows, shows_covered}
use Rattle.meaning.proofs.Fitted.{over_parts}
use Rattle.meaning.proofs.Managed.{stars_over, kept_same}

-- each end of the setting s is one of t
abbrev pub Below : Setting → Setting → Type 0
Below s t = (p : ℕ) → Within (states_of s p) (states_of t p)

-- a setting with fewer ends shows fewer groups
pub shows_less : (s t : Setting) (g : List Item) → rising 0 g ≡ true → Below s t → shows s g ≡ true → shows t g ≡ true
shows_less s t g r b v = has_shows t g r (λ p e q. b p e (shows_has s g v p e q))

pub any_less : (ps : List ℕ) (s t : Setting) (lines : List (List Item)) → AllByRecursion (λ l. group_over ps l ≡ true) lines → Below s t → shows_any s lines ≡ true → shows_any t lines ≡ true
any_less ps s t [] o b v = v
any_less ps s t (l ∷ lines) o b v =
    ⊎_elim
    (λ h. or_left (shows t l) (shows_any t lines) (shows_less s t l (over_parts ps l o.0).rises b h))
    (λ h. or_right (shows t l) (shows_any t lines) (any_less ps s t lines o.1 b h))
    (or_cases (shows s l) (shows_any s lines) v)

-- the state that a sign leaves of another: between only under *
abbrev pub rest_at : Option Sign → State → State
rest_at None normal = normal
rest_at None reversed = reversed
rest_at None between = normal
rest_at (Some Plus) x = normal
rest_at (Some Minus) x = reversed
rest_at (Some Star) x = between

-- the setting that a group leaves of another: it is between just where the group has *
abbrev pub rest : List Item → Setting → Setting
rest g s p = rest_at (sign_at g p) (s p)

rest_below : (o : Option Sign) (x : State) → Within o (Some (sign_for x)) → Within (Some (sign_for (rest_at o x))) (Some (sign_for x))
rest_below o x w e q = let a = w e in grind arith

rest_has : (o : Option Sign) (x : State) → Within o (Some (sign_for (rest_at o x)))
rest_has o x e q = grind arith

pub rest_star : (o : Option Sign) (x : State) → holds Star (rest_at o x) ≡ starred o
rest_star o x = grind arith

pub rest_shows : (s : Setting) (g : List Item) → rising 0 g ≡ true → shows (rest g s) g ≡ true
rest_shows s g r = has_shows (rest g s) g r (λ p. rest_has (sign_at g p) (s p))

pub rest_less : (s : Setting) (g : List Item) → shows s g ≡ true → Below (rest g s) s
rest_less s g v p = rest_below (sign_at g p) (s p) (shows_has s g v p)

-- what is between in it is what the group has with *
pub rest_moving : (f : Frame) → Sound f → (s : Setting) (g : List Item) → group_over f.plates g ≡ true → moving f (rest g s) ≡ stars g
rest_moving f sound s g o =
    kept_same (λ p. holds Star (rest g s p)) (λ p. starred (sign_at g p)) (λ p. rest_star (sign_at g p) (s p)) f.plates
    ∙ sym (stars_over f.plates g sound.plates o)

pub forbidden_excluded : (f : Frame) → Sound f → (g : List Item) → Forbidden f g → Excluded f.lines g
forbidden_excluded f sound g forb s v =
    let o = over_parts f.plates g forb.fitted in
    let t = rest g s in
    ⊎_elim
    (λ h. any_less f.plates t s f.lines sound.lines (rest_less s g v) h)
    (λ h.
    absurd (both_ways (shows t g)
    (forb.never t (and_from (f.crew (moving f t)) (not (shows_any t f.lines)) (ap f.crew (rest_moving f sound s g forb.fitted) ∙ forb.managed) (not_from_false _ h)))
    (rest_shows s g o.rises)))
    (cases_Bool (shows_any t f.lines))

pub excluded_forbidden : (f : Frame) (g : List Item) → group_over f.plates g ≡ true → manageable f g ≡ true → Excluded f.lines g → Forbidden f g
excluded_forbidden f g o m x =
    record {
      fitted = o;
      managed = m;
      never = λ s p.
          ⊎_elim
          (λ v. absurd (both_ways (shows_any s f.lines) (not-true (shows_any s f.lines) (and_parts (f.crew (moving f s)) (not (shows_any s f.lines)) p).1) (x s v)))
          (λ v. v)
          (cases_Bool (shows s g));
    }

pub forbidden_is_excluded : ForbiddenIsExcluded
forbidden_is_excluded f sound g o m = (forbidden_excluded f sound g, excluded_forbidden f g o m)

-- what is covered by what is excluded is excluded
pub excluded_covered : (lines : List (List Item)) (g h : List Item) → rising 0 g ≡ true → covers g h ≡ true → Excluded lines g → Excluded lines h
excluded_covered lines g h r c x s v = x s (shows_covered s g h r c v)
