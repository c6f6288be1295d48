-- Groups and settings by the two ends of each lever: to show and to cover is to have each end. Assumes nothing.
use Rattle.std.proofs.Common.{◌≡◌, ℕ, Bool, true, false, ◌&&◌, ◌||◌, List, [], ◌∷◌, Some, None, Option, sym, refl, ap, ◌∙◌, subst, ⊎_elim, arith}
use Rattle.std.proofs.lemmas.Bool.{and_parts, and_from, eq-eqb, ne_eqb, cond-true, cond-false, cases_eq, false≢true}
use Rattle.groups.specs.declared.items.Item.{Item}
use Rattle.groups.specs.declared.items.Sign.{Sign}
use Rattle.groups.specs.declared.items.Sign.TheVariants.{Plus, Minus, Star}
use Rattle.groups.specs.Items.{rising, sign_at, sits, covers, joint}
use Rattle.groups.proofs.Rising.{rising_step, unnamed_below, same_signs}
use Rattle.meaning.specs.States.{State, holds, Setting, shows}
use Rattle.meaning.specs.Shown.{sign_for}

-- a lever's ends: the upper is had by + and normal, the lower by - and reversed, both by * and between
pub data End : Type 0 where
  upper lower : End

abbrev pub ends : Option Sign → End → Bool
ends None e = false
ends (Some Plus) upper = true
ends (Some Plus) lower = false
ends (Some Minus) upper = false
ends (Some Minus) lower = true
ends (Some Star) e = true

-- each end of the one is an end of the other
abbrev pub Within : Option Sign → Option Sign → Type 0
Within o u = (e : End) → ends o e ≡ true → ends u e ≡ true

pub sits_within : (s : Sign) (u : Option Sign) → sits s u ≡ true → Within (Some s) u
sits_within s u h e q = grind arith

pub within_sits : (s : Sign) (u : Option Sign) → Within (Some s) u → sits s u ≡ true
within_sits s u w = let a = w upper in let b = w lower in grind arith

pub same_ends : (o u : Option Sign) → Within o u → Within u o → o ≡ u
same_ends o u v w = let a = v upper in let b = v lower in let c = w upper in let d = w lower in grind arith

pub joint_ends : (o u : Option Sign) (e : End) → ends (joint o u) e ≡ (ends o e || ends u e)
joint_ends o u e = grind arith

abbrev pub states_of : Setting → ℕ → Option Sign
states_of s p = Some (sign_for (s p))

holds_sits : (s : Sign) (x : State) → holds s x ≡ sits s (Some (sign_for x))
holds_sits s x = grind arith

-- each sign of the items sits on what is said of its plate
abbrev pub fits : (ℕ → Option Sign) → List Item → Bool
fits signs [] = true
fits signs (i ∷ g) = sits i.sign (signs i.plate) && fits signs g

covers_fits : (g h : List Item) → covers g h ≡ fits (sign_at h) g
covers_fits [] h = refl
covers_fits (i ∷ g) h = ap (λ b. sits i.sign (sign_at h i.plate) && b) (covers_fits g h)

shows_fits : (s : Setting) (g : List Item) → shows s g ≡ fits (states_of s) g
shows_fits s [] = refl
shows_fits s (i ∷ g) = λ j. holds_sits i.sign (s i.plate) j && shows_fits s g j

here : (i : Item) (g : List Item) → sign_at (i ∷ g) i.plate ≡ Some i.sign
here i g = cond-true _ _ _ (eq-eqb i.plate i.plate refl)

there : (i : Item) (g : List Item) (p : ℕ) → (i.plate ≡ p → ⊥) → sign_at (i ∷ g) p ≡ sign_at g p
there i g p ne = cond-false _ _ _ (ne_eqb i.plate p ne)

-- what fits has each end, and what has each end fits
fits_within : (signs : ℕ → Option Sign) (g : List Item) → fits signs g ≡ true → (p : ℕ) → Within (sign_at g p) (signs p)
fits_within signs [] h p e q = absurd (false≢true q)
fits_within signs (i ∷ g) h p e q =
    let parts = and_parts (sits i.sign (signs i.plate)) (fits signs g) h in
    ⊎_elim
    (λ same. subst (λ n. ends (signs n) e ≡ true) same (sits_within i.sign (signs i.plate) parts.0 e (ap (λ o. ends o e) (sym (here i g) ∙ ap (sign_at (i ∷ g)) same) ∙ q)))
    (λ ne. fits_within signs g parts.1 p e (ap (λ o. ends o e) (sym (there i g p ne)) ∙ q))
    (cases_eq i.plate p)

within_fits : (signs : ℕ → Option Sign) (low : ℕ) (g : List Item) → rising low g ≡ true → ((p : ℕ) → Within (sign_at g p) (signs p)) → fits signs g ≡ true
within_fits signs low [] r w = refl
within_fits signs low (i ∷ g) r w =
    let s = rising_step low i g r in
    and_from _ _
    (within_sits i.sign (signs i.plate) (λ e q. w i.plate e (ap (λ o. ends o e) (here i g) ∙ q)))
    (within_fits signs i.plate g s.rest (λ p e q.
    ⊎_elim
    (λ same. absurd (false≢true (sym (ap (λ o. ends o e) (unnamed_below p i.plate g (omega arith) s.rest)) ∙ q)))
    (λ ne. w p e (ap (λ o. ends o e) (there i g p ne) ∙ q))
    (cases_eq i.plate p)))

-- the end of a lever that a group has
abbrev pub has : List Item → ℕ → End → Bool
has g p e = ends (sign_at g p) e

-- the end of a lever that a setting has
abbrev pub at : Setting → ℕ → End → Bool
at s p e = ends (states_of s p) e

pub covers_has : (g h : List Item) → covers g h ≡ true → (p : ℕ) → Within (sign_at g p) (sign_at h p)
covers_has g h c = fits_within (sign_at h) g (sym (covers_fits g h) ∙ c)

pub has_covers : (g h : List Item) → rising 0 g ≡ true → ((p : ℕ) → Within (sign_at g p) (sign_at h p)) → covers g h ≡ true
has_covers g h r w = covers_fits g h ∙ within_fits (sign_at h) 0 g r w

pub shows_has : (s : Setting) (g : List Item) → shows s g ≡ true → (p : ℕ) → Within (sign_at g p) (states_of s p)
shows_has s g c = fits_within (states_of s) g (sym (shows_fits s g) ∙ c)

pub has_shows : (s : Setting) (g : List Item) → rising 0 g ≡ true → ((p : ℕ) → Within (sign_at g p) (states_of s p)) → shows s g ≡ true
has_shows s g r w = shows_fits s g ∙ within_fits (states_of s) 0 g r w

-- a setting that shows a group shows each group that covers it
pub shows_covered : (s : Setting) (g h : List Item) → rising 0 g ≡ true → covers g h ≡ true → shows s h ≡ true → shows s g ≡ true
shows_covered s g h r c v = has_shows s g r (λ p e q. shows_has s h v p e (covers_has g h c p e q))

pub covers_trans : (g h k : List Item) → rising 0 g ≡ true → covers g h ≡ true → covers h k ≡ true → covers g k ≡ true
covers_trans g h k r c d = has_covers g k r (λ p e q. covers_has h k d p e (covers_has g h c p e q))

-- groups that cover each other are the same
pub covers_same : (g h : List Item) → rising 0 g ≡ true → rising 0 h ≡ true → covers g h ≡ true → covers h g ≡ true → g ≡ h
covers_same g h r t c d = same_signs 0 g h r t (λ p. same_ends (sign_at g p) (sign_at h p) (covers_has g h c p) (covers_has h g d p))

pub covers_itself : (g : List Item) → rising 0 g ≡ true → covers g g ≡ true
covers_itself g r = has_covers g g r (λ p e q. q)
