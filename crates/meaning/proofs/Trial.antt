-- A trial of all settings of a frame, and of all groups over its plates. Assumes nothing.
use Rattle.std.proofs.Common.{◌≡◌, ℕ, Bool, true, false, cond, not, ◌&&◌, ◌||◌, eqb, List, [], ◌∷◌, ◌++◌, Some, None, Decides, Option, sym, refl, ap, ◌∙◌, ⊎_elim}
use Rattle.std.specs.List.{AllByRecursion}
use Rattle.std.proofs.lemmas.Bool.{and_parts, and_from, or_cases, or_left, or_right, eqb-true, eq-eqb, ne_eqb, cond-true, cond-false, cases_eq, cases_Bool, both_ways, not-true, not_from_false}
use Rattle.groups.specs.declared.items.Item.{Item}
use Rattle.groups.specs.declared.items.Sign.{Sign}
use Rattle.groups.specs.declared.items.Sign.TheVariants.{Plus, Minus, Star}
use Rattle.groups.specs.Items.{sign_at}
use Rattle.groups.specs.Rises.{climbing, item_if, items_on}
use Rattle.meaning.specs.States.{State, normal, reversed, between, holds, Setting, shows, shows_any}
use Rattle.meaning.specs.Frames.{Frame, Sound, is_one_of, fitted_in, group_over, manageable, Forbidden}
use Rattle.meaning.specs.Laws.{Excluded}
use Rattle.meaning.specs.SmallFrames.{plus, minus, star}
use Rattle.meaning.proofs.Fitted.{over_parts, items_again}
use Rattle.meaning.proofs.Resting.{forbidden_excluded, excluded_forbidden}

-- ## All settings

-- a setting with one lever put into a state
abbrev pub put : ℕ → State → Setting → Setting
put q x s p = cond (eqb q p) x (s p)

-- a test holds of all settings, as far as these plates go
abbrev pub every_setting : List ℕ → (Setting → Bool) → Bool
every_setting [] test = test (λ p. normal)
every_setting (q ∷ ps) test = every_setting ps (λ s. test (put q normal s)) && (every_setting ps (λ s. test (put q reversed s)) && every_setting ps (λ s. test (put q between s)))

-- two settings agree on these plates
abbrev pub Agree : List ℕ → Setting → Setting → Type 0
Agree ps t s = (p : ℕ) → is_one_of ps p ≡ true → t p ≡ s p

pub record Tried (ps : List ℕ) (test : Setting → Bool) (s : Setting) : Type 0 where
  pub setting : Setting
  pub agrees : Agree ps setting s
  pub passed : test setting ≡ true

pub setting_tried : (ps : List ℕ) (test : Setting → Bool) → every_setting ps test ≡ true → (s : Setting) → Tried ps test s
setting_tried [] test h s = record { setting = λ p. normal; agrees = λ p m. absurd (both_ways false refl m); passed = h }
setting_tried (q ∷ ps) test h s =
    let r = setting_tried ps (λ t. test (put q (s q) t)) (at_state (s q)) s in
    record { setting = put q (s q) r.setting; agrees = agree r.setting r.agrees; passed = r.passed }
  where
    at_state : (x : State) → every_setting ps (λ t. test (put q x t)) ≡ true
    at_state normal = (and_parts (every_setting ps (λ t. test (put q normal t))) _ h).0
    at_state reversed = (and_parts (every_setting ps (λ t. test (put q reversed t))) _ (and_parts (every_setting ps (λ t. test (put q normal t))) _ h).1).0
    at_state between = (and_parts (every_setting ps (λ t. test (put q reversed t))) (every_setting ps (λ t. test (put q between t))) (and_parts (every_setting ps (λ t. test (put q normal t))) _ h).1).1

    agree : (t : Setting) → Agree ps t s → Agree (q ∷ ps) (put q (s q) t) s
    agree t a p m =
        ⊎_elim
        (λ e. cond-true (eqb q p) (s q) (t p) (eq-eqb q p e) ∙ ap s e)
        (λ ne. cond-false (eqb q p) (s q) (t p) (ne_eqb q p ne) ∙ a p (⊎_elim (λ e. absurd (ne (eqb-true q p e))) (λ k. k) (or_cases (eqb q p) (is_one_of ps p) m)))
        (cases_eq q p)

pub setting_try : (ps : List ℕ) (test : Setting → Bool) → ((s : Setting) → test s ≡ true) → every_setting ps test ≡ true
setting_try [] test h = h (λ p. normal)
setting_try (q ∷ ps) test h =
    and_from _ _
    (setting_try ps (λ s. test (put q normal s)) (λ s. h (put q normal s)))
    (and_from _ _ (setting_try ps (λ s. test (put q reversed s)) (λ s. h (put q reversed s))) (setting_try ps (λ s. test (put q between s)) (λ s. h (put q between s))))

-- settings that agree on the fitted plates show the same groups
pub shows_agree : (ps : List ℕ) (t s : Setting) → Agree ps t s → (g : List Item) → fitted_in ps g ≡ true → shows t g ≡ shows s g
shows_agree ps t s a [] h = refl
shows_agree ps t s a (i ∷ g) h =
    let parts = and_parts (is_one_of ps i.plate) (fitted_in ps g) h in
    λ j. holds i.sign (a i.plate parts.0 j) && shows_agree ps t s a g parts.1 j

pub any_agree : (ps : List ℕ) (t s : Setting) → Agree ps t s → (lines : List (List Item)) → AllByRecursion (λ l. group_over ps l ≡ true) lines → shows_any t lines ≡ shows_any s lines
any_agree ps t s a [] h = refl
any_agree ps t s a (l ∷ lines) h = λ j. shows_agree ps t s a l (over_parts ps l h.0).fitted j || any_agree ps t s a lines h.1 j

-- a setting that shows the group shows a line
abbrev pub excludes : List (List Item) → List Item → Setting → Bool
excludes lines g s = not (shows s g) || shows_any s lines

-- the trial tells whether a group is excluded
pub excluded_tried : (ps : List ℕ) (lines : List (List Item)) (g : List Item) → AllByRecursion (λ l. group_over ps l ≡ true) lines → group_over ps g ≡ true → Decides (every_setting ps (excludes lines g)) (Excluded lines g)
excluded_tried ps lines g over o = (
  (λ h s v.
      let r = setting_tried ps (excludes lines g) h s in
      ⊎_elim
      (λ n. absurd (both_ways (shows s g) (sym (shows_agree ps r.setting s r.agrees g (over_parts ps g o).fitted) ∙ not-true _ n) v))
      (λ a. sym (any_agree ps r.setting s r.agrees lines over) ∙ a)
      (or_cases (not (shows r.setting g)) (shows_any r.setting lines) r.passed)),
  (λ x. setting_try ps (excludes lines g) (λ s.
      ⊎_elim
      (λ v. or_right (not (shows s g)) (shows_any s lines) (x s v))
      (λ v. or_left (not (shows s g)) (shows_any s lines) (not_from_false (shows s g) v))
      (cases_Bool (shows s g)))),
)

-- a manageable group that the trial finds excluded
abbrev pub is_forbidden : Frame → List Item → Bool
is_forbidden f g = manageable f g && every_setting f.plates (excludes f.lines g)

pub forbidden_tried : (f : Frame) → Sound f → (g : List Item) → group_over f.plates g ≡ true → Decides (is_forbidden f g) (Forbidden f g)
forbidden_tried f sound g o = (
  (λ h.
      let parts = and_parts (manageable f g) (every_setting f.plates (excludes f.lines g)) h in
      excluded_forbidden f g o parts.0 ((excluded_tried f.plates f.lines g sound.lines o).0 parts.1)),
  (λ forb. and_from (manageable f g) (every_setting f.plates (excludes f.lines g)) forb.managed ((excluded_tried f.plates f.lines g sound.lines o).1 (forbidden_excluded f sound g forb))),
)

-- ## All groups

-- a test holds of all groups over these plates
abbrev pub every_group : List ℕ → (List Item → Bool) → Bool
every_group [] test = test []
every_group (p ∷ ps) test = every_group ps test && (every_group ps (λ g. test (plus p ∷ g)) && (every_group ps (λ g. test (minus p ∷ g)) && every_group ps (λ g. test (star p ∷ g))))

items_tried : (ps : List ℕ) (test : List Item → Bool) → every_group ps test ≡ true → (sign : ℕ → Option Sign) → test (items_on sign ps) ≡ true
items_tried [] test h sign = h
items_tried (p ∷ ps) test h sign = go (items_tried ps) (sign p)
  where
    a : (every_group ps test ≡ true) × ((every_group ps (λ g. test (plus p ∷ g)) && (every_group ps (λ g. test (minus p ∷ g)) && every_group ps (λ g. test (star p ∷ g)))) ≡ true)
    a = and_parts (every_group ps test) (every_group ps (λ g. test (plus p ∷ g)) && (every_group ps (λ g. test (minus p ∷ g)) && every_group ps (λ g. test (star p ∷ g)))) h

    b : (every_group ps (λ g. test (plus p ∷ g)) ≡ true) × ((every_group ps (λ g. test (minus p ∷ g)) && every_group ps (λ g. test (star p ∷ g))) ≡ true)
    b = and_parts (every_group ps (λ g. test (plus p ∷ g))) (every_group ps (λ g. test (minus p ∷ g)) && every_group ps (λ g. test (star p ∷ g))) a.1

    c : (every_group ps (λ g. test (minus p ∷ g)) ≡ true) × (every_group ps (λ g. test (star p ∷ g)) ≡ true)
    c = and_parts (every_group ps (λ g. test (minus p ∷ g))) (every_group ps (λ g. test (star p ∷ g))) b.1

    go : ((test' : List Item → Bool) → every_group ps test' ≡ true → (sign' : ℕ → Option Sign) → test' (items_on sign' ps) ≡ true) → (o : Option Sign) → test (item_if p o ++ items_on sign ps) ≡ true
    go below None = below test a.0 sign
    go below (Some Plus) = below (λ g. test (plus p ∷ g)) b.0 sign
    go below (Some Minus) = below (λ g. test (minus p ∷ g)) c.0 sign
    go below (Some Star) = below (λ g. test (star p ∷ g)) c.1 sign

pub group_tried : (ps : List ℕ) (test : List Item → Bool) → every_group ps test ≡ true → climbing 0 ps ≡ true → (g : List Item) → group_over ps g ≡ true → test g ≡ true
group_tried ps test h c g o = ap test (sym (items_again ps g c o)) ∙ items_tried ps test h (sign_at g)
