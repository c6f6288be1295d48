-- Each frame has a cut list: a trial of all settings tells of each line whether it is needed. Assumes nothing.
use Rattle.std.proofs.Common.{◌≡◌, ℕ, Bool, true, false, cond, not, ◌&&◌, eqb, ◌⊎◌, List, [], ◌∷◌, ◌++◌, filter, sym, refl, ap, ◌∙◌, inl, inr, ⊎_elim}
use Rattle.std.specs.List.{AllByRecursion}
use Rattle.std.proofs.ByRecursion.{All-append}
use Rattle.std.proofs.lemmas.Bool.{and_parts, and_cases, or_left, or_right, eq-eqb, cases_Bool, both_ways, not-true, not-false}
use Rattle.groups.specs.declared.items.Item.{Item}
use Rattle.groups.specs.declared.items.Sign.TheVariants.{Star}
use Rattle.meaning.specs.States.{State, normal, reversed, between, holds, Setting, shows}
use Rattle.meaning.specs.Frames.{Frame, is_one_of, group_over, permits}
use Rattle.meaning.specs.CutLists.{Superfluous, Needed, CutFrom, end, leave, keep}
use Rattle.meaning.specs.Laws.{SomeCutList}
use Rattle.meaning.proofs.Fitted.{over_parts}
use Rattle.meaning.proofs.Trial.{put, every_setting, Agree, setting_tried, shows_agree, any_agree}

-- a setting that fails a test
pub record Failing (test : Setting → Bool) : Type 0 where
  pub setting : Setting
  pub failed : test setting ≡ false

-- where not all settings pass, one of them fails
pub setting_fails : (ps : List ℕ) (test : Setting → Bool) → every_setting ps test ≡ false → Failing test
setting_fails [] test h = record { setting = λ p. normal; failed = h }
setting_fails (q ∷ ps) test h =
    ⊎_elim
    (λ k. at_state normal (setting_fails ps _ k))
    (λ rest.
    ⊎_elim
    (λ k. at_state reversed (setting_fails ps _ k))
    (λ k. at_state between (setting_fails ps _ k))
    (and_cases (every_setting ps (λ s. test (put q reversed s))) (every_setting ps (λ s. test (put q between s))) rest))
    (and_cases (every_setting ps (λ s. test (put q normal s))) _ h)
  where
    at_state : (x : State) → Failing (λ s. test (put q x s)) → Failing test
    at_state x r = record { setting = put q x r.setting; failed = r.failed }

-- tests that agree on some plates keep the same of them
pub kept_agree : (t u : ℕ → Bool) (ps : List ℕ) → ((p : ℕ) → is_one_of ps p ≡ true → t p ≡ u p) → filter t ps ≡ filter u ps
kept_agree t u [] a = refl
kept_agree t u (q ∷ ps) a =
    let first = a q (or_left (eqb q q) (is_one_of ps q) (eq-eqb q q refl)) in
    let rest = kept_agree t u ps (λ p m. a p (or_right (eqb q p) (is_one_of ps p) m)) in
    λ i. cond (first i) (q ∷ rest i) (rest i)

-- lines over the fitted plates permit both of two settings that agree on these plates, or neither
pub permits_agree : (f : Frame) (t s : Setting) → Agree f.plates t s → (lines : List (List Item)) → AllByRecursion (λ l. group_over f.plates l ≡ true) lines → permits f lines t ≡ permits f lines s
permits_agree f t s a lines over =
    let kept = kept_agree (λ p. holds Star (t p)) (λ p. holds Star (s p)) f.plates (λ p m. ap (holds Star) (a p m)) in
    let any = any_agree f.plates t s a lines over in
    λ i. f.crew (kept i) && not (any i)

-- a setting is no reason to keep the line: the others do not permit it, or it does not show the line
abbrev pub passes : Frame → List (List Item) → List Item → Setting → Bool
passes f others line s = not (permits f others s && shows s line)

-- the trial tells whether a line is left out or kept
pub left_or_kept : (f : Frame) (others : List (List Item)) (line : List Item) → AllByRecursion (λ l. group_over f.plates l ≡ true) others → group_over f.plates line ≡ true → Superfluous f others line ⊎ Needed f others line
left_or_kept f others line over o =
    ⊎_elim
    (λ h. inl (λ s p.
    let r = setting_tried f.plates (passes f others line) h s in
    ⊎_elim
    (λ n. absurd (both_ways _ n (permits_agree f r.setting s r.agrees others over ∙ p)))
    (λ n. sym (shows_agree f.plates r.setting s r.agrees line (over_parts f.plates line o).fitted) ∙ n)
    (and_cases (permits f others r.setting) (shows r.setting line) (not-true _ r.passed))))
    (λ h.
    let r = setting_fails f.plates (passes f others line) h in
    let parts = and_parts (permits f others r.setting) (shows r.setting line) (not-false _ r.failed) in
    inr (record { setting = r.setting; permitted = parts.0; shown = parts.1 }))
    (cases_Bool (every_setting f.plates (passes f others line)))

-- what stays of the rest, and that it is over the fitted plates
pub record Stays (f : Frame) (front rest : List (List Item)) : Type 0 where
  pub kept : List (List Item)
  pub over : AllByRecursion (λ l. group_over f.plates l ≡ true) kept
  pub cut : CutFrom f front rest kept

-- gone through from the last to the first, each line is left out or kept
pub some_stay : (f : Frame) (front rest : List (List Item)) → AllByRecursion (λ l. group_over f.plates l ≡ true) front → AllByRecursion (λ l. group_over f.plates l ≡ true) rest → Stays f front rest
some_stay f front [] a b = record { kept = []; over = tt; cut = end }
some_stay f front (line ∷ rest) a b =
    let later = some_stay f (front ++ (line ∷ [])) rest (All-append (λ l. group_over f.plates l ≡ true) front (line ∷ []) a (b.0, tt)) b.1 in
    ⊎_elim
    (λ u. record { kept = later.kept; over = later.over; cut = leave later.cut u })
    (λ n. record { kept = line ∷ later.kept; over = (b.0, later.over); cut = keep later.cut n })
    (left_or_kept f (front ++ later.kept) line (All-append (λ l. group_over f.plates l ≡ true) front later.kept a later.over) b.0)

pub some_cut_list : SomeCutList
some_cut_list f sound = let r = some_stay f [] f.lines tt sound.lines in (r.kept, r.cut)
