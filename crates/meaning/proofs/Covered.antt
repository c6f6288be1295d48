-- Groups that are covered by one of a list, and lines that are shown. Assumes nothing.
use Rattle.std.proofs.Common.{◌≡◌, ℕ, true, List, [], ◌∷◌, ◌∙◌, ⊎_elim}
use Rattle.std.specs.List.{ContainsAt as Has, AllByRecursion}
use Rattle.std.proofs.ByRecursion.{all-has}
use Rattle.std.proofs.lemmas.Bool.{or_cases, or_left, or_right, false≢true}
use Rattle.groups.specs.declared.items.Item.{Item}
use Rattle.groups.specs.Items.{covers}
use Rattle.meaning.specs.States.{Setting, shows, shows_any}
use Rattle.meaning.specs.Frames.{group_over}
use Rattle.meaning.specs.Tables.{covered_by}
use Rattle.meaning.proofs.Ends.{covers_trans}
use Rattle.meaning.proofs.Fitted.{over_parts}
use Rattle.meaning.proofs.Members.{has_none, has_first, has_later, has_cases}

-- a group of the list that covers another
pub record Cover (u : List (List Item)) (g : List Item) : Type 0 where
  pub group : List Item
  pub member : Has u group
  pub over : covers group g ≡ true

pub covered_cover : (u : List (List Item)) (g : List Item) → covered_by u g ≡ true → Cover u g
covered_cover [] g h = absurd (false≢true h)
covered_cover (a ∷ u) g h =
    ⊎_elim
    (λ c. record { group = a; member = has_first a u; over = c })
    (λ c. let r = covered_cover u g c in record { group = r.group; member = has_later a r.group u r.member; over = r.over })
    (or_cases (covers a g) (covered_by u g) h)

pub cover_covered : (u : List (List Item)) (g h : List Item) → Has u h → covers h g ≡ true → covered_by u g ≡ true
cover_covered [] g h m c = absurd (has_none h m)
cover_covered (a ∷ u) g h m c =
    ⊎_elim
    (λ e. or_left (covers a g) (covered_by u g) ((λ i. covers (e i) g) ∙ c))
    (λ n. or_right (covers a g) (covered_by u g) (cover_covered u g h n c))
    (has_cases a h u m)

pub covered_trans : (ps : List ℕ) (u : List (List Item)) (g h : List Item) → AllByRecursion (λ a. group_over ps a ≡ true) u → covered_by u g ≡ true → covers g h ≡ true → covered_by u h ≡ true
covered_trans ps u g h over k c =
    let r = covered_cover u g k in
    cover_covered u h r.group r.member (covers_trans r.group g h (over_parts ps r.group (all-has (λ a. group_over ps a ≡ true) u r.group over r.member)).rises r.over c)

-- a line that a setting shows
pub record Shown (s : Setting) (lines : List (List Item)) : Type 0 where
  pub line : List Item
  pub member : Has lines line
  pub shown : shows s line ≡ true

pub any_shown : (s : Setting) (lines : List (List Item)) → shows_any s lines ≡ true → Shown s lines
any_shown s [] h = absurd (false≢true h)
any_shown s (l ∷ lines) h =
    ⊎_elim
    (λ c. record { line = l; member = has_first l lines; shown = c })
    (λ c. let r = any_shown s lines c in record { line = r.line; member = has_later l r.line lines r.member; shown = r.shown })
    (or_cases (shows s l) (shows_any s lines) h)

pub shown_any : (s : Setting) (lines : List (List Item)) (l : List Item) → Has lines l → shows s l ≡ true → shows_any s lines ≡ true
shown_any s [] l m v = absurd (has_none l m)
shown_any s (k ∷ lines) l m v =
    ⊎_elim
    (λ e. or_left (shows s k) (shows_any s lines) ((λ i. shows s (e i)) ∙ v))
    (λ n. or_right (shows s k) (shows_any s lines) (shown_any s lines l n v))
    (has_cases k l lines m)
