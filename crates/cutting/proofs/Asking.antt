-- What the crew's answer and the search tell of one line. Assumes nothing.
use Rattle.std.proofs.Common.{◌≡◌, ℕ, zero, suc, ◌<◌, Bool, true, false, not, eqb, List, [], ◌∷◌, length, get_or, is_some, Some, sym, refl, ap, ◌∙◌, ⊎_elim, arith}
use Rattle.std.specs.List.{AllByRecursion}
use Rattle.std.proofs.lemmas.Bool.{and_parts, and_from, or_left, or_right, not-true, not_from_false, eq-eqb, cases_Bool, both_ways, false≢true}
use Rattle.groups.specs.declared.items.Item.{Item}
use Rattle.groups.specs.declared.items.Sign.TheVariants.{Star}
use Rattle.groups.specs.Items.{sign_at}
use Rattle.groups.specs.Rises.{climbing}
use Rattle.groups.proofs.Climbing.{place_cases}
use Rattle.meaning.specs.States.{State, holds, Setting, shows, shows_any}
use Rattle.meaning.specs.Shown.{sign_for}
use Rattle.meaning.specs.Crews.{Admits, Lawful}
use Rattle.meaning.specs.Frames.{Frame, Sound, is_one_of, group_over, moving, starred, stars, manageable, permits}
use Rattle.meaning.specs.CutLists.{Superfluous, Needed}
use Rattle.meaning.specs.Laws.{Excluded}
use Rattle.meaning.proofs.Ends.{states_of, shows_has}
use Rattle.meaning.proofs.Fitted.{names_fitted}
use Rattle.meaning.proofs.Managed.{starred_within, stars_over, fewer_kept}
use Rattle.meaning.proofs.Resting.{rest, any_less, rest_shows, rest_less, rest_moving}
use Rattle.placed.specs.declared.Placed.{Placed}
use Rattle.placed.specs.Spelling.{spell}
use Rattle.placed.proofs.Spelled.{spelled_none, spelled_rises}
use Rattle.rows.specs.Rows.{spell_all}
use Rattle.managing.specs.Standing.{frame_of}
use Rattle.levers.specs.declared.Levers.{Levers}
use Rattle.cutting.specs.Searching.{Escape, SearchedOver, LeversOf}
use Rattle.cutting.specs.Deciding.{Told}

-- the plate at a place is one of the plates
place_fitted : (ps : List ℕ) (j : ℕ) → j < length ps → is_one_of ps (get_or ps j 0) ≡ true
place_fitted [] j l = absurd (omega arith)
place_fitted (p ∷ ps) zero l = or_left (eqb p p) (is_one_of ps p) (eq-eqb p p refl)
place_fitted (p ∷ ps) (suc j) l = or_right (eqb p (get_or ps j 0)) (is_one_of ps (get_or ps j 0)) (place_fitted ps j (omega arith))

module _ (ps : List ℕ) (climbs : climbing 0 ps ≡ true) where
  -- what a group spells is a group over the plates
  spelled_over : (g : Placed) → group_over ps (spell ps g) ≡ true
  spelled_over g =
      and_from _ _
      (spelled_rises ps g climbs)
      (names_fitted ps (spell ps g) (λ p n.
      ⊎_elim
      (λ f. ap (is_one_of ps) (sym f.2) ∙ place_fitted ps f.0 f.1)
      (λ none. absurd (false≢true (sym (ap is_some (spelled_none ps g p none)) ∙ n)))
      (place_cases ps p)))

  all_over_lem : (gs : List Placed) → AllByRecursion (λ l. group_over ps l ≡ true) (spell_all ps gs)
  all_over_lem [] = tt
  all_over_lem (g ∷ gs) = (spelled_over g, all_over_lem gs)

-- a setting that lines permit shows none of them
permitted_hidden : (f : Frame) (others : List (List Item)) (s : Setting) → permits f others s ≡ true → shows_any s others ≡ false
permitted_hidden f others s p = not-true (shows_any s others) (and_parts (f.crew (moving f s)) (not (shows_any s others)) p).1

-- a line is superfluous where each setting that shows it shows one of the others
excluded_superfluous : (f : Frame) (others : List (List Item)) (line : List Item) → Excluded others line → Superfluous f others line
excluded_superfluous f others line x s p =
    ⊎_elim
    (λ v. absurd (both_ways (shows_any s others) (permitted_hidden f others s p) (x s v)))
    (λ v. v)
    (cases_Bool (shows s line))

between_starred : (x : State) → starred (Some (sign_for x)) ≡ holds Star x
between_starred x = grind arith

module _ (crew : Admits) (laws : Lawful crew) (ps : List ℕ) (climbs : climbing 0 ps ≡ true) (lines : List Placed) where
  abbrev f : Frame
  f = frame_of crew ps lines

  sound : Sound f
  sound = record { crew = laws; plates = climbs; lines = all_over_lem ps climbs lines }

  module _ (line : Placed) (others : List Placed) where
    abbrev g : List Item
    g = spell ps line

    -- the setting that has just the line's levers with * between is permitted
    escape_needed : manageable f g ≡ true → Escape (spell_all ps others) g → Needed f (spell_all ps others) g
    escape_needed managed e =
        let t = rest g e.setting in
        record {
          setting = t;
          permitted = and_from (crew (moving f t)) (not (shows_any t (spell_all ps others)))
              (ap crew (rest_moving f sound e.setting g (spelled_over ps climbs line)) ∙ managed)
              (not_from_false (shows_any t (spell_all ps others)) (
              ⊎_elim
              (λ h. absurd (both_ways (shows_any e.setting (spell_all ps others)) e.clear (any_less ps t e.setting (spell_all ps others) (all_over_lem ps climbs others) (rest_less e.setting g e.shown) h)))
              (λ h. h)
              (cases_Bool (shows_any t (spell_all ps others)))));
          shown = rest_shows e.setting g (spelled_rises ps line climbs);
        }

    -- what a setting that is permitted shows can be managed
    shown_manageable : (s : Setting) → permits f (spell_all ps others) s ≡ true → shows s g ≡ true → manageable f g ≡ true
    shown_manageable s p v =
        ap crew (stars_over ps g climbs (spelled_over ps climbs line))
        ∙ fewer_kept crew laws (λ q. starred (sign_at g q)) (λ q. holds Star (s q))
        (λ q h. sym (between_starred (s q)) ∙ starred_within (sign_at g q) (states_of s q) (shows_has s g v q) h)
        ps []
        (and_parts (crew (moving f s)) (not (shows_any s (spell_all ps others))) p).0

    unmanaged_superfluous : manageable f g ≡ false → Superfluous f (spell_all ps others) g
    unmanaged_superfluous n s p =
        ⊎_elim
        (λ v. absurd (both_ways (manageable f g) n (shown_manageable s p v)))
        (λ v. v)
        (cases_Bool (shows s g))

-- what the crew says of a line that it cannot manage decides, whatever the others, and of one that it can manage what the
-- search among the others found
pub told_searched : (crew : Admits) (ps : List ℕ) (lines others : List Placed) (line : Placed) (levers : Levers) (managed found : Bool) → Lawful crew → climbing 0 ps ≡ true → managed ≡ crew (stars (spell ps line)) → managed ≡ true → LeversOf ps levers → SearchedOver levers others line found → Told (frame_of crew ps lines) (spell_all ps others) (spell ps line) found
told_searched crew ps lines others line levers managed found laws climbs is managed_so of searched =
    let told = searched.over ps climbs of in
    record {
      kept = λ t. escape_needed crew laws ps climbs lines line others (sym is ∙ managed_so) (told.yes t);
      left = λ t. excluded_superfluous (frame_of crew ps lines) (spell_all ps others) (spell ps line) (told.none t);
    }

pub told_unmanaged : (crew : Admits) (ps : List ℕ) (lines others : List Placed) (line : Placed) (managed : Bool) → Lawful crew → climbing 0 ps ≡ true → managed ≡ crew (stars (spell ps line)) → managed ≡ false → Told (frame_of crew ps lines) (spell_all ps others) (spell ps line) managed
told_unmanaged crew ps lines others line managed laws climbs is not_managed =
    record {
      kept = λ t. absurd (both_ways managed not_managed t);
      left = λ _. unmanaged_superfluous crew laws ps climbs lines line others (sym is ∙ not_managed);
    }
