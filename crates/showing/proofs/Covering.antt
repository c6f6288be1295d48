-- The first group of a table that covers a group, and what a lever is set to where none is to cover. Assumes nothing.
use Rattle.std.proofs.Common.{◌≡◌, ℕ, ◌<◌, true, false, cond, List, length, Some, None, Option, Bor, sym, ap, subst, ◌∙◌, ⊎_elim, arith}
use Rattle.std.proofs.lemmas.Bool.{cond-true, cond-false, cases_Bool}
use Rattle.groups.specs.declared.items.Item.{Item}
use Rattle.groups.specs.declared.items.Sign.TheVariants.{Plus, Minus}
use Rattle.groups.specs.Items.{covers}
use Rattle.meaning.specs.Frames.{Frame, Sound, manageable, Forbidden}
use Rattle.meaning.specs.Tables.{IsTable, covered_by}
use Rattle.meaning.proofs.OneMore.{covered_excluded}
use Rattle.meaning.proofs.Resting.{excluded_forbidden}
use Rattle.placed.specs.declared.Placed.{Placed}
use Rattle.placed.specs.Signs.{Within, sign_on}
use Rattle.placed.specs.Spelling.{spell}
use Rattle.rows.specs.Rows.{spell_all}
use Rattle.telling.specs.Told.{Holds}
use Rattle.telling.proofs.Drops.{spell_over}
use Rattle.telling.proofs.Steps.{covered_at, covered_nowhere, within_at}
use Rattle.placed.specs.Laws.{CoversOver}
use Rattle.placed.proofs.Ends.{blank}
use Rattle.std.specs.Option.{MatchOption, option_copied}
use Rattle.std.specs.List.{AllWithin, HoldsAt}
use Rattle.showing.specs.Showing.{FirstCover, Gives, SetAt, plus, minus}

-- what a search through the table for the first that covers answers
pub first_told : (ps : List ℕ) (table : List Placed) (g : Placed) (b : Option (Bor Placed)) (r : Option Placed) → Holds ps table → MatchOption b (AllWithin (λ a. CoversOver a g false) table 0 (length table)) (λ c. CoversOver c.now g true × (i : ℕ) × (i < length table) × HoldsAt (λ a. a ≡ c.now) table i × AllWithin (λ a. CoversOver a g false) table 0 i) → r ≡ option_copied b → MatchOption r (covered_by (spell_all ps table) (spell ps g) ≡ false) (FirstCover ps table g)
first_told ps table g None r h m e =
    subst (λ o. MatchOption o (covered_by (spell_all ps table) (spell ps g) ≡ false) (FirstCover ps table g)) (sym e)
    (covered_nowhere ps table (spell ps g) blank (λ j l. sym (m j blank (omega arith) l ps h.climbs (within_at ps table j blank l h.within))))
first_told ps table g (Some c) r h m e =
    subst (λ o. MatchOption o (covered_by (spell_all ps table) (spell ps g) ≡ false) (FirstCover ps table g)) (sym e)
    (record {
      at = m.1;
      inside = m.2;
      stands = m.3 c.now;
      covering = sym (m.0 ps h.climbs (subst (λ a. Within (length ps) a) (m.3 c.now) (within_at ps table m.1 c.now m.2 h.within)));
      earlier = λ j n. let l : j < length table = let d = m.2 in omega arith in sym (m.4 j c.now (omega arith) n ps h.climbs (within_at ps table j c.now l h.within));
    })

-- a manageable group that one of the table covers is forbidden
pub found_forbidden : (f : Frame) (table : List Placed) (g h : Placed) → Holds f.plates table → Sound f → IsTable f (spell_all f.plates table) → manageable f (spell f.plates g) ≡ true → FirstCover f.plates table g h → Forbidden f (spell f.plates g)
found_forbidden f table g h holding sound right able found =
    excluded_forbidden f (spell f.plates g) (spell_over f.plates g holding.climbs) able
    (covered_excluded f sound (spell_all f.plates table) right (spell f.plates g)
    (covered_at f.plates table (spell f.plates g) found.at h found.inside (ap (λ a. covers (spell f.plates a) (spell f.plates g)) found.stands ∙ found.covering)))

-- a lever that is not named is set normal, or reversed where normal is covered
pub set_told : (t : List (List Item)) (ps : List ℕ) (place : ℕ) (g n m r : Placed) → sign_on g place ≡ None → Gives place Plus g n → Gives place Minus g m → r ≡ cond (covered_by t (spell ps n)) m n → SetAt t ps place g r
set_told t ps place g n m r none up down e =
    ⊎_elim
    (λ c. subst (SetAt t ps place g) (sym (e ∙ cond-true (covered_by t (spell ps n)) m n c)) (minus none n up c down))
    (λ c. subst (SetAt t ps place g) (sym (e ∙ cond-false (covered_by t (spell ps n)) m n c)) (plus none up c))
    (cases_Bool (covered_by t (spell ps n)))
