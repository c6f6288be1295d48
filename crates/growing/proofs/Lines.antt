-- A table grown line by line. Assumes nothing.
use Rattle.std.proofs.Common.{◌≡◌, ℕ, ◌+◌, ◌<◌, true, List, [], ◌∷◌, length, get_or, take, Ok, Err, Result, sym, refl, ap, ◌∙◌, subst, ⊎_elim, arith}
use Rattle.std.proofs.lemmas.List.{map_more, length-map}
use Rattle.std.proofs.lemmas.Bool.{cases_lt}
use Rattle.groups.specs.Rises.{climbing}
use Rattle.meaning.specs.Crews.{Admits, Lawful}
use Rattle.meaning.specs.Frames.{Sound}
use Rattle.meaning.specs.Tables.{IsTable}
use Rattle.meaning.proofs.OneTable.{one_table}
use Rattle.meaning.proofs.Plain.{no_lines_no_table, nothing_possible}
use Rattle.placed.specs.declared.Placed.{Placed}
use Rattle.placed.specs.Spelling.{spell}
use Rattle.fixed.specs.declared.row.Row.{Row}
use Rattle.fixed.proofs.Few.{few_held}
use Rattle.rows.specs.Rows.{groups_of, spell_all, AllWithin}
use Rattle.telling.proofs.Drops.{spell_all_over}
use Rattle.managing.specs.Standing.{frame_of}
use Rattle.growing.specs.declared.Stop.{Stop}
use Rattle.growing.specs.declared.Stop.TheVariants.{NothingPossible, TooMany}
use Rattle.growing.specs.Growth.{Fits, FitBelow, FromLines, GrowsTo, TableOr, TableUpto, OnlyEmpty}
use Rattle.growing.proofs.Whole.{spell_empty}

-- ## One line

pub only_within : (n : ℕ) (gs : List Placed) → OnlyEmpty gs → AllWithin n gs
only_within n gs o = subst (AllWithin n) (sym o.1) ((λ k l. o.2 k), tt)

-- ## Lines one after the other

module _ (crew : Admits) (laws : Lawful crew) (ps : List ℕ) (climbs : climbing 0 ps ≡ true) (lines : List Placed) where
  sound_upto : (k : ℕ) → Sound (frame_of crew ps (take k lines))
  sound_upto k = record { crew = laws; plates = climbs; lines = spell_all_over ps (take k lines) climbs }

  -- a table in a row has at most 512 groups
  fits_row : (k : ℕ) (r : Row Placed 512) → IsTable (frame_of crew ps (take k lines)) (spell_all ps (groups_of r)) → Fits (frame_of crew ps (take k lines))
  fits_row k r is t it = omega (arith, ap length (one_table (frame_of crew ps (take k lines)) t (spell_all ps (groups_of r)) it is), length-map (groups_of r) (spell ps), few_held r)

  fit_more : (k : ℕ) → FitBelow crew ps lines k → Fits (frame_of crew ps (take k lines)) → FitBelow crew ps lines (k + 1)
  fit_more k below here i l = ⊎_elim (λ m. below i m) (λ m. subst (λ j. Fits (frame_of crew ps (take j lines))) (let e : k ≡ i = omega arith in e) here) (cases_lt i k)

  pub upto_none : (r : Row Placed 512) → groups_of r ≡ [] → TableUpto crew ps lines 0 r
  upto_none r e =
      let is = subst (λ gs. IsTable (frame_of crew ps (take 0 lines)) (spell_all ps gs)) (sym e) (no_lines_no_table (frame_of crew ps (take 0 lines)) (sound_upto 0) refl) in
      record { table = is; fit = fit_more 0 (λ i l. absurd (omega arith)) (fits_row 0 r is); within = subst (AllWithin (length ps)) (sym e) tt }

  module _ (k : ℕ) (d : Placed) (l : k < length lines) (t : Row Placed 512) (upto : TableUpto crew ps lines k t) where
    -- what holds of the answer to the next line, over the lines up to it
    answered : (r : Result (Row Placed 512) Stop) → GrowsTo crew ps (groups_of t) (get_or lines k d) r → TableOr (frame_of crew ps (take (k + 1) lines)) r
    answered r g = subst (λ ls. TableOr (record { crew = crew; plates = ps; lines = ls }) r) (sym (map_more (spell ps) lines k d l)) (g (spell_all ps (take k lines)) (sound_upto k) upto.table)

    upto_more : (r : Row Placed 512) → IsTable (frame_of crew ps (take (k + 1) lines)) (spell_all ps (groups_of r)) → AllWithin (length ps) (groups_of r) → TableUpto crew ps lines (k + 1) r
    upto_more r is w = record { table = is; fit = fit_more (k + 1) upto.fit (fits_row (k + 1) r is); within = w }

    pub upto_grown : (r : Row Placed 512) → GrowsTo crew ps (groups_of t) (get_or lines k d) (Ok r) → AllWithin (length ps) (groups_of r) → TableUpto crew ps lines (k + 1) r
    upto_grown r g w = upto_more r (answered (Ok r) g).1 w

    pub upto_nothing : (r : Row Placed 512) (stop : Stop) → GrowsTo crew ps (groups_of t) (get_or lines k d) (Err stop) → stop ≡ NothingPossible → OnlyEmpty (groups_of r) → TableUpto crew ps lines (k + 1) r
    upto_nothing r stop g e only =
        let f = frame_of crew ps (take (k + 1) lines) in
        let none = answered (Err NothingPossible) (subst (λ z. GrowsTo crew ps (groups_of t) (get_or lines k d) (Err z)) e g) in
        upto_more r
        (subst (IsTable f) (sym (ap (spell_all ps) only.1 ∙ ap (λ c. c ∷ []) (spell_empty ps only.0 only.2))) ((nothing_possible f (sound_upto (k + 1))).0 none))
        (only_within (length ps) (groups_of r) only)

    pub overflows : (stop : Stop) → GrowsTo crew ps (groups_of t) (get_or lines k d) (Err stop) → stop ≡ TooMany → FromLines crew ps lines (Err (record { lines = k + 1 }))
    overflows stop g e = (omega arith, omega arith, (answered (Err TooMany) (subst (λ z. GrowsTo crew ps (groups_of t) (get_or lines k d) (Err z)) e g)).1, upto.fit)
