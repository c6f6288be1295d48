-- The lines gone through from the last to the first, and those that are kept. Assumes nothing.
use Rattle.std.proofs.Common.{◌≡◌, ℕ, ◌+◌, ◌<◌, ◌≤◌, Bool, true, false, cond, nat_lt, List, [], ◌∷◌, ◌++◌, length, sym, refl, ap, ◌∙◌, subst, arith, append_assoc}
use Rattle.std.proofs.lemmas.Bool.{cond-true, lt-ltb}
use Rattle.std.proofs.lemmas.List.{map-append, append-nil, length-append, length_push}
use Rattle.fixed.specs.declared.row.Row.{Row}
use Rattle.fixed.specs.Rows.{held}
use Rattle.fixed.proofs.Few.{few_held}
use Rattle.meaning.specs.Crews.{Admits}
use Rattle.meaning.specs.Frames.{Frame}
use Rattle.meaning.specs.CutLists.{CutFrom, end, leave, keep, IsCutList}
use Rattle.placed.specs.declared.Placed.{Placed}
use Rattle.placed.specs.Signs.{Within}
use Rattle.placed.specs.Spelling.{spell}
use Rattle.rows.specs.Rows.{spell_all, AllWithin}
use Rattle.managing.specs.Standing.{frame_of}
use Rattle.cutting.specs.Deciding.{Told}

-- the lines behind the first ones have been gone through, and of these some are kept
pub record GoneThrough (crew : Admits) (ps : List ℕ) (lines first kept : List Placed) : Type 0 where
  pub behind : List Placed
  pub all : lines ≡ first ++ behind
  pub cut : CutFrom (frame_of crew ps lines) (spell_all ps first) (spell_all ps behind) (spell_all ps kept)
  pub few : length kept ≤ length behind
  pub within : AllWithin (length ps) lines → AllWithin (length ps) kept

-- before the first turn
pub none_gone : (crew : Admits) (ps : List ℕ) (lines first kept : List Placed) → first ≡ lines → kept ≡ [] → GoneThrough crew ps lines first kept
none_gone crew ps lines first kept f k =
    record {
      behind = [];
      all = sym f ∙ sym (append-nil first);
      cut = subst (λ xs. CutFrom (frame_of crew ps lines) (spell_all ps first) [] (spell_all ps xs)) (sym k) end;
      few = let e = ap length k in omega arith;
      within = λ _. subst (AllWithin (length ps)) (sym k) tt;
    }

-- what holds of each line holds of one among them
one_within : (n : ℕ) (before behind : List Placed) (line : Placed) → AllWithin n (before ++ (line ∷ behind)) → Within n line
one_within n [] behind line a = a.0
one_within n (l ∷ before) behind line a = one_within n before behind line a.1

-- one line more
module _ (crew : Admits) (ps : List ℕ) (lines before kept : List Placed) (line : Placed) where
  module _ (gone : GoneThrough crew ps lines (before ++ (line ∷ [])) kept) where
    abbrev f : Frame
    f = frame_of crew ps lines

    all_now : lines ≡ before ++ (line ∷ gone.behind)
    all_now = gone.all ∙ append_assoc before (line ∷ []) gone.behind

    cut_so_far : CutFrom f (spell_all ps before ++ (spell ps line ∷ [])) (spell_all ps gone.behind) (spell_all ps kept)
    cut_so_far = subst (λ xs. CutFrom f xs (spell_all ps gone.behind) (spell_all ps kept)) (map-append (spell ps) before (line ∷ [])) gone.cut

    told_here : (r : Bool) → Told f (spell_all ps (before ++ kept)) (spell ps line) r → Told f (spell_all ps before ++ spell_all ps kept) (spell ps line) r
    told_here r t = subst (λ xs. Told f xs (spell ps line) r) (map-append (spell ps) before kept) t

    more : (r : Bool) → Told f (spell_all ps (before ++ kept)) (spell ps line) r → GoneThrough crew ps lines before (cond r (line ∷ kept) kept)
    more true t =
        record {
          behind = line ∷ gone.behind;
          all = all_now;
          cut = keep cut_so_far ((told_here true t).kept refl);
          few = let h = gone.few in omega arith;
          within = λ a. (one_within (length ps) before gone.behind line (subst (AllWithin (length ps)) all_now a), gone.within a);
        }
    more false t =
        record {
          behind = line ∷ gone.behind;
          all = all_now;
          cut = leave cut_so_far ((told_here false t).left refl);
          few = let h = gone.few in omega arith;
          within = gone.within;
        }

  pub one_gone : (first after : List Placed) (r : Bool) → GoneThrough crew ps lines first kept → first ≡ before ++ (line ∷ []) → Told (frame_of crew ps lines) (spell_all ps (before ++ kept)) (spell ps line) r → after ≡ cond r (line ∷ kept) kept → GoneThrough crew ps lines before after
  one_gone first after r g e t a =
      subst (GoneThrough crew ps lines before) (sym a) (more (subst (λ xs. GoneThrough crew ps lines xs kept) e g) r t)

-- one line that is kept: there is room for as many as there are
pub one_kept : (crew : Admits) (ps : List ℕ) (all old new : Row Placed 128) (first before : List Placed) (line : Placed) (r ok : Bool) → GoneThrough crew ps (held all) first (held old) → first ≡ before ++ (line ∷ []) → Told (frame_of crew ps (held all)) (spell_all ps (before ++ held old)) (spell ps line) r → r ≡ true → ok ≡ nat_lt (length (held old)) 128 → held new ≡ cond ok (line ∷ held old) (held old) → GoneThrough crew ps (held all) before (held new)
one_kept crew ps all old new first before line r ok gone e told stays room is =
    let many : length (held all) ≡ length first + length gone.behind = ap length gone.all ∙ length-append first gone.behind in
    let one : length first ≡ length before + 1 = ap length e ∙ length_push before line in
    let fits : length (held old) < 128 = omega (arith, gone.few, few_held all) in
    one_gone crew ps (held all) before (held old) line first (held new) r gone e told
    (is
    ∙ cond-true ok (line ∷ held old) (held old) (room ∙ lt-ltb (length (held old)) 128 fits)
    ∙ sym (cond-true r (line ∷ held old) (held old) stays))

-- after the last turn
pub all_gone : (crew : Admits) (ps : List ℕ) (lines first kept : List Placed) → GoneThrough crew ps lines first kept → first ≡ [] → IsCutList (frame_of crew ps lines) (spell_all ps kept)
all_gone crew ps lines first kept g e =
    let h : GoneThrough crew ps lines [] kept = subst (λ xs. GoneThrough crew ps lines xs kept) e g in
    subst (λ xs. CutFrom (frame_of crew ps lines) [] (spell_all ps xs) (spell_all ps kept)) (sym h.all) h.cut
