-- Growing as a whole: from what was gathered and merged to the answer. Assumes nothing.
use Rattle.std.proofs.Common.{◌≡◌, ℕ, suc, ◌<◌, ◌≤◌, true, false, List, [], ◌∷◌, ◌++◌, length, get_or, take, None, Ok, Err, Result, sym, refl, ap, ◌∙◌, subst, inl, inr, ⊎_elim, arith}
use Rattle.std.specs.Result.{IsErrAnd}
use Rattle.std.specs.List.{ContainsAt as Has, AllByRecursion}
use Rattle.std.proofs.ByRecursion.{All-map, All-weaker, all_has_itself}
use Rattle.std.proofs.lemmas.List.{take_all, length-map, length-append, length-take, get_or-take}
use Rattle.groups.specs.declared.items.Item.{Item}
use Rattle.groups.specs.Rises.{item_if}
use Rattle.meaning.specs.Crews.{Admits}
use Rattle.meaning.specs.Frames.{Sound, Shortest}
use Rattle.meaning.specs.Tables.{IsTable, covered_by}
use Rattle.placed.specs.declared.Placed.{Placed}
use Rattle.placed.specs.Signs.{sign_on}
use Rattle.placed.specs.Spelling.{spell, spell_from}
use Rattle.placed.proofs.Ends.{blank}
use Rattle.fixed.specs.declared.row.Row.{Row}
use Rattle.rows.specs.Rows.{groups_of, spell_all}
use Rattle.growing.specs.declared.Stop.{Stop}
use Rattle.growing.specs.declared.Stop.TheVariants.{NothingPossible, TooMany}
use Rattle.growing.specs.Gathered.{Asked, told_of, Fresh, Gathered, Complete, Overfull}
use Rattle.growing.specs.Growth.{Oversized, GrowsTo}
use Rattle.growing.specs.Merging.{Mergeable, MergedUpto, MergeFull}
use Rattle.growing.proofs.Grown.{frame, table_items, grown_frame, merged_table, fresh_shortest, new_shortest, old_shortest, has_spelled, spelled_has, nothing_left, something_left}
use Rattle.growing.proofs.Merges.{not_there}
use Rattle.growing.proofs.Ready.{Ready}
use Rattle.growing.proofs.Pigeons.{Different, no_longer, order_different, apart_different}
use Rattle.growing.proofs.Taken.{gathered_within}

-- the group of no items
empty_from : (k : ℕ) (ps : List ℕ) (g : Placed) → ((j : ℕ) → sign_on g j ≡ None) → spell_from k ps g ≡ []
empty_from k [] g h = refl
empty_from k (p ∷ ps) g h = ap (λ o. item_if p o ++ spell_from (suc k) ps g) (h k) ∙ empty_from (suc k) ps g h

pub spell_empty : (ps : List ℕ) (g : Placed) → ((j : ℕ) → sign_on g j ≡ None) → spell ps g ≡ []
spell_empty ps g h = empty_from 0 ps g h

module _ (a : Asked) (lines : List (List Item)) (ready : Ready a) (sound : Sound (frame a lines ready)) (table : IsTable (frame a lines ready) (table_items a lines ready)) where
  -- more than 512 groups that are all in the table
  more_than : (t xs : List (List Item)) → IsTable (grown_frame a lines ready) t → Different xs → AllByRecursion (Shortest (grown_frame a lines ready)) xs → 512 < length xs → 512 < length t
  more_than t xs is d s l =
      let n = no_longer xs t d (All-weaker (Shortest (grown_frame a lines ready)) (Has t) is.every xs s) in
      omega arith

  pub gathered_too_many : (new : List Placed) → Overfull a new → Oversized (grown_frame a lines ready)
  gathered_too_many new o t is =
      let gs = new ++ (o.extra ∷ []) in
      more_than t (spell_all a.plates gs) is (apart_different a.plates gs ready.climbs o.gathered.apart)
      (All-map (Shortest (grown_frame a lines ready)) (spell a.plates) gs (All-weaker (Fresh a) (λ n. Shortest (grown_frame a lines ready) (spell a.plates n)) (fresh_shortest a lines ready sound table) gs o.gathered.fresh))
      (omega (arith, length-map gs (spell a.plates), length-append new (o.extra ∷ []), o.full))

  module _ (new : List Placed) (gathered : Gathered a new) (complete : Complete a new) where
    pub mergeable : Mergeable a.plates a.table new
    mergeable = record {
      climbs = ready.climbs;
      few = ready.few;
      old_within = ready.within;
      new_within = gathered_within a new gathered;
      order = table.order;
      apart = gathered.apart;
      fresh = All-weaker (Fresh a) (λ n. covered_by (spell_all a.plates a.table) (spell a.plates n) ≡ false) (λ n f. f.uncovered) new gathered.fresh;
    }

    -- the first k new groups are new groups
    first_new : (k : ℕ) (c : List Item) → Has (spell_all a.plates (take k new)) c → Has (spell_all a.plates new) c
    first_new k c h =
        let r = has_spelled a.plates (take k new) c h in
        let l = r.there in
        let few : length (take k new) ≤ length new = omega (arith, length-take k new) in
        let in-front : length (take k new) ≤ k = omega (arith, length-take k new) in
        subst (Has (spell_all a.plates new)) (ap (spell a.plates) (sym (get_or-take k new r.place blank (omega arith))) ∙ r.is blank) (spelled_has a.plates new r.place blank (omega arith))

    part_shortest : (k : ℕ) (r : List Placed) → MergedUpto k a.plates a.table new r → AllByRecursion (Shortest (grown_frame a lines ready)) (spell_all a.plates r)
    part_shortest k r m =
        All-weaker (Has (spell_all a.plates r)) (Shortest (grown_frame a lines ready)) (λ c h. ⊎_elim (λ o. old_shortest a lines ready sound table new gathered complete c o.0 o.1) (λ t. new_shortest a lines ready sound table new gathered complete c (first_new k c t)) (m.from c h)) (spell_all a.plates r) (all_has_itself (spell_all a.plates r))

    pub merged_too_many : MergeFull a.plates a.table new → Oversized (grown_frame a lines ready)
    merged_too_many f t is =
        let n = get_or new f.upto blank in
        more_than t (spell a.plates n ∷ spell_all a.plates f.part) is
        (not_there a.plates a.table new f.part f.upto blank mergeable f.merged f.more, order_different (spell_all a.plates f.part) f.merged.order)
        (new_shortest a lines ready sound table new gathered complete (spell a.plates n) (spelled_has a.plates new f.upto blank f.more), part_shortest f.upto f.part f.merged)
        (omega (arith, length-map f.part (spell a.plates), f.full))

    pub merged_is : (r : List Placed) → MergedUpto (length new) a.plates a.table new r → IsTable (grown_frame a lines ready) (spell_all a.plates r)
    merged_is r m =
        merged_table a lines ready sound table new gathered complete (spell_all a.plates r)
        (record {
          order = m.order;
          from = λ c h. ⊎_elim inl (λ t. inr (first_new (length new) c t)) (m.from c h);
          old = m.old;
          added = λ c h. m.added c (subst (λ gs. Has (spell_all a.plates gs) c) (sym (take_all (length new) new (omega arith))) h);
        })

-- ## What is answered

module _ (a : Asked) (ready : Ready a) where
  pub answer_nothing : told_of a [] ≡ true → GrowsTo a.crew a.plates a.table a.line (Err NothingPossible)
  answer_nothing h lines sound table = nothing_left a lines ready sound table h

  module _ (left : told_of a [] ≡ false) (new : List Placed) where
    pub answer_overfull : Overfull a new → GrowsTo a.crew a.plates a.table a.line (Err TooMany)
    answer_overfull o lines sound table = (something_left a lines ready sound table left, gathered_too_many a lines ready sound table new o)

    module _ (gathered : Gathered a new) (complete : Complete a new) where
      pub answer_full : ((ps : List ℕ) → Mergeable ps a.table new → MergeFull ps a.table new) → GrowsTo a.crew a.plates a.table a.line (Err TooMany)
      answer_full f lines sound table = (something_left a lines ready sound table left, merged_too_many a lines ready sound table new gathered complete (f a.plates (mergeable a lines ready sound table new gathered complete)))

      pub answer_table : (r : Row Placed 512) → ((ps : List ℕ) → Mergeable ps a.table new → MergedUpto (length new) ps a.table new (groups_of r)) → GrowsTo a.crew a.plates a.table a.line (Ok r)
      answer_table r m lines sound table = (something_left a lines ready sound table left, merged_is a lines ready sound table new gathered complete (groups_of r) (m a.plates (mergeable a lines ready sound table new gathered complete)))

-- where more than 512 groups came up, there are too many
pub stopped_too_many : (crew : Admits) (ps : List ℕ) (table : List Placed) (line : Placed) (r : Result (Row Placed 512) Stop) → IsErrAnd r (λ stop. stop ≡ TooMany) → GrowsTo crew ps table line (Err TooMany) → GrowsTo crew ps table line r
stopped_too_many crew ps table line (Ok x) e g = absurd e
stopped_too_many crew ps table line (Err stop) e g = subst (λ z. GrowsTo crew ps table line (Err z)) (sym e) g
