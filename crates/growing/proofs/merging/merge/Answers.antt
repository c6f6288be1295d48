use Rattle.std.proofs.Common.{◌≡◌, ℕ, ◌+◌, List, length, get_or, is_ok, sym, ap, ◌∙◌, subst, arith}
use Rattle.std.proofs.ByRecursion.{All-get_or}
use Rattle.std.proofs.lemmas.Bool.{cond-true}
use Rattle.placed.specs.Order.{order}
use Rattle.placed.specs.Signs.{Within}
use Rattle.placed.proofs.Ends.{blank}
use Rattle.fixed.specs.Rows.{behind_less}
use Rattle.rows.specs.Rows.{groups_of, AllWithin}
use Rattle.rows.proofs.Ordered.{puts_in_order}
use Rattle.growing.specs.Merging.{Mergeable, MergedUpto}
use Rattle.growing.proofs.Merges.{merged_none, merged_more, none_is}
use Rattle.growing.proofs.merging.merge.Goals as goal

pub loop-group-init : goal.loop-group-init
loop-group-init c = (
  (λ ps m.
      merged_none ps (groups_of c.args.table.now) c.all-added.result.now (groups_of c.uncovered-merged.result) m (c.uncovered-merged.ensures.kept ps (record { climbs = m.climbs; few = m.few; within = m.new_within }))),
  λ n v w. c.uncovered-merged.ensures.within n v,
)

pub loop-group-preserved : goal.loop-group-preserved
loop-group-preserved c =
    let new = c.all-added.result.now in
    let old = groups_of c.loop-group.merged in
    let k = c.loop-group.group-index in
    let g = get_or new k blank in
    let l = c.loop-group-test.true in
    let put = puts_in_order g old in
    let after : groups_of c.put_in_order.new.self ≡ behind_less order g old = c.put_in_order.ensures.after ∙ cond-true _ (behind_less order g old) old (ap is_ok c.in_ok-put_in_order.was) in (
      (λ ps m.
          let inv = c.loop-group.invariant.0 ps m in
          let w = All-get_or (Within (length ps)) new k blank l m.new_within in
          subst (MergedUpto (k + 1) ps (groups_of c.args.table.now) new) (sym after)
          (merged_more ps (groups_of c.args.table.now) new old k blank m inv l (behind_less order g old)
          (put.over ps m.climbs inv.within w (none_is ps (groups_of c.args.table.now) new old k blank m inv l))
          (put.within (length ps) inv.within w))),
      λ n v w. subst (AllWithin n) (sym after) (put.within n (c.loop-group.invariant.1 n v w) (All-get_or (Within n) new k blank l w)),
    )

pub returns : goal.returns
returns c =
    let new = c.all-added.result.now in
    let e : c.loop-group.group-index ≡ length new = omega (arith, c.loop-group-test.false, c.loop-group.auto.group-index-end) in
    record {
      merged = subst (λ gs. (ps : List ℕ) → Mergeable ps (groups_of c.args.table.now) gs → MergedUpto (length gs) ps (groups_of c.args.table.now) gs (groups_of c.loop-group.merged)) c.all-added.ensures (λ ps m. subst (λ k. MergedUpto k ps (groups_of c.args.table.now) new (groups_of c.loop-group.merged)) e (c.loop-group.invariant.0 ps m));
      within = λ n v w. c.loop-group.invariant.1 n v (subst (AllWithin n) (sym c.all-added.ensures) w);
    }
