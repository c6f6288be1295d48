use Rattle.std.proofs.Common.{◌≡◌, ◌<◌, [], ◌∷◌, ◌++◌, length, get_or, sym, ap, ◌∙◌, subst, arith}
use Rattle.std.proofs.ByRecursion.{All-push, All-get_or}
use Rattle.std.proofs.lemmas.List.{take_all, length_push}
use Rattle.std.proofs.lemmas.Bool.{lt-ltb, cond-true}
use Rattle.placed.specs.Signs.{Within}
use Rattle.placed.proofs.Ends.{blank}
use Rattle.rows.specs.Rows.{groups_of, AllWithin}
use Rattle.growing.specs.Merging.{uncovered_of}
use Rattle.fixed.proofs.Few.{few_held}
use Rattle.growing.proofs.Merges.{stays_more, stays_same}
use Rattle.growing.proofs.merging.uncovered.Goals as goal
use Rattle.growing.proofs.merging.uncovered.Goals.{then-not-covered, else-not-covered}

pub loop-group-preserved : goal.loop-group-preserved
loop-group-preserved c =
    let old = groups_of c.loop-group.rest in
    let i = c.loop-group.group-index in
    let l = c.loop-group-test.true in
    let table = c.all-group-items.result.now in
    let new = c.args.new.now in
    let inv = c.loop-group.invariant in
    let group = get_or table i blank in
    let room : length old < 512 = omega (arith, inv.0, l, ap length c.all-group-items.ensures, few_held c.args.table.now) in
    elim c.if-not-covered.branch [
      | then-not-covered w ↦
          let after : groups_of w.push.new.self ≡ old ++ (group ∷ []) = w.push.ensures.after ∙ cond-true _ (old ++ (group ∷ [])) old (w.push.ensures.room ∙ lt-ltb (length old) 512 room) in (
            omega (arith, inv.0, ap (λ r. length (groups_of r)) w.rest-is, ap length after, length_push old group),
            (λ ps h. ap groups_of w.rest-is ∙ after ∙ ap (λ xs. xs ++ (group ∷ [])) (inv.1 ps h) ∙ sym (stays_more ps new table i blank l (sym (c.covered.ensures ps h) ∙ w.if-not-covered.true))),
            (λ n v. subst (AllWithin n) (sym (ap groups_of w.rest-is ∙ after)) (All-push (Within n) old group (inv.2 n v) (All-get_or (Within n) table i blank l v))),
          )
      | else-not-covered w ↦ (
        omega (arith, inv.0, ap (λ r. length (groups_of r)) w.rest-is),
        (λ ps h. ap groups_of w.rest-is ∙ inv.1 ps h ∙ sym (stays_same ps new table i blank l (sym (c.covered.ensures ps h) ∙ w.if-not-covered.false))),
        (λ n v. subst (AllWithin n) (sym (ap groups_of w.rest-is)) (inv.2 n v)),
      )
    ]

pub returns : goal.returns
returns c = record {
  kept = λ ps h. c.loop-group.invariant.1 ps h ∙ ap (uncovered_of ps c.args.new.now) (take_all c.loop-group.group-index c.all-group-items.result.now c.loop-group-test.false ∙ c.all-group-items.ensures);
  within = λ n v. c.loop-group.invariant.2 n (subst (AllWithin n) (sym c.all-group-items.ensures) v);
}
