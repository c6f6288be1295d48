use Rattle.std.proofs.Common.{◌≡◌, ◌+◌, ◌<◌, length, sym, subst, arith}
use Rattle.meaning.specs.Frames.{Frame}
use Rattle.showing.specs.Showing.{already, plus, minus}
use Rattle.showing.proofs.Completing.{Upto, upto_already, upto_plus, upto_minus, upto_all}
use Rattle.showing.proofs.Table.complete.Goals as goal

pub loop-place-preserved : goal.loop-place-preserved
loop-place-preserved c crew ps lines h e w sound right able free =
    let f : Frame = record { crew = crew; plates = ps; lines = lines } in
    let table = c.args.self.now.groups.now in
    let g = c.args.group in
    let k = c.loop-place.place in
    let r = c.loop-place.whole in
    let so = c.loop-place.invariant crew ps lines h e w sound right able free in
    let l : k < length ps = omega (arith, c.loop-place-test.true) in
    elim (c.set_at-whole.ensures ps h) [
      | already n same ↦ subst (Upto f table g (k + 1)) (sym same) (upto_already f table g h sound right able k l r so n)
      | plus none gives told ↦ upto_plus f table g h sound right able k l r so none c.set_at-whole.result gives told
      | minus none n gives told turns ↦ upto_minus f table g h sound right able k l r so none n gives told c.set_at-whole.result turns
    ]

pub returns : goal.returns
returns c crew ps lines h e w sound right able free =
    let f : Frame = record { crew = crew; plates = ps; lines = lines } in
    let table = c.args.self.now.groups.now in
    let g = c.args.group in
    let r = c.loop-place.whole in
    let so = c.loop-place.invariant crew ps lines h e w sound right able free in
    let all : c.loop-place.place ≡ length ps = omega (arith, c.loop-place-test.false) in
    upto_all f table g h sound right able r (subst (λ k. Upto f table g k r) all so)
