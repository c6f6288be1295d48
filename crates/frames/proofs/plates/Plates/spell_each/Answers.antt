use Rattle.std.proofs.Common.{◌≡◌, ◌<◌, true, length, sym, ap, ◌∙◌, arith}
use Rattle.groups.specs.Groups.{items_of}
use Rattle.groups.specs.Rises.{climbing}
use Rattle.fixed.proofs.Few.{few_held}
use Rattle.frames.proofs.Written.{spell_skip, spell_put}
use Rattle.frames.proofs.plates.Plates.spell_each.Goals as goal
use Rattle.frames.proofs.plates.Plates.spell_each.Goals.{in-Some, in_default}

pub loop-place-preserved : goal.loop-place-preserved
loop-place-preserved c =
    let ps = c.all-plate-items.result.now in
    let rises : climbing 0 ps ≡ true = ap (climbing 0) c.all-plate-items.ensures ∙ c.args.self.now.rises in
    let n = c.loop-place.place in
    let low : n < 32 = omega (arith, c.loop-place-test.true, ap length c.all-plate-items.ensures, few_held c.args.self.now.plates) in
    elim c.match-sign.branch [
      | in-Some w ↦ ap items_of w.group-is ∙ spell_put ps n c.args.placed c.loop-place-test.true w.in-Some.sign rises low (sym w.in-Some.ensures) (items_of c.loop-place.group) (items_of w.insert.new.self) w.insert.result c.loop-place.invariant w.insert.ensures.taken w.insert.ensures.after
      | in_default w ↦ ap items_of w.group-is ∙ c.loop-place.invariant ∙ spell_skip ps n c.args.placed c.loop-place-test.true (sym w.in_default.ensures)
    ]
