use Rattle.std.proofs.Common.{◌≡◌, ◌<◌, [], ◌∷◌, ◌++◌, length, get_or, sym, ap, ◌∙◌, arith}
use Rattle.std.proofs.lemmas.Bool.{lt-ltb, cond-true}
use Rattle.std.proofs.lemmas.List.{take_all, length_push}
use Rattle.fixed.specs.Rows.{held}
use Rattle.meaning.specs.Crews.{askable}
use Rattle.meaning.specs.Frames.{starred, stars}
use Rattle.placed.specs.Spelling.{spell}
use Rattle.frames.specs.Fitted.{fitted}
use Rattle.fixed.proofs.Few.{few_held}
use Rattle.managing.proofs.Stars.{stars_more, stars_same, stars_askable}
use Rattle.managing.proofs.between.Goals as goal
use Rattle.managing.proofs.between.Goals.{then-is_star, else-is_star}

pub loop-place-preserved : goal.loop-place-preserved
loop-place-preserved c =
    let ps = c.all-plate-items.result.now in
    let n = c.loop-place.place in
    let group = c.args.group in
    let old = held c.loop-place.moving in
    let inv = c.loop-place.invariant in
    elim c.if-is_star.branch [
      | then-is_star w ↦
          let room : length old < 32 = omega (arith, inv.0, c.loop-place-test.true, ap length c.all-plate-items.ensures, few_held c.args.plates.now.plates) in
          let after : held w.push.new.self ≡ old ++ (get_or ps n 0 ∷ []) = w.push.ensures.after ∙ cond-true _ (old ++ (get_or ps n 0 ∷ [])) old (w.push.ensures.room ∙ lt-ltb (length old) 32 room) in (
            omega (arith, inv.0, ap (λ r. length (held r)) w.moving-is, ap length after, length_push old (get_or ps n 0)),
            ap held w.moving-is ∙ after ∙ ap (λ xs. xs ++ (get_or ps n 0 ∷ [])) inv.1 ∙ sym (stars_more ps n group c.loop-place-test.true (ap starred (sym c.sign.ensures) ∙ sym c.is_star.ensures ∙ w.if-is_star.true)),
          )
      | else-is_star w ↦ (
        omega (arith, inv.0, ap (λ r. length (held r)) w.moving-is),
        ap held w.moving-is ∙ inv.1 ∙ sym (stars_same ps n group c.loop-place-test.true (ap starred (sym c.sign.ensures) ∙ sym c.is_star.ensures ∙ w.if-is_star.false)),
      )
    ]

pub returns-clause-askable : goal.returns-clause-askable
returns-clause-askable c =
    let p = c.args.plates.now in
    let group = c.args.group in
    let is : held c.loop-place.moving ≡ stars (spell (fitted p) group) = c.loop-place.invariant.1 ∙ ap (λ ps. stars (spell ps group)) (take_all c.loop-place.place c.all-plate-items.result.now c.loop-place-test.false ∙ c.all-plate-items.ensures) in
    ap askable is ∙ stars_askable (fitted p) group p.rises (few_held p.plates)
