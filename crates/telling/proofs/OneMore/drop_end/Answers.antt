use Rattle.std.proofs.Common.{sym, ◌∙◌, arith}
use Rattle.telling.proofs.Drops.{end_missing, end_gone, end_stays}
use Rattle.telling.proofs.OneMore.drop_end.Goals as goal
use Rattle.telling.proofs.OneMore.drop_end.Goals.{else-has_end-via-then-has_end+else-tells, else-has_end-via-else-has_end}

pub returns-then-tells : goal.returns-then-tells
returns-then-tells c l ps h e w t =
    let more = c.args.self.now in
    end_gone c.args.end ps more.table.now more.line c.args.group c.args.place h (omega arith) w t c.without_end-less.result c.without_end-less.ensures (sym (c.tells.ensures ps h e) ∙ c.if-tells.true)

pub returns-else-has_end : goal.returns-else-has_end
returns-else-has_end c l ps h e w t =
    let more = c.args.self.now in
    elim c.else-has_end.branch [
      | else-has_end-via-then-has_end+else-tells b ↦ end_stays c.args.end ps more.table.now more.line c.args.group c.args.place h (omega arith) w t c.without_end-less.result c.without_end-less.ensures (sym (b.tells.ensures ps h e) ∙ b.if-tells.false)
      | else-has_end-via-else-has_end b ↦ end_missing c.args.end ps more.table.now more.line c.args.group c.args.place h (omega arith) w t (sym c.has_end.ensures ∙ b.if-has_end.false)
    ]
