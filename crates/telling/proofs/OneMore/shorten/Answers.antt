use Rattle.placed.specs.Spelling.{spell}
use Rattle.rows.specs.Rows.{spell_all}
use Rattle.telling.proofs.Drops.{upto_more}
use Rattle.telling.proofs.OneMore.shorten.Goals as goal

pub loop-place-preserved : goal.loop-place-preserved
loop-place-preserved c ps h e w t =
    let more = c.args.self.now in
    let k = c.loop-place.place in
    let inv = c.loop-place.invariant ps h e w t in
    upto_more ps (spell_all ps more.table.now) (spell ps more.line) k c.args.group c.loop-place.short c.drop_at-short.result h.climbs inv
    (c.drop_at-short.ensures c.loop-place-test.true ps h e inv.shorter.within inv.shorter.told)
