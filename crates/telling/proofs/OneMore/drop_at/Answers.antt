use Rattle.placed.specs.Spelling.{spell}
use Rattle.rows.specs.Rows.{spell_all}
use Rattle.telling.proofs.Drops.{place_tried}
use Rattle.telling.proofs.OneMore.drop_at.Goals as goal

pub returns : goal.returns
returns c l ps h e w t =
    let more = c.args.self.now in
    let first = c.drop_end-short.ensures l ps h e w t in
    place_tried ps (spell_all ps more.table.now) (spell ps more.line) c.args.place c.args.group c.drop_end-short.result c.drop_end.result h.climbs first
    (c.drop_end.ensures l ps h e first.shorter.within first.shorter.told)
