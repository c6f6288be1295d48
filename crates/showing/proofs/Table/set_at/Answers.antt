use Rattle.std.proofs.Common.{◌≡◌, None, rules}
use Rattle.placed.specs.Signs.{sign_on}
use Rattle.rows.specs.Rows.{spell_all}
use Rattle.showing.proofs.Covering.{set_told}
use Rattle.showing.proofs.Table.set_at.Goals as goal

pub returns-else-is_some : goal.returns-else-is_some
returns-else-is_some c ps h =
    let none : sign_on c.args.group c.args.place ≡ None = search rules in
    set_told (spell_all ps c.args.self.now.groups.now) ps c.args.place c.args.group c.with.result c.with-else-is_some.result c.normal_first.result none c.with.ensures c.with-else-is_some.ensures (c.normal_first.ensures ps h)
