use Rattle.std.proofs.Common.{is_ok}
use Rattle.placed.specs.Spelling.{spell}
use Rattle.fixed.proofs.Few.{few_held}
use Rattle.rows.specs.Rows.{groups_of}
use Rattle.growing.specs.Gathered.{asked_of}
use Rattle.growing.proofs.Ready.{ready_of}
use Rattle.growing.proofs.Taken.{unmet_managed, short_managed, pushed}
use Rattle.growing.proofs.growth.Growth.take_in.Goals as goal

pub returns : goal.returns
returns g c =
    let a = asked_of g.C.Crew.admitted c.args.self.now in
    let ready = ready_of g.C.Crew.admitted c.args.self.now in
    let new = groups_of c.args.new.now in
    let items = spell a.plates c.args.group in
    let s = c.shorten.result in
    let short = c.shorten.ensures in
    pushed a new ready c.requires.gathered c.args.group s c.requires.unmet short
    (short_managed a (g.met.C.Crew.lawful c.args.self.now.frame.crew.now) ready c.args.group s short.shorter.covering (unmet_managed a new items c.requires.unmet))
    (groups_of c.push.new.self) (is_ok c.push.result) c.push.ensures.room (few_held c.args.new.now) c.push.ensures.after
