use Rattle.std.proofs.Common.{is_ok}
use Rattle.lines.specs.Lines.{text_of}
use Rattle.lines.proofs.Cuts.{put_byte, text_short}
use Rattle.lines.proofs.line.Line.push.Goals as goal

pub returns : goal.returns
returns c = put_byte (text_of c.args.self.now) _ c.args.byte (is_ok c.push.result) (text_short c.args.self.now) c.push.ensures.room c.push.ensures.after
