use Rattle.std.proofs.Common.{◌+◌, ◌/◌, ◌%◌, [], ◌∷◌, ◌++◌, decimal, sym, ap, ◌∙◌, arith}
use Rattle.std.proofs.lemmas.Fmt.{decimal_digit, decimal_step, length-decimal-le}
use Rattle.lines.specs.Lines.{text_of, cut}
use Rattle.lines.proofs.Cuts.{behind}
use Rattle.lines.proofs.line.Line.+append_digits.Goals as goal

pub returns-then-number-lt10 : goal.returns-then-number-lt10
returns-then-number-lt10 t c = record {
  after = c.push.ensures ∙ ap (λ l. cut (text_of c.args.self.now ++ l)) (sym (decimal_digit c.args.number c.if-number-lt10.true));
  short = length-decimal-le 20 c.args.number (omega arith) (let f = c.ranges.number.fits in omega arith) c.ranges.number.fits;
}

pub returns-else-number-lt10 : goal.returns-else-number-lt10
returns-else-number-lt10 t c = record {
  after =
      behind (text_of c.args.self.now) (decimal (c.args.number / 10)) ((48 + c.args.number % 10) ∷ []) (text_of c.append_digits.new.self) (text_of c.push-else-number-lt10.new.self) c.append_digits.ensures.after c.push-else-number-lt10.ensures
      ∙ ap (λ l. cut (text_of c.args.self.now ++ l)) (sym (decimal_step c.args.number c.if-number-lt10.false c.ranges.number.fits));
  short = length-decimal-le 20 c.args.number (omega arith) (let f = c.ranges.number.fits in omega arith) c.ranges.number.fits;
}
