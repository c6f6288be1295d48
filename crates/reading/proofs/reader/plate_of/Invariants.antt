use Rattle.std.proofs.Common.{◌≡◌, ◌<◌, ◌≤◌, drop}
use Rattle.reading.specs.Numbers.{value_from}
use Rattle.reading.proofs.reader.plate_of.Given as goal

abbrev pub invariant-loop-digit : goal.invariant-loop-digit
invariant-loop-digit l = record {
  high : l.value ≤ 2097151;
  low : 0 < l.digit-index → 0 < l.value;
  read : value_from l.value (drop l.digit-index l.digits.text.now) ≡ value_from 0 l.digits.text.now;
}
