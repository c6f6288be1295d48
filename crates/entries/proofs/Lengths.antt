-- Answer lines fit a line. Assumes nothing.
use Rattle.std.proofs.Common.{◌≡◌, ℕ, ◌≤◌, true, List, [], ◌∷◌, ◌++◌, length, codes, decimal, refl, append_assoc, arith, length-append, length-take}
use Rattle.faults.specs.declared.Fault.{Fault}
use Rattle.faults.specs.declared.Place.TheVariants.{Byte, Plate}
use Rattle.groups.specs.declared.items.Item.{Item}
use Rattle.groups.specs.Items.{rising}
use Rattle.lines.specs.Texts.{group_text}
use Rattle.writing.proofs.Lengths.{group_bytes}
use Rattle.lines.specs.Lines.{cut}
use Rattle.lines.proofs.Cuts.{behind, cut_short, unchanged}
use Rattle.entries.specs.Entries.{group_line, place_text, tell_text}

pub group_line_short : (n : ℕ) (is : List Item) → length (decimal n) ≤ 20 → rising 0 is ≡ true → length is ≤ 32 → length (group_line n is) ≤ 320
group_line_short n is h r few = let b = group_bytes is r few in omega (arith, length-append (decimal n) (32 ∷ group_text is))

pub byte_short : (b : ℕ) → length (decimal b) ≤ 20 → length (place_text (Byte b)) ≤ 27
byte_short b h = omega (arith, length-append (codes " at ") (decimal b))

pub plate_short : (p : ℕ) → length (decimal p) ≤ 20 → length (place_text (Plate p)) ≤ 27
plate_short p h = omega (arith, length-append (codes " plate ") (decimal p))

pub fault_line_short : (n : ℕ) (f : Fault) → length (decimal n) ≤ 20 → length (decimal f.number) ≤ 20 → length (place_text f.place) ≤ 27 → length (tell_text n f) ≤ 320
fault_line_short n f h k p =
    omega (arith, length-append (decimal n) (codes " no " ++ (decimal f.number ++ place_text f.place)), length-append (codes " no ") (decimal f.number ++ place_text f.place), length-append (decimal f.number) (place_text f.place))

-- a text behind what a line holds
pub cut_more : (a b : List ℕ) → cut (cut a ++ b) ≡ cut (a ++ b)
cut_more a b = behind [] a b (cut a) (cut (cut a ++ b)) refl refl

-- what a line holds after one text and another goes by these
pub ruleset line_rules = (cut_more, append_assoc, cut_short)

pub ruleset group_line_rules = (line_rules, group_line_short, length-take)

pub ruleset place_rules = (cut_more, append_assoc, unchanged, byte_short, plate_short)

pub ruleset fault_line_rules = (line_rules, fault_line_short)
