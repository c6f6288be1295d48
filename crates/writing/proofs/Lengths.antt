-- Numbers and groups fit a line. Assumes nothing.
use Rattle.std.proofs.Common.{◌≡◌, ℕ, ◌*◌, ◌^◌, ◌<◌, ◌≤◌, true, List, [], ◌∷◌, length, decimal, arith, length-append, length-take}
use Rattle.std.specs.List.{flat_map}
use Rattle.std.proofs.lemmas.Fmt.{length-decimal-le}
use Rattle.groups.specs.declared.items.Item.{Item}
use Rattle.groups.specs.Items.{rising}
use Rattle.groups.proofs.Rising.{rising_step}
use Rattle.groups.specs.Items.{mark_of}
use Rattle.lines.specs.Texts.{item_text, next_text, row_text, group_text}
use Rattle.lines.proofs.Cuts.{cut_short}

pub number_short : (n : ℕ) → n < 2 ^ 32 → length (decimal n) ≤ 320
number_short n h = let l = length-decimal-le 10 n (omega arith) (omega arith) (omega arith) in omega arith

item_short : (i : Item) → i.plate ≤ 2097151 → length (item_text i) ≤ 8
item_short i h = let l = length-decimal-le 7 i.plate (omega arith) (omega arith) (omega arith) in omega (arith, length-append (decimal i.plate) (mark_of i.sign ∷ []))

next_short : (low : ℕ) (is : List Item) → rising low is ≡ true → length (flat_map next_text is) ≤ 9 * length is
next_short low [] r = omega arith
next_short low (i ∷ is) r =
    let s = rising_step low i is r in
    let one = item_short i s.upto in
    let rest = next_short i.plate is s.rest in
    omega (arith, length-append (next_text i) (flat_map next_text is))

pub group_bytes : (is : List Item) → rising 0 is ≡ true → length is ≤ 32 → length (group_text is) ≤ 289
group_bytes [] r few = omega arith
group_bytes (i ∷ is) r few =
    let s = rising_step 0 i is r in
    let one = item_short i s.upto in
    let rest = next_short i.plate is s.rest in
    omega (arith, length-append (row_text (i ∷ is)) (41 ∷ []), length-append (item_text i) (flat_map next_text is))

pub group_short : (is : List Item) → rising 0 is ≡ true → length is ≤ 32 → length (group_text is) ≤ 320
group_short is r few = let h = group_bytes is r few in omega arith

-- what a line holds goes by these
pub ruleset line_rules = (cut_short, number_short, group_short, length-take)
