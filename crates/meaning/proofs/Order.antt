-- The table's order is strict and total. Assumes nothing.
use Rattle.std.proofs.Common.{◌≡◌, true, false, List, [], ◌∷◌, length, refl, arith}
use Rattle.std.proofs.lemmas.Bool.Decides.{nat_tests}
use Rattle.std.proofs.lemmas.Bool.{false≢true}
use Rattle.groups.specs.declared.items.Item.{Item}
use Rattle.groups.specs.declared.items.Sign.{Sign}
use Rattle.groups.specs.declared.items.Sign.TheVariants.{Plus, Minus, Star}
use Rattle.meaning.specs.Tables.{rank_of, item_before, earlier}
use Rattle.meaning.specs.Laws.{OrderIsStrict}

-- signs of one rank are the same
pub rank_same : (s t : Sign) → rank_of s ≡ rank_of t → s ≡ t
rank_same Plus Plus e = refl
rank_same Plus Minus e = absurd (omega arith)
rank_same Plus Star e = absurd (omega arith)
rank_same Minus Plus e = absurd (omega arith)
rank_same Minus Minus e = refl
rank_same Minus Star e = absurd (omega arith)
rank_same Star Plus e = absurd (omega arith)
rank_same Star Minus e = absurd (omega arith)
rank_same Star Star e = refl

-- of two different items one comes first
pub item_total : (i j : Item) → item_before i j ≡ false → item_before j i ≡ false → i ≡ j
item_total i j a b =
    let e : i.plate ≡ j.plate = grind (arith, nat_tests) in
    let r : rank_of i.sign ≡ rank_of j.sign = grind (arith, nat_tests) in
    let t = rank_same i.sign j.sign r in
    λ k. record { plate = e k; sign = t k }

-- of two different groups of equal number one is earlier
pub earlier_total : (g h : List Item) → length g ≡ length h → earlier g h ≡ false → earlier h g ≡ false → g ≡ h
earlier_total [] [] e a b = refl
earlier_total [] (j ∷ h) e a b = absurd (omega arith)
earlier_total (i ∷ g) [] e a b = absurd (omega arith)
earlier_total (i ∷ g) (j ∷ h) e a b =
    let x : item_before i j ≡ false = grind (arith, nat_tests) in
    let y : item_before j i ≡ false = grind (arith, nat_tests) in
    let p : earlier g h ≡ false = grind (arith, nat_tests) in
    let q : earlier h g ≡ false = grind (arith, nat_tests) in
    λ k. item_total i j x y k ∷ earlier_total g h (omega arith) p q k

pub earlier_one_way : (g h : List Item) → earlier g h ≡ true → earlier h g ≡ true → ⊥
earlier_one_way [] h a b = false≢true a
earlier_one_way (i ∷ g) [] a b = false≢true a
earlier_one_way (i ∷ g) (j ∷ h) a b =
    let m = earlier_one_way g h in
    grind (arith, nat_tests)

pub earlier_onwards : (g h k : List Item) → earlier g h ≡ true → earlier h k ≡ true → earlier g k ≡ true
earlier_onwards [] h k a b = absurd (false≢true a)
earlier_onwards (i ∷ g) [] k a b = absurd (false≢true a)
earlier_onwards (i ∷ g) (j ∷ h) [] a b = absurd (false≢true b)
earlier_onwards (i ∷ g) (j ∷ h) (k ∷ l) a b =
    let m = earlier_onwards g h l in
    grind (arith, nat_tests)

pub order_is_strict : OrderIsStrict
order_is_strict = record {
  total = λ g h a b. let e : length g ≡ length h = grind (arith, nat_tests) in earlier_total g h e (grind (arith, nat_tests)) (grind (arith, nat_tests));
  one_way = λ g h a b. let m = earlier_one_way g h in grind (arith, nat_tests);
  onwards = λ g h k a b. let m = earlier_onwards g h k in grind (arith, nat_tests);
}
