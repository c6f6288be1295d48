-- What counting the digits and the zeros below the lowest of them says of the places. Assumes nothing.
use Rattle.std.proofs.Common.{◌≡◌, ℕ, zero, suc, ◌+◌, ◌/◌, ◌%◌, ◌^◌, ◌<◌, ◌≤◌, Bool, true, false, cond, eqb, w32, sym, refl, ap, ◌∙◌, arith}
use lib.Count.{ones, ones_step, count_trailing_zeros}
use Rattle.std.proofs.lemmas.Nat.Bits.{bit_at_lowest, bit_at-suc, bit_at-trailing_zeros}
use Rattle.std.proofs.lemmas.Bool.{eqb-true, eq-eqb}
use Rattle.std.proofs.lemmas.Bool.Decides.{nat_tests}
use Rattle.levers.specs.declared.Levers.{Levers}
use Rattle.levers.specs.Sets.{digit, has, tally}
use Rattle.levers.proofs.Members.{all_zero}

-- two tests that agree on n places, wherever those begin, count the same
pub tally_same : (f g : ℕ → Bool) (k l n : ℕ) → ((j : ℕ) → j < n → f (k + j) ≡ g (l + j)) → tally f k n ≡ tally g l n
tally_same f g k l zero h = refl
tally_same f g k l (suc n) h =
    let here : f k ≡ g l = ap f (let e : k ≡ k + 0 = omega arith in e) ∙ h 0 (omega arith) ∙ ap g (let e : l + 0 ≡ l = omega arith in e) in
    let rest = tally_same f g (suc k) (suc l) n (λ j m. ap f (let e : suc k + j ≡ k + suc j = omega arith in e) ∙ h (suc j) (omega arith) ∙ ap g (let e : l + suc j ≡ suc l + j = omega arith in e)) in
    λ i. cond (here i) 1 0 + rest i

digit_half : (a k : ℕ) → digit (a / 2) k ≡ digit a (suc k)
digit_half a k = ap (λ d. eqb d 1) (let e = bit_at-suc a k in sym e)

low_digit : (a : ℕ) → a % 2 ≡ cond (digit a 0) 1 0
low_digit a = grind (arith, nat_tests, bit_at_lowest a)

ones_none : ones 0 ≡ 0
unfolding ones
ones_none = refl

-- the digits are counted over any places past which all are 0
ones_tally : (n a : ℕ) → ((k : ℕ) → n ≤ k → digit a k ≡ false) → ones a ≡ tally (digit a) 0 n
ones_tally zero a h = ap ones (eqb-true a 0 ((all_zero a).1 (λ k. h k (omega arith)))) ∙ ones_none
ones_tally (suc n) a h =
    let rest = ones_tally n (a / 2) (λ k l. digit_half a k ∙ h (suc k) (omega arith)) ∙ tally_same (digit (a / 2)) (digit a) 0 1 n (λ j m. ap (digit (a / 2)) (let e : 0 + j ≡ j = omega arith in e) ∙ digit_half a j ∙ ap (digit a) (let e : suc j ≡ 1 + j = omega arith in e)) in
    ones_step a ∙ (λ i. low_digit a i + rest i)

pub places_counted : (s : Levers) (n : ℕ) → ((k : ℕ) → n ≤ k → has s k ≡ false) → ones s.bits ≡ tally (has s) 0 n
places_counted s n h = ones_tally n s.bits h

-- the digit 1 that the zeros stand below
pub lowest_digit : (a : ℕ) → 0 < a → a < 2 ^ 32 → digit a (count_trailing_zeros 32 a) ≡ true
lowest_digit a p h = eq-eqb _ 1 (bit_at-trailing_zeros w32 a p h).1

pub below_lowest : (a k : ℕ) → 0 < a → a < 2 ^ 32 → k < count_trailing_zeros 32 a → digit a k ≡ false
below_lowest a k p h l = ap (λ d. eqb d 1) ((bit_at-trailing_zeros w32 a p h).2 k l)
