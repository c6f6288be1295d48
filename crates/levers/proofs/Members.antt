-- The digits of what the code makes, and sets that have the same places. Assumes nothing.
use Rattle.std.proofs.Common.{◌≡◌, ℕ, ◌*◌, ◌-◌, ◌%◌, ◌^◌, ◌<◌, ◌≤◌, true, false, not, ◌&&◌, ◌||◌, eqb, ltb, Decides, w32, sym, ap, ◌∙◌, ⊎_elim, arith}
use lib.Bits.{bit_and, bit_or, bit_xor}
use Rattle.std.specs.Int.{bit_at}
use Rattle.std.proofs.lemmas.Nat.{one_shl, and_mask}
use Rattle.std.proofs.lemmas.Nat.Bits.{bit_at_and, bit_at_or, bit_at_xor, bit_at_not, bit_at_above, bit_at-zero, bit_at-lt, bit_at-pow_same, bit_at-pow_other, same_from_bits}
use Rattle.std.proofs.lemmas.Bool.{eq-eqb, eqb-true, ne_eqb, cases_eq, cases_lt}
use Rattle.std.proofs.lemmas.Bool.Decides.{nat_tests}
use Rattle.levers.specs.declared.Levers.{Levers}
use Rattle.levers.specs.Sets.{digit, has}

pub in_either : (a b k : ℕ) → digit (bit_or a b) k ≡ (digit a k || digit b k)
in_either a b k = grind (arith, nat_tests, bit_at_or a b k)

pub in_both : (a b k : ℕ) → digit (bit_and a b) k ≡ (digit a k && digit b k)
in_both a b k = grind (arith, nat_tests, bit_at_and a b k)

pub in_unlike : (a b k : ℕ) → digit (bit_xor a b) k ≡ ((digit a k && not (digit b k)) || (digit b k && not (digit a k)))
in_unlike a b k = grind (arith, nat_tests, bit_at_xor a b k)

pub in_only_first : (a b k : ℕ) → a < 2 ^ 32 → b < 2 ^ 32 → digit (bit_and a (4294967295 - b)) k ≡ (digit a k && not (digit b k))
in_only_first a b k l m =
    ⊎_elim
    (λ i. let n = bit_at_not w32 b k m i in grind (arith, nat_tests, bit_at_and a (4294967295 - b) k))
    (λ i. let n = bit_at_above a 32 k l i in grind (arith, nat_tests, bit_at_and a (4294967295 - b) k))
    (cases_lt k 32)

-- the one digit of `1 << p`
one_digit : (p k : ℕ) → digit (2 ^ p) k ≡ eqb k p
one_digit p k =
    ⊎_elim
    (λ e. ap (digit (2 ^ p)) e ∙ eq-eqb _ 1 (bit_at-pow_same p) ∙ sym (eq-eqb k p e))
    (λ ne. ap (λ d. eqb d 1) (bit_at-pow_other p k ne) ∙ sym (ne_eqb k p ne))
    (cases_eq k p)

pub in_with : (a p k : ℕ) → p < 32 → digit (bit_or a (1 * 2 ^ p % 2 ^ 32)) k ≡ (digit a k || (eqb k p && ltb p 32))
in_with a p k h = ap (λ n. digit (bit_or a n) k) (one_shl p 32 h) ∙ grind (arith, nat_tests, in_either a (2 ^ p) k, one_digit p k)

pub in_without : (a p k : ℕ) → p < 32 → a < 2 ^ 32 → digit (bit_and a (4294967295 - 1 * 2 ^ p % 2 ^ 32)) k ≡ (digit a k && not (eqb k p))
in_without a p k h l =
    ap (λ n. digit (bit_and a (4294967295 - n)) k) (one_shl p 32 h) ∙ in_only_first a (2 ^ p) k l (omega (arith, one_shl p 32 h)) ∙ ap (λ t. digit a k && not t) (one_digit p k)

-- the test by the lowest digit
pub in_digit : (n : ℕ) → eqb (bit_and n 1) 1 ≡ eqb (n % 2) 1
in_digit n = ap (λ d. eqb d 1) (and_mask n 1)

pub in_no : (a p : ℕ) → a < 2 ^ 32 → 32 ≤ p → ltb p 32 ≡ digit a p
in_no a p h l = grind (arith, nat_tests, bit_at_above a 32 p h l)

-- a place from 32 on is in no set, so taking it out takes out none
pub out_of_none : (a p k : ℕ) → a < 2 ^ 32 → 32 ≤ p → digit a k ≡ (digit a k && not (eqb k p))
out_of_none a p k h l =
    ⊎_elim
    (λ e. let n = bit_at_above a 32 k h (omega arith) in grind (arith, nat_tests))
    (λ ne. grind (arith, nat_tests))
    (cases_eq k p)

pub is_inside : (a b : ℕ) → Decides (eqb (bit_and a b) a) ((k : ℕ) → digit a k ≡ true → digit b k ≡ true)
is_inside a b = (
  (λ e k h. eq-eqb (bit_at b k) 1 (omega (arith, bit_at_and a b k, ap (λ n. bit_at n k) (eqb-true (bit_and a b) a e), eqb-true (bit_at a k) 1 h))),
  (λ h. eq-eqb _ _ (same_from_bits (bit_and a b) a (λ k. bit_at_and a b k ∙ grind (arith, nat_tests, h k)))),
)

-- numbers with the same digits are the same
pub same_digits : (a b : ℕ) → ((k : ℕ) → digit a k ≡ digit b k) → a ≡ b
same_digits a b h = same_from_bits a b (λ k. let e = h k in let l = bit_at-lt a k in let m = bit_at-lt b k in grind (arith, nat_tests))

no_digit : (k : ℕ) → digit 0 k ≡ false
no_digit k = ap (λ d. eqb d 1) (bit_at-zero k)

-- a number with no digit 1 is 0
pub all_zero : (a : ℕ) → Decides (eqb a 0) ((k : ℕ) → digit a k ≡ false)
all_zero a = (
  (λ e k. ap (λ n. digit n k) (eqb-true a 0 e) ∙ no_digit k),
  (λ h. eq-eqb a 0 (same_digits a 0 (λ k. h k ∙ sym (no_digit k)))),
)

pub same_sets : (s t : Levers) → ((k : ℕ) → has s k ≡ has t k) → s ≡ t
same_sets s t h = let e = same_digits s.bits t.bits h in λ i. record { bits = e i }

-- no place from 32 on is in a set
pub none_high : (s : Levers) (k : ℕ) → s.bits < 2 ^ 32 → 32 ≤ k → has s k ≡ false
none_high s k h l = ap (λ d. eqb d 1) (bit_at_above s.bits 32 k h l)
