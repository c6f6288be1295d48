-- The values of digits, and the plates that they spell. Assumes nothing.
use Rattle.std.proofs.Common.{◌≡◌, ℕ, ◌+◌, ◌-◌, ◌*◌, ◌<◌, ◌≤◌, Bool, true, false, cond, eqb, leb, List, [], ◌∷◌, length, get_or, drop, Some, None, refl, ◌∙◌, arith}
use Rattle.std.specs.Int.{IsInRange}
use Rattle.std.specs.Str.{all_ascii_digits}
use Rattle.std.proofs.lemmas.List.{at_drop_more}
use Rattle.std.proofs.lemmas.Str.Parse.{IsNumeralModel, numerals_by_fold, tells_all_ascii_digits, digit_at}
use Rattle.std.proofs.lemmas.Bool.{ne_eqb, le-leb, lt-leb, cond-true, cond-false}
use Rattle.reading.specs.Numbers.{value_from, plate_of}

-- `allDigits` and `value_from 0` are the library's digits and value
pub own : IsNumeralModel (λ ds. all_ascii_digits ds ≡ true) (value_from 0)
own = numerals_by_fold _ tells_all_ascii_digits value_from (record { empty = λ n. refl; more = λ n c cs _. refl })

pub digit : (ds : List ℕ) (i : ℕ) → all_ascii_digits ds ≡ true → i < length ds → IsInRange 48 57 (get_or ds i 0)
digit ds i all within = digit_at ds i (own.to ds all) within

pub value_grows : (n : ℕ) (ds : List ℕ) → n ≤ value_from n ds
value_grows n [] = omega arith
value_grows n (d ∷ ds) = let h = value_grows (n * 10 + (d - 48)) ds in omega arith

-- one digit more is read
pub value_more : (v : ℕ) (ds : List ℕ) (i : ℕ) → i < length ds → value_from v (drop i ds) ≡ value_from (v * 10 + (get_or ds i 0 - 48)) (drop (i + 1) ds)
value_more v ds i h = at_drop_more (value_from v) ds i 0 h

pub no_plate_high : (ds : List ℕ) → 2097151 < value_from 0 ds → plate_of ds ≡ None
no_plate_high [] h = refl
no_plate_high (d ∷ ds) h = either (eqb d 48) (lt-leb (value_from 0 (d ∷ ds)) 2097151 h)
  where
    either : (t : Bool) → leb (value_from 0 (d ∷ ds)) 2097151 ≡ false → cond t None (cond (leb (value_from 0 (d ∷ ds)) 2097151) (Some (value_from 0 (d ∷ ds))) None) ≡ None
    either true f = refl
    either false f = cond-false _ _ _ f

pub plate_is : (ds : List ℕ) → 0 < length ds → (get_or ds 0 0 ≡ 48 → ⊥) → value_from 0 ds ≤ 2097151 → plate_of ds ≡ Some (value_from 0 ds)
plate_is [] s z h = absurd (omega arith)
plate_is (d ∷ ds) s z h = cond-false _ _ _ (ne_eqb d 48 z) ∙ cond-true _ _ _ (le-leb (value_from 0 (d ∷ ds)) 2097151 h)

-- what the reading of a plate's digits goes by
pub ruleset plate_rules = (digit, value_grows, value_more, no_plate_high, plate_is)
