-- Numbers at the front of a text, as the grammar has them and as they are read. Assumes nothing.
use Rattle.std.proofs.Common.{◌≡◌, ℕ, suc, ◌+◌, ◌-◌, ◌*◌, ◌^◌, ◌<◌, Bool, true, false, cond, eqb, leb, List, [], ◌∷◌, ◌++◌, length, get_or, take, drop, Some, None, decimal, sym, refl, ap, ◌∙◌, subst, arith}
use Rattle.std.specs.Char.{is_ascii_digit}
use Rattle.std.specs.Str.{all_ascii_digits}
use Rattle.std.proofs.lemmas.Fmt.{digits_decimal, digits_value-decimal, decimal-digits_value, first_decimal, decimal_nonempty}
use Rattle.std.proofs.lemmas.List.{take_at, drop_at}
use Rattle.std.proofs.lemmas.Bool.{and_parts, leb-true, eqb-false}
use Rattle.reading.specs.Grammar.{behind}
use Rattle.reading.specs.Numbers.{run, digits_of, value_from, plate_of, Numeral}
use Rattle.reading.proofs.Steps.{run_more, run_none}
use Rattle.reading.proofs.Values.{own, digit, value_grows, plate_is}

pub numeral_digits : (ds : List ℕ) (p : ℕ) → Numeral ds p → all_ascii_digits ds ≡ true
numeral_digits ds p h = ap all_ascii_digits h.written ∙ digits_decimal own p (let high = h.high in omega arith)

-- a number as one writes it is read as that number
pub numeral_plate : (ds : List ℕ) (p : ℕ) → Numeral ds p → plate_of ds ≡ Some p
numeral_plate ds p h =
    let w = h.written in
    let high = h.high in
    let low = h.low in
    let small : p < 2 ^ 64 = omega arith in
    let value : value_from 0 ds ≡ p = ap (value_from 0) w ∙ digits_value-decimal own p small in
    let first : 48 < get_or ds 0 0 = subst (λ l. 48 < get_or l 0 0) (sym w) (first_decimal p low small) in
    let some : 0 < length ds = subst (λ l. 0 < length l) (sym w) (decimal_nonempty p small) in
    plate_is ds some (λ e. omega arith) (omega arith) ∙ ap Some value

-- what is read as a number is that number as one writes it
pub plate_numeral : (ds : List ℕ) (p : ℕ) → all_ascii_digits ds ≡ true → plate_of ds ≡ Some p → Numeral ds p
plate_numeral [] p all h = cc
plate_numeral (d ∷ ds) p all h = by (eqb d 48) (leb (value_from 0 (d ∷ ds)) 2097151) refl refl h
  where
    by : (z t : Bool) → eqb d 48 ≡ z → leb (value_from 0 (d ∷ ds)) 2097151 ≡ t → cond z None (cond t (Some (value_from 0 (d ∷ ds))) None) ≡ Some p → Numeral (d ∷ ds) p
    by true t e f h = cc
    by false false e f h = cc
    by false true e f h =
        let is : value_from 0 (d ∷ ds) ≡ p = cc in
        let ne = eqb-false d 48 e in
        let high = leb-true _ _ f in
        let low = (digit (d ∷ ds) 0 all (omega arith)).0 in
        let grows = value_grows (0 * 10 + (d - 48)) ds in
        record {
          written = sym (decimal-digits_value own (d ∷ ds) all (omega arith) (λ z. absurd (ne z)) (omega arith)) ∙ ap decimal is;
          low = omega (arith, is);
          high = omega (arith, is);
        }

-- digits with another byte behind them are the run at the front
pub run_front : (ds : List ℕ) (b : ℕ) (t : List ℕ) → all_ascii_digits ds ≡ true → is_ascii_digit b ≡ false → run (ds ++ (b ∷ t)) ≡ length ds
run_front [] b t all e = run_none b t e
run_front (d ∷ ds) b t all e =
    let parts = and_parts (is_ascii_digit d) (all_ascii_digits ds) all in
    run_more d (ds ++ (b ∷ t)) parts.0 ∙ ap suc (run_front ds b t parts.1 e)

pub digits_front : (ds : List ℕ) (b : ℕ) (t : List ℕ) → all_ascii_digits ds ≡ true → is_ascii_digit b ≡ false → digits_of (ds ++ (b ∷ t)) ≡ ds
digits_front ds b t all e = ap (λ n. take n (ds ++ (b ∷ t))) (run_front ds b t all e) ∙ take_at ds (b ∷ t) (length ds) refl

pub behind_front : (ds : List ℕ) (b : ℕ) (t : List ℕ) → all_ascii_digits ds ≡ true → is_ascii_digit b ≡ false → behind (ds ++ (b ∷ t)) ≡ b ∷ t
behind_front ds b t all e = ap (λ n. drop n (ds ++ (b ∷ t))) (run_front ds b t all e) ∙ drop_at ds (b ∷ t) (length ds) refl

-- digits alone are their own run
pub run_all : (ds : List ℕ) → all_ascii_digits ds ≡ true → run ds ≡ length ds
run_all [] all = refl
run_all (d ∷ ds) all = let parts = and_parts (is_ascii_digit d) (all_ascii_digits ds) all in run_more d ds parts.0 ∙ ap suc (run_all ds parts.1)
