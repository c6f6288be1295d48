-- A text that has to be a number and no more is read as that number. Assumes nothing.
use Rattle.std.proofs.Common.{◌≡◌, ℕ, List, [], ◌∷◌, ◌++◌, Some, None, Ok, Option, Result, sym, refl, ap, ◌∙◌, subst, append-nil, arith, take-append-drop}
use Rattle.std.proofs.lemmas.List.{take_all, drop_all}
use Rattle.faults.specs.declared.TextFault.{TextFault}
use Rattle.reading.specs.Grammar.{behind, RightNumber}
use Rattle.reading.specs.Numbers.{run, digits_of, plate_of, Numeral}
use Rattle.reading.specs.Reading.{◌>>=◌, numbered, end_due, read_plate}
use Rattle.reading.specs.Tokens.{byte_at}
use Rattle.reading.proofs.Fronts.{no_plate}
use Rattle.reading.proofs.Numerals.{numeral_digits, numeral_plate, plate_numeral, run_all}
use Rattle.reading.proofs.Steps.{run_digits}

-- the reading, by what the digits spell and what stands behind them
abbrev by : ℕ → ℕ → Option ℕ → List ℕ → Result ℕ TextFault
by start at o t = numbered start o >>= λ p. (end_due at t >>= λ _. Ok p)

taken : (start at : ℕ) (o : Option ℕ) (t : List ℕ) (p : ℕ) → by start at o t ≡ Ok p → (o ≡ Some p) × (t ≡ [])
taken start at None t p h = cc
taken start at (Some q) [] p h = (cc, refl)
taken start at (Some q) (b ∷ t) p h = cc

whole : (text : List ℕ) → behind text ≡ [] → digits_of text ≡ text
whole text e = sym (append-nil (digits_of text)) ∙ ap (λ l. digits_of text ++ l) (sym e) ∙ take-append-drop (run text) text

right_number : (start : ℕ) (text : List ℕ) → RightNumber start text (read_plate start text)
right_number start text = record {
  read = λ p h.
      let t = taken start (byte_at start (run text)) (plate_of (digits_of text)) (behind text) p h in
      subst (λ l. Numeral l p) (whole text t.1) (plate_numeral (digits_of text) p (run_digits text) t.0);
  reads = λ p n.
      let long = run_all text (numeral_digits text p n) in
      (λ i. by start (byte_at start (run text)) ((ap plate_of (take_all (run text) text (omega arith)) ∙ numeral_plate text p n) i) (drop_all (run text) text (omega arith) i));
  no_number = λ h. ap (λ o. by start (byte_at start (run text)) o (behind text)) (no_plate text h);
  no_end = λ p b t n e. (λ i. by start (byte_at start (run text)) (numeral_plate (digits_of text) p n i) (e i));
}

-- so is an answer that is what reading gives
pub right_number_by : (start : ℕ) (text : List ℕ) (r : Result ℕ TextFault) → r ≡ read_plate start text → RightNumber start text r
right_number_by start text r e = subst (RightNumber start text) (sym e) (right_number start text)
