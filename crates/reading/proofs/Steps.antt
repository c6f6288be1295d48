-- Tokens as parts of their text, and one step of reading after another. Assumes nothing.
use Rattle.std.proofs.Common.{◌≡◌, ℕ, suc, Bool, true, false, List, [], ◌∷◌, length, take, None, Ok, Err, Result, sym, refl, ap, ◌∙◌, one-add, arith}
use Rattle.std.specs.List.{slice_get}
use Rattle.std.specs.Char.{is_ascii_digit}
use Rattle.std.specs.Str.{all_ascii_digits}
use Rattle.std.proofs.lemmas.List.{length-take-le}
use Rattle.std.proofs.lemmas.List.Sums.{prefix_len-le-length}
use Rattle.std.proofs.lemmas.Bool.{and_from, cond-true, cond-false}
use Rattle.faults.specs.declared.TextFault.{TextFault}
use Rattle.reading.specs.declared.tokens.Token.{Token}
use Rattle.reading.specs.declared.tokens.Token.TheVariants.{Number, Mark, End}
use Rattle.reading.specs.Numbers.{run, digits_of}
use Rattle.reading.specs.Reading.{◌>>=◌}
use Rattle.reading.specs.Tokens.{TokenOf, token_digits, token_symbol, symbol}

-- the front of a text that begins with a digit, or with another byte
pub run_more : (b : ℕ) (bs : List ℕ) → is_ascii_digit b ≡ true → run (b ∷ bs) ≡ suc (run bs)
run_more b bs h = cond-true _ _ _ h ∙ one-add (run bs)

pub run_none : (b : ℕ) (bs : List ℕ) → is_ascii_digit b ≡ false → run (b ∷ bs) ≡ 0
run_none b bs h = cond-false _ _ _ h

-- a run of digits is digits
pub run_digits : (text : List ℕ) → all_ascii_digits (digits_of text) ≡ true
run_digits [] = refl
run_digits (b ∷ bs) = by (is_ascii_digit b) refl (run_digits bs)
  where
    by : (t : Bool) → is_ascii_digit b ≡ t → all_ascii_digits (digits_of bs) ≡ true → all_ascii_digits (digits_of (b ∷ bs)) ≡ true
    by true h ih = ap (λ n. all_ascii_digits (take n (b ∷ bs))) (run_more b bs h) ∙ and_from _ _ h ih
    by false h ih = ap (λ n. all_ascii_digits (take n (b ∷ bs))) (run_none b bs h)

-- what a token is, is what stands at the front of the text
pub token_digits_lem : (at : ℕ) (text : List ℕ) (t : Token) → TokenOf at text t → token_digits t ≡ digits_of text
token_digits_lem at text (Number ds p) h = h.1
token_digits_lem at text (Mark m p) h = sym (ap (λ n. take n text) h.2)
token_digits_lem at [] (End p) h = refl
token_digits_lem at (b ∷ bs) (End p) h = absurd (omega (arith, h.1))

pub token_symbol_lem : (at : ℕ) (text : List ℕ) (t : Token) → TokenOf at text t → token_symbol t ≡ symbol text
token_symbol_lem at [] (Number ds p) h = refl
token_symbol_lem at (b ∷ bs) (Number ds p) h = by (is_ascii_digit b) refl
  where
    by : (t : Bool) → is_ascii_digit b ≡ t → None ≡ symbol (b ∷ bs)
    by true e = sym (cond-true _ _ _ e)
    by false e = absurd (omega (arith, h.2, run_none b bs e))
token_symbol_lem at [] (Mark m p) h = absurd (omega (arith, h.3))
token_symbol_lem at (b ∷ bs) (Mark m p) h = by (is_ascii_digit b) refl
  where
    by : (t : Bool) → is_ascii_digit b ≡ t → slice_get m.now 0 ≡ symbol (b ∷ bs)
    by true e = absurd (omega (arith, h.2, run_more b bs e))
    by false e = ap (λ l. slice_get l 0) h.1 ∙ sym (cond-false _ _ _ e)
token_symbol_lem at [] (End p) h = refl
token_symbol_lem at (b ∷ bs) (End p) h = absurd (omega (arith, h.1))

-- a step that is refused ends the reading, and one that is not goes on
pub stop : {A B : Type 0} (m : Result A TextFault) (f : A → Result B TextFault) (e : TextFault) → m ≡ Err e → m >>= f ≡ Err e
stop m f e h = ap (λ x. x >>= f) h

pub go_on : {A B : Type 0} (m : Result A TextFault) (f : A → Result B TextFault) (x : A) → m ≡ Ok x → m >>= f ≡ f x
go_on m f x h = ap (λ y. y >>= f) h

pub run_long : (text : List ℕ) → length (digits_of text) ≡ run text
run_long text = length-take-le (run text) text (prefix_len-le-length is_ascii_digit text)

-- what telling the token at the front goes by
pub ruleset token_rules = (token_digits_lem, token_symbol_lem, run_long)
