-- The words of a text: each a part of it, with its place. Assumes nothing.
use Rattle.std.specs.Prelude.{◌≡◌, ℕ, ◌+◌, ◌-◌, ◌^◌, ◌<◌, min, cond, List, [], ◌∷◌, length, take, Some, None, Option}
use Rattle.std.specs.List.{slice_get}
use Rattle.std.specs.Char.{is_ascii_digit}
use Rattle.reading.specs.declared.tokens.Token.{Token}
use Rattle.reading.specs.declared.tokens.Token.TheVariants.{Number, Mark, End}
use Rattle.reading.specs.Numbers.{run, digits_of}

-- the place n bytes behind another; places end with the largest that fits
abbrev pub byte_at : ℕ → ℕ → ℕ
byte_at at n = min (at + n) (2 ^ 64 - 1)

-- the token at the front of a text: a number is its longest run of digits, a mark one other byte
abbrev pub TokenOf : ℕ → List ℕ → Token → Type 0
TokenOf at text (Number ds p) = (p ≡ at) × (ds.text.now ≡ digits_of text) × (0 < run text)
TokenOf at text (Mark m p) = (p ≡ at) × (m.now ≡ take 1 text) × (run text ≡ 0) × (0 < length text)
TokenOf at text (End p) = (p ≡ at) × (length text ≡ 0)

-- the digits of a token: none unless it is a number
abbrev pub token_digits : Token → List ℕ
token_digits (Number ds p) = ds.text.now
token_digits (Mark m p) = []
token_digits (End p) = []

-- the byte of a token that is a mark
abbrev pub token_symbol : Token → Option ℕ
token_symbol (Number ds p) = None
token_symbol (Mark m p) = slice_get m.now 0
token_symbol (End p) = None

-- where a token stands
abbrev pub token_place : Token → ℕ
token_place (Number ds p) = p
token_place (Mark m p) = p
token_place (End p) = p

-- the byte at the front of a text, unless a number begins there
abbrev pub symbol : List ℕ → Option ℕ
symbol [] = None
symbol (b ∷ bs) = cond (is_ascii_digit b) None (Some b)
