-- Texts put one behind the other into a line. Assumes nothing.
use Rattle.std.proofs.Common.{◌≡◌, Bool, true, false, cond, ltb, ltb-true, ltb-false, ℕ, zero, suc, ◌≤◌, List, [], ◌∷◌, ◌++◌, length, take, sym, refl, ap, ◌∙◌, append_assoc, append-nil, arith}
use Rattle.std.proofs.lemmas.List.{take_all, take_at, length_push}
use Rattle.fixed.proofs.Few.{few_held}
use Rattle.lines.specs.declared.line.Line.{Line}
use Rattle.lines.specs.Lines.{text_of, cut}

pub cut_short : (text : List ℕ) → length text ≤ 320 → cut text ≡ text
unfolding cut
cut_short text h = take_all 320 text h

take_front : (n : ℕ) (a b : List ℕ) → take n (take n a ++ b) ≡ take n (a ++ b)
take_front zero a b = refl
take_front (suc n) [] b = refl
take_front (suc n) (x ∷ a) b = ap (λ l. x ∷ l) (take_front n a b)

-- a text behind a text
pub behind : (s a b t u : List ℕ) → t ≡ cut (s ++ a) → u ≡ cut (t ++ b) → u ≡ cut (s ++ (a ++ b))
unfolding cut
behind s a b t u e f = f ∙ ap (λ l. take 320 (l ++ b)) e ∙ take_front 320 (s ++ a) b ∙ ap (take 320) (append_assoc s a b)

-- a full line takes none
put_full : (text : List ℕ) (b : ℕ) → length text ≤ 320 → 320 ≤ length text → cut (text ++ (b ∷ [])) ≡ text
unfolding cut
put_full text b few all = take_at text (b ∷ []) 320 (omega arith)

-- one byte more, as far as there is room for it
pub put_byte : (text new : List ℕ) (b : ℕ) (t : Bool) → length text ≤ 320 → t ≡ ltb (length text) 320 → new ≡ cond t (text ++ (b ∷ [])) text → new ≡ cut (text ++ (b ∷ []))
put_byte text new b true few room e =
    let less = ltb-true (length text) 320 (sym room) in
    e ∙ sym (cut_short (text ++ (b ∷ [])) (omega (arith, length_push text b)))
put_byte text new b false few room e = e ∙ sym (put_full text b few (ltb-false (length text) 320 (sym room)))

pub text_short : (l : Line) → length (text_of l) ≤ 320
text_short l = few_held l.bytes

-- nothing put behind the text of a line leaves it
pub unchanged : (l : Line) → text_of l ≡ cut (text_of l ++ [])
unchanged l = sym (ap cut (append-nil (text_of l)) ∙ cut_short (text_of l) (text_short l))
