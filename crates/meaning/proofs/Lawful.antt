-- Each of the three crews keeps the laws: with one plate less, what is counted is no more. Assumes nothing.
use Rattle.std.proofs.Common.{◌≡◌, ℕ, ◌≤◌, min, Bool, true, false, cond, ltb, leb, List, ◌∷◌, ◌++◌, length, filter, refl, arith}
use Rattle.std.proofs.lemmas.List.Elements.{filter-append}
use Rattle.std.proofs.lemmas.List.{length-append}
use Rattle.std.proofs.lemmas.Bool.{le-leb, leb-true, and_parts, and_from}
use Rattle.meaning.specs.Crews.{Lawful, hands, split, free}

leb_less : (a b n : ℕ) → a ≤ b → leb b n ≡ true → leb a n ≡ true
leb_less a b n h l = le-leb a n (omega (arith, leb-true b n l))

kept_one : (t : Bool) (p : ℕ) (ys : List ℕ) → length ys ≤ length (cond t (p ∷ ys) ys)
kept_one true p ys = omega arith
kept_one false p ys = omega arith

kept_fewer : (t : ℕ → Bool) (xs : List ℕ) (p : ℕ) (ys : List ℕ) → length (filter t (xs ++ ys)) ≤ length (filter t (xs ++ (p ∷ ys)))
kept_fewer t xs p ys = simp (filter-append, length-append) (omega (arith, kept_one (t p) p (filter t ys)))

-- a bound on the number of plates
pub bound_lawful : (n : ℕ) → Lawful (λ ps. leb (length ps) n)
bound_lawful n = record {
  none = le-leb 0 n (omega arith);
  fewer = λ xs p ys. leb_less _ _ n (simp length-append (omega arith));
}

pub hands_lawful : (h : ℕ) → Lawful (hands h)
hands_lawful h = bound_lawful (min h 32)

pub split_lawful : (plate : ℕ) → Lawful (split plate)
split_lawful plate = record {
  none = refl;
  fewer = λ xs p ys h.
      let a = and_parts _ _ h in
      and_from _ _
      (leb_less _ _ 1 (kept_fewer (λ q. ltb q plate) xs p ys) a.0)
      (leb_less _ _ 1 (kept_fewer (λ q. leb plate q) xs p ys) a.1);
}

pub free_lawful : Lawful free
free_lawful = record { none = refl; fewer = λ xs p ys h. refl }
