-- One more item behind others, above them all. Assumes nothing.
use Rattle.std.proofs.Common.{◌≡◌, ℕ, zero, suc, ◌<◌, ◌≤◌, true, List, [], ◌∷◌, ◌++◌, length, get_or, drop, None, refl, ap, ◌∙◌, arith}
use Rattle.std.proofs.lemmas.Bool.{le-ltb, ne_eqb, cond-false}
use Rattle.groups.specs.declared.items.Item.{Item}
use Rattle.groups.specs.Items.{rising, sign_at, insert}
use Rattle.groups.proofs.Rising.{rising_step}

-- what the last of rising items is
pub record Last (low : ℕ) (xs : List Item) (x : Item) : Type 0 where
  pub above : low < x.plate
  pub upto : x.plate ≤ 2097151
  pub unnamed : sign_at xs x.plate ≡ None
  pub goes : insert x xs ≡ xs ++ (x ∷ [])

pub last : (low : ℕ) (xs : List Item) (x : Item) → rising low (xs ++ (x ∷ [])) ≡ true → Last low xs x
last low [] x r = let s = rising_step low x [] r in record { above = s.above; upto = s.upto; unnamed = refl; goes = refl }
last low (y ∷ ys) x r =
    let s = rising_step low y (ys ++ (x ∷ [])) r in
    let a = s.above in
    let l = last y.plate ys x s.rest in
    let b = l.above in
    record {
      above = omega arith;
      upto = l.upto;
      unnamed = cond-false _ _ _ (ne_eqb y.plate x.plate (λ e. omega arith)) ∙ l.unnamed;
      goes = cond-false _ _ _ (le-ltb x.plate y.plate (omega arith)) ∙ ap (λ zs. y ∷ zs) l.goes;
    }

-- the items behind one rise from its plate
pub rest_rises : (low : ℕ) (xs : List Item) (n : ℕ) (d : Item) → rising low xs ≡ true → n < length xs → rising (get_or xs n d).plate (drop (suc n) xs) ≡ true
rest_rises low [] n d r l = absurd (omega arith)
rest_rises low (x ∷ xs) zero d r l = (rising_step low x xs r).rest
rest_rises low (x ∷ xs) (suc n) d r l = rest_rises x.plate xs n d (rising_step low x xs r).rest (omega arith)
