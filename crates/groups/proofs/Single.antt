-- One more item in front, if there is a sign for it. Assumes nothing.
use Rattle.std.proofs.Common.{◌≡◌, ℕ, ◌<◌, ◌≤◌, true, List, [], ◌∷◌, ◌++◌, Some, None, Option, refl, arith}
use Rattle.std.proofs.lemmas.Bool.{eq-eqb, ne_eqb, cond-true, cond-false}
use Rattle.groups.specs.declared.items.Item.{Item}
use Rattle.groups.specs.declared.items.Sign.{Sign}
use Rattle.groups.specs.Items.{rising, sign_at}
use Rattle.groups.specs.Rises.{item_if}
use Rattle.groups.proofs.Rising.{rising_step, rising_more}

-- what rises from a plate on rises from below it
rising_lower : (low p : ℕ) (xs : List Item) → low ≤ p → rising p xs ≡ true → rising low xs ≡ true
rising_lower low p [] h r = refl
rising_lower low p (x ∷ xs) h r =
    let s = rising_step p x xs r in
    let a = s.above in
    rising_more low x xs (omega arith) s.upto s.rest

-- one more item in front, if there is a sign for it
pub item_rises : (o : Option Sign) (low p : ℕ) (xs : List Item) → low < p → p ≤ 2097151 → rising p xs ≡ true → rising low (item_if p o ++ xs) ≡ true
item_rises None low p xs l h r = rising_lower low p xs (omega arith) r
item_rises (Some s) low p xs l h r = rising_more low (record { plate = p; sign = s }) xs l h r

pub item_here : (o : Option Sign) (p : ℕ) (xs : List Item) → sign_at xs p ≡ None → sign_at (item_if p o ++ xs) p ≡ o
item_here None p xs u = u
item_here (Some s) p xs u = cond-true _ _ _ (eq-eqb p p refl)

pub item_other : (o : Option Sign) (p q : ℕ) (xs : List Item) → (p ≡ q → ⊥) → sign_at (item_if p o ++ xs) q ≡ sign_at xs q
item_other None p q xs ne = refl
item_other (Some s) p q xs ne = cond-false _ _ _ (ne_eqb p q ne)
