-- Items that rise: where a plate is looked for, and where a new item goes. Assumes nothing.
use Rattle.std.proofs.Common.{◌≡◌, ℕ, zero, suc, ◌<◌, ◌≤◌, Bool, true, false, cond, eqb, ltb, List, [], ◌∷◌, ◌++◌, length, get_or, take, drop, is_some, Some, None, Option, sym, refl, ap, ◌∙◌, ⊎_elim, one-add, arith}
use Rattle.std.proofs.lemmas.Bool.{and_parts, and_from, lt-ltb, le-ltb, le-leb, eq-eqb, ne_eqb, cond-true, cond-false, ltb-true, leb-true, eqb-true, cases_order, cases_lt, cases_eq, not-true, true≢false}
use Rattle.std.proofs.lemmas.List.Sums.{prefix_len-le-length}
use Rattle.groups.specs.declared.items.Item.{Item}
use Rattle.groups.specs.declared.items.Sign.{Sign}
use Rattle.groups.specs.declared.items.Sign.TheVariants.{Plus}
use Rattle.groups.specs.Items.{rising, sign_at, names, insert, place_of}
use Rattle.groups.specs.Groups.{takes}

-- what stands in a place that no item has taken
abbrev pub blank : Item
blank = record { plate = 0; sign = Plus }

pub record Step (low : ℕ) (x : Item) (xs : List Item) : Type 0 where
  pub above : low < x.plate
  pub upto : x.plate ≤ 2097151
  pub rest : rising x.plate xs ≡ true

pub rising_step : (low : ℕ) (x : Item) (xs : List Item) → rising low (x ∷ xs) ≡ true → Step low x xs
rising_step low x xs h =
    let a = and_parts _ _ h in
    let b = and_parts _ _ a.1 in
    record { above = ltb-true _ _ a.0; upto = leb-true _ _ b.0; rest = b.1 }

pub rising_more : (low : ℕ) (x : Item) (xs : List Item) → low < x.plate → x.plate ≤ 2097151 → rising x.plate xs ≡ true → rising low (x ∷ xs) ≡ true
rising_more low x xs l h r = and_from _ _ (lt-ltb _ _ l) (and_from _ _ (le-leb _ _ h) r)

-- what does not name a plate names it in no part
unnamed_first : (x i : Item) (xs : List Item) → sign_at (i ∷ xs) x.plate ≡ None → i.plate ≡ x.plate → ⊥
unnamed_first x i xs u e = let z : Some i.sign ≡ None = sym (cond-true _ _ _ (eq-eqb _ _ e)) ∙ u in let w : ◌≡◌ {A = ℕ} 0 1 = cc in omega arith

unnamed_rest : (x i : Item) (xs : List Item) → sign_at (i ∷ xs) x.plate ≡ None → (i.plate ≡ x.plate → ⊥) → sign_at xs x.plate ≡ None
unnamed_rest x i xs u ne = sym (cond-false _ _ _ (ne_eqb _ _ ne)) ∙ u

apart : (x i : Item) (xs : List Item) → sign_at (i ∷ xs) x.plate ≡ None → x.plate ≤ i.plate → x.plate < i.plate
apart x i xs u le = let ne = unnamed_first x i xs u in omega arith

-- of two tests that are never both true it does not matter which comes first
conds_swap : {A : Type 0} (s t : Bool) (x y z : A) → (s ≡ true → t ≡ true → ⊥) → cond s x (cond t y z) ≡ cond t y (cond s x z)
conds_swap true true x y z h = absurd (h refl refl)
conds_swap true false x y z h = refl
conds_swap false true x y z h = refl
conds_swap false false x y z h = refl

-- what rises from above p does not name p
pub unnamed_below : (p low : ℕ) (xs : List Item) → p ≤ low → rising low xs ≡ true → sign_at xs p ≡ None
unnamed_below p low [] h r = refl
unnamed_below p low (x ∷ xs) h r =
    let s = rising_step low x xs r in
    let a = s.above in
    cond-false _ _ _ (ne_eqb x.plate p (λ e. omega arith)) ∙ unnamed_below p x.plate xs (omega arith) s.rest

-- where p is looked for, one item on
place_more : (p : ℕ) (x : Item) (xs : List Item) → x.plate < p → place_of p (x ∷ xs) ≡ suc (place_of p xs)
place_more p x xs h = cond-true _ _ _ (lt-ltb _ _ h) ∙ one-add _

place_here : (p : ℕ) (x : Item) (xs : List Item) → p ≤ x.plate → place_of p (x ∷ xs) ≡ 0
place_here p x xs h = cond-false _ _ _ (le-ltb _ _ h)

-- the item that stands at the place of p
pub sign_found : (p : ℕ) (xs : List Item) (d : Item) (n : ℕ) → n ≡ place_of p xs → n < length xs → (get_or xs n d).plate ≡ p → sign_at xs p ≡ Some (get_or xs n d).sign
sign_found p [] d n e h q = absurd (omega arith)
sign_found p (x ∷ xs) d zero e h q = ⊎_elim (λ lt. absurd (omega (arith, place_more p x xs lt))) (λ le. cond-true _ _ _ (eq-eqb _ _ q)) (cases_lt x.plate p)
sign_found p (x ∷ xs) d (suc n) e h q =
    ⊎_elim
    (λ lt. cond-false _ _ _ (ne_eqb x.plate p (λ q'. omega arith)) ∙ sign_found p xs d n (omega (arith, place_more p x xs lt)) (omega arith) q)
    (λ le. absurd (omega (arith, place_here p x xs le)))
    (cases_lt x.plate p)

-- nothing else names p
pub sign_missing : (p low : ℕ) (xs : List Item) (d : Item) (n : ℕ) → rising low xs ≡ true → n ≡ place_of p xs → (n < length xs → (get_or xs n d).plate ≡ p → ⊥) → sign_at xs p ≡ None
sign_missing p low [] d n r e h = refl
sign_missing p low (x ∷ xs) d zero r e h =
    ⊎_elim
    (λ lt. absurd (omega (arith, place_more p x xs lt)))
    (λ le.
    cond-false _ _ _ (ne_eqb x.plate p (h (omega arith)))
    ∙ unnamed_below p x.plate xs le (rising_step low x xs r).rest)
    (cases_lt x.plate p)
sign_missing p low (x ∷ xs) d (suc n) r e h =
    ⊎_elim
    (λ lt.
    cond-false _ _ _ (ne_eqb x.plate p (λ q. omega arith))
    ∙ sign_missing p x.plate xs d n (rising_step low x xs r).rest (omega (arith, place_more p x xs lt)) (λ k q. h (omega arith) q))
    (λ le. absurd (omega (arith, place_here p x xs le)))
    (cases_lt x.plate p)

-- a new item goes to its place
pub insert_at : (x : Item) (xs : List Item) (n : ℕ) → n ≡ place_of x.plate xs → sign_at xs x.plate ≡ None → insert x xs ≡ take n xs ++ (x ∷ drop n xs)
insert_at x [] zero e u = refl
insert_at x [] (suc n) e u = refl
insert_at x (i ∷ xs) zero e u =
    ⊎_elim
    (λ lt. absurd (omega (arith, place_more x.plate i xs lt)))
    (λ le. cond-true _ _ _ (lt-ltb _ _ (apart x i xs u le)))
    (cases_lt i.plate x.plate)
insert_at x (i ∷ xs) (suc n) e u =
    ⊎_elim
    (λ lt.
    cond-false _ _ _ (le-ltb x.plate i.plate (omega arith))
    ∙ ap (λ l. i ∷ l) (insert_at x xs n (omega (arith, place_more x.plate i xs lt)) (unnamed_rest x i xs u (λ q. omega arith))))
    (λ le. absurd (omega (arith, place_here x.plate i xs le)))
    (cases_lt i.plate x.plate)

-- the items stay rising with a new one among them
pub insert_rises : (x : Item) (low : ℕ) (xs : List Item) → low < x.plate → x.plate ≤ 2097151 → sign_at xs x.plate ≡ None → rising low xs ≡ true → rising low (insert x xs) ≡ true
insert_rises x low [] l h u r = rising_more low x [] l h refl
insert_rises x low (i ∷ xs) l h u r =
    let s = rising_step low i xs r in
    ⊎_elim
    (λ lt.
    ap (rising low) (cond-false (ltb x.plate i.plate) (x ∷ i ∷ xs) (i ∷ insert x xs) (le-ltb x.plate i.plate (omega arith)))
    ∙ rising_more low i (insert x xs) s.above s.upto (insert_rises x i.plate xs lt h (unnamed_rest x i xs u (λ q. omega arith)) s.rest))
    (λ le.
    let lt = apart x i xs u le in
    ap (rising low) (cond-true (ltb x.plate i.plate) (x ∷ i ∷ xs) (i ∷ insert x xs) (lt-ltb _ _ lt))
    ∙ rising_more low x (i ∷ xs) l h (rising_more x.plate i xs lt s.upto s.rest))
    (cases_lt i.plate x.plate)

-- what the items say of each plate with a new one among them
pub insert_sign : (x : Item) (xs : List Item) (p : ℕ) → sign_at xs x.plate ≡ None → sign_at (insert x xs) p ≡ sign_at (x ∷ xs) p
insert_sign x [] p u = refl
insert_sign x (i ∷ xs) p u =
    ⊎_elim
    (λ lt.
    ap (λ l. sign_at l p) (cond-false (ltb x.plate i.plate) (x ∷ i ∷ xs) (i ∷ insert x xs) (le-ltb x.plate i.plate (omega arith)))
    ∙ ap (cond (eqb i.plate p) (Some i.sign)) (insert_sign x xs p (unnamed_rest x i xs u (λ q. omega arith)))
    ∙ conds_swap (eqb i.plate p) (eqb x.plate p) (Some i.sign) (Some x.sign) (sign_at xs p) (λ a b. omega (arith, eqb-true _ _ a, eqb-true _ _ b)))
    (λ le.
    ap (λ l. sign_at l p) (cond-true (ltb x.plate i.plate) (x ∷ i ∷ xs) (i ∷ insert x xs) (lt-ltb _ _ (apart x i xs u le))))
    (cases_lt i.plate x.plate)

-- a plate that the search did not find
pub unnamed : (o : Option Sign) (xs : List Item) (p : ℕ) → is_some o ≡ false → o ≡ sign_at xs p → sign_at xs p ≡ None
unnamed None xs p e q = sym q
unnamed (Some s) xs p e q = absurd (true≢false e)

-- what it is that items can take one more
pub record Taken (xs : List Item) (p : ℕ) : Type 0 where
  pub some : 0 < p
  pub high : p ≤ 2097151
  pub fresh : sign_at xs p ≡ None
  pub few : length xs < 32

pub taken : (xs : List Item) (p : ℕ) → takes xs p ≡ true → Taken xs p
taken xs p h =
    let a = and_parts _ _ h in
    let plate = and_parts _ _ a.0 in
    let b = and_parts _ _ a.1 in
    record {
      some = ltb-true _ _ plate.0;
      high = leb-true _ _ plate.1;
      fresh = unnamed (sign_at xs p) xs p (not-true (names xs p) b.0) refl;
      few = ltb-true _ _ b.1;
    }

-- a new item put into its place, as the code does it
pub put_is : (x : Item) (xs ys zs : List Item) (n : ℕ) → Taken xs x.plate → n ≡ place_of x.plate ys → ys ≡ xs → zs ≡ take n xs ++ (x ∷ drop n xs) → zs ≡ insert x xs
put_is x xs ys zs n t e same z = z ∙ sym (insert_at x xs n (e ∙ ap (place_of x.plate) same) t.fresh)

pub put_rises : (x : Item) (xs zs : List Item) → Taken xs x.plate → rising 0 xs ≡ true → zs ≡ insert x xs → rising 0 zs ≡ true
put_rises x xs zs t r is = ap (rising 0) is ∙ insert_rises x 0 xs t.some t.high t.fresh r

-- what two lists with the same first plate say of it, and of the others
first_same : (x y : Item) (xs ys : List Item) → x.plate ≡ y.plate → ((p : ℕ) → sign_at (x ∷ xs) p ≡ sign_at (y ∷ ys) p) → x ≡ y
first_same x y xs ys e h =
    let s : Some x.sign ≡ Some y.sign = sym (cond-true _ _ _ (eq-eqb x.plate x.plate refl)) ∙ h x.plate ∙ cond-true _ _ _ (eq-eqb y.plate x.plate (sym e)) in
    let t : x.sign ≡ y.sign = cc in
    λ i. record { plate = e i; sign = t i }

rest_same : (x y : Item) (xs ys : List Item) → x.plate ≡ y.plate → rising x.plate xs ≡ true → rising y.plate ys ≡ true → ((p : ℕ) → sign_at (x ∷ xs) p ≡ sign_at (y ∷ ys) p) → (p : ℕ) → sign_at xs p ≡ sign_at ys p
rest_same x y xs ys e r s h p =
    ⊎_elim
    (λ q. unnamed_below p x.plate xs (omega arith) r ∙ sym (unnamed_below p y.plate ys (omega arith) s))
    (λ q. sym (cond-false _ _ _ (ne_eqb x.plate p q)) ∙ h p ∙ cond-false _ _ _ (ne_eqb y.plate p (λ z. q (e ∙ z))))
    (cases_eq x.plate p)

-- groups that say the same of each plate are the same
pub same_signs : (low : ℕ) (xs ys : List Item) → rising low xs ≡ true → rising low ys ≡ true → ((p : ℕ) → sign_at xs p ≡ sign_at ys p) → xs ≡ ys
same_signs low [] [] r s h = refl
same_signs low [] (y ∷ ys) r s h = absurd (unnamed_first y y ys (sym (h y.plate)) refl)
same_signs low (x ∷ xs) [] r s h = absurd (unnamed_first x x xs (h x.plate) refl)
same_signs low (x ∷ xs) (y ∷ ys) r s h =
    let a = rising_step low x xs r in
    let b = rising_step low y ys s in
    ⊎_elim
    (λ e. (λ i. first_same x y xs ys e h i ∷ same_signs x.plate xs ys a.rest (ap (λ p. rising p ys) e ∙ b.rest) (rest_same x y xs ys e a.rest b.rest h) i))
    (λ d. absurd (⊎_elim
    (λ lt. unnamed_first x x xs (h x.plate ∙ unnamed_below x.plate x.plate (y ∷ ys) (omega arith) (rising_more x.plate y ys lt b.upto b.rest)) refl)
    (λ lt. unnamed_first y y ys (sym (h y.plate) ∙ unnamed_below y.plate y.plate (x ∷ xs) (omega arith) (rising_more y.plate x xs lt a.upto a.rest)) refl)
    d))
    (cases_order x.plate y.plate)
