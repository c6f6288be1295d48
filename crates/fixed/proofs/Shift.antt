-- One more element at a place of a list's front. Assumes nothing.
use Rattle.std.proofs.Common.{⊎_elim, ◌≡◌, ℕ, ◌+◌, ◌-◌, ◌<◌, ◌≤◌, List, [], ◌∷◌, ◌++◌, length, min, take, drop, set, sym, ap, ◌∙◌, arith}
use borrow.Rule.Slice.PartMut.{put_mid}
use Rattle.std.specs.List.{between}
use Rattle.std.proofs.lemmas.List.{take_min, drop_all, take-take, take-set-le, drop-set-add, take_more_set, drop_at, take_at, drop-take, length-take-le, length-drop, length_push, length-set}
use Rattle.std.proofs.lemmas.Slice.{take-put_mid}
use Rattle.std.proofs.lemmas.Bool.{cases_lt}

module _ {X : Type 0} (xs : List X) (a m : ℕ) (x : X) (fits : a + m < length xs) where
  -- the part that is turned: the elements from a on, and the new one behind them
  part : between a (a + m + 1) (set xs (a + m) x) ≡ take m (drop a xs) ++ (x ∷ [])
  part =
      let long = length-drop a xs in
      ap (λ k. take k (drop a (set xs (a + m) x))) (omega arith)
      ∙ ap (take (m + 1)) (drop-set-add a xs m x)
      ∙ take_more_set (drop a xs) m x (omega arith)

  front_long : length (take m (drop a xs)) ≡ m
  front_long = length-take-le m (drop a xs) (let long = length-drop a xs in omega arith)

  -- its last element comes first
  turned : (ys : List X) → ys ≡ take m (drop a xs) ++ (x ∷ []) → drop (length ys - 1) ys ++ take (length ys - 1) ys ≡ x ∷ drop a (take (a + m) xs)
  turned ys e =
      let n : length ys - 1 ≡ m = omega (arith, ap length e, length_push (take m (drop a xs)) x, front_long) in
      (λ i. drop (n i) (e i) ++ take (n i) (e i))
      ∙ (λ i. drop_at (take m (drop a xs)) (x ∷ []) m front_long i ++ take_at (take m (drop a xs)) (x ∷ []) m front_long i)
      ∙ ap (λ l. x ∷ l) (sym (drop-take a m xs))

  put : (zs : List X) → zs ≡ x ∷ drop a (take (a + m) xs) → take (a + m + 1) (put_mid a (a + m + 1 - a) (set xs (a + m) x) zs) ≡ take a (take (a + m) xs) ++ (x ∷ drop a (take (a + m) xs))
  put zs e =
      let long : length zs ≡ m + 1 = omega (arith, ap length (e ∙ ap (λ l. x ∷ l) (drop-take a m xs)), front_long) in
      take-put_mid a (a + m + 1 - a) (set xs (a + m) x) zs (a + m + 1) (omega arith) (omega (arith, length-set xs (a + m) x))
      ∙ (λ i. (take-set-le a xs (a + m) x (omega arith) ∙ sym (take-take a (a + m) xs (omega arith))) i ++ e i)

-- a rotation by one puts the element behind the first n at place a
pub put_in : {X : Type 0} (xs : List X) (a n : ℕ) (x : X) (ys zs : List X) → a ≤ n → n < length xs → ys ≡ between a (n + 1) (set xs n x) → zs ≡ drop (length ys - 1) ys ++ take (length ys - 1) ys → take (n + 1) (put_mid a (n + 1 - a) (set xs n x) zs) ≡ take a (take n xs) ++ (x ∷ drop a (take n xs))
put_in xs a n x ys zs le lt ey ez = at (n - a) (omega arith) ey
  where
    at : (m : ℕ) → n ≡ a + m → ys ≡ between a (n + 1) (set xs n x) → take (n + 1) (put_mid a (n + 1 - a) (set xs n x) zs) ≡ take a (take n xs) ++ (x ∷ drop a (take n xs))
    at m e ey =
        let fits : a + m < length xs = omega arith in
        rw e (put xs a m x fits zs (ez ∙ turned xs a m x fits ys ((rw e at ey) ∙ part xs a m x fits)))

-- the same at place k, the lower of a place a and n
pub put_upto : {X : Type 0} (xs : List X) (a n k : ℕ) (x : X) (ys zs : List X) → k ≡ min a n → n < length xs → ys ≡ between k (n + 1) (set xs n x) → zs ≡ drop (length ys - 1) ys ++ take (length ys - 1) ys → take (n + 1) (put_mid k (n + 1 - k) (set xs n x) zs) ≡ take a (take n xs) ++ (x ∷ drop a (take n xs))
put_upto {X} xs a n k x ys zs is lt ey ez =
    put_in xs k n x ys zs (omega (arith, is)) lt ey ez ∙ (λ i. front i ++ (x ∷ rest i))
  where
    long : length (take n xs) ≡ n
    long = length-take-le n xs (omega arith)

    lowest : min a (length (take n xs)) ≡ k
    lowest = ap (min a) long ∙ sym is

    front : take k (take n xs) ≡ take a (take n xs)
    front = ap (λ j. take j (take n xs)) (sym lowest) ∙ take_min a (take n xs)

    rest : drop k (take n xs) ≡ drop a (take n xs)
    rest = ⊎_elim (λ l. ap (λ j. drop j (take n xs)) (omega (arith, is, l))) (λ l. drop_all k (take n xs) (omega (arith, is, l, long)) ∙ sym (drop_all a (take n xs) (omega (arith, l, long)))) (cases_lt a n)
