-- The plates that a group has with *, one place after the other, and that a crew can be asked about them. Assumes nothing.
use Rattle.std.proofs.Common.{◌≡◌, ℕ, ◌+◌, ◌<◌, ◌≤◌, Bool, true, false, cond, List, [], ◌∷◌, ◌++◌, map, length, get_or, take, filter, Option, refl, ap, ◌∙◌, arith}
use Rattle.std.proofs.lemmas.List.Elements.{filter-append}
use Rattle.std.proofs.lemmas.List.{map-append, append-nil}
use Rattle.std.proofs.lemmas.Bool.{and_from, le-leb}
use Rattle.groups.specs.declared.items.Item.{Item}
use Rattle.groups.specs.declared.items.Sign.{Sign}
use Rattle.groups.specs.Items.{rising}
use Rattle.groups.specs.Rises.{climbing, item_if}
use Rattle.groups.proofs.Rising.{rising_step}
use Rattle.groups.proofs.Climbing.{climbing_more}
use Rattle.meaning.specs.Crews.{askable}
use Rattle.meaning.specs.Frames.{is_star, starred, stars}
use Rattle.placed.specs.declared.Placed.{Placed}
use Rattle.placed.specs.Signs.{sign_on}
use Rattle.placed.specs.Spelling.{spell}
use Rattle.placed.proofs.Spelled.{spelled_rises}
use Rattle.frames.proofs.Written.{spell_more, few_from}

stars_append : (xs ys : List Item) → stars (xs ++ ys) ≡ stars xs ++ stars ys
stars_append xs ys = ap (map (λ i. i.plate)) (filter-append (λ i. is_star i.sign) xs ys) ∙ map-append (λ i. i.plate) (filter (λ i. is_star i.sign) xs) (filter (λ i. is_star i.sign) ys)

star_item : (p : ℕ) (o : Option Sign) → starred o ≡ true → stars (item_if p o) ≡ p ∷ []
star_item p o h = grind arith

other_item : (p : ℕ) (o : Option Sign) → starred o ≡ false → stars (item_if p o) ≡ []
other_item p o h = grind arith

module _ (ps : List ℕ) (n : ℕ) (g : Placed) (l : n < length ps) where
  pub stars_more : starred (sign_on g n) ≡ true → stars (spell (take (n + 1) ps) g) ≡ stars (spell (take n ps) g) ++ (get_or ps n 0 ∷ [])
  stars_more h = ap stars (spell_more ps n g l) ∙ stars_append (spell (take n ps) g) (item_if (get_or ps n 0) (sign_on g n)) ∙ ap (λ xs. stars (spell (take n ps) g) ++ xs) (star_item (get_or ps n 0) (sign_on g n) h)

  pub stars_same : starred (sign_on g n) ≡ false → stars (spell (take (n + 1) ps) g) ≡ stars (spell (take n ps) g)
  stars_same h = ap stars (spell_more ps n g l) ∙ stars_append (spell (take n ps) g) (item_if (get_or ps n 0) (sign_on g n)) ∙ ap (λ xs. stars (spell (take n ps) g) ++ xs) (other_item (get_or ps n 0) (sign_on g n) h) ∙ append-nil (stars (spell (take n ps) g))

-- the plates with * of a group rise, and are no more than its items
stars_climb : (low high : ℕ) (xs : List Item) → low ≤ high → rising high xs ≡ true → climbing low (stars xs) ≡ true
stars_climb low high [] h r = refl
stars_climb low high (i ∷ xs) h r =
    let s = rising_step high i xs r in
    let a = s.above in
    go (is_star i.sign) (omega arith) s.upto (stars_climb i.plate i.plate xs (omega arith) s.rest) (stars_climb low i.plate xs (omega arith) s.rest)
  where
    go : (t : Bool) → low < i.plate → i.plate ≤ 2097151 → climbing i.plate (stars xs) ≡ true → climbing low (stars xs) ≡ true → climbing low (map (λ x. x.plate) (cond t (i ∷ filter (λ x. is_star x.sign) xs) (filter (λ x. is_star x.sign) xs))) ≡ true
    go true l u with_it without-it = climbing_more low i.plate (stars xs) l u with_it
    go false l u with_it without-it = without-it

stars_few : (xs : List Item) → length (stars xs) ≤ length xs
stars_few [] = omega arith
stars_few (i ∷ xs) = go (is_star i.sign) (stars_few xs)
  where
    go : (t : Bool) → length (stars xs) ≤ length xs → length (map (λ x. x.plate) (cond t (i ∷ filter (λ x. is_star x.sign) xs) (filter (λ x. is_star x.sign) xs))) ≤ length (i ∷ xs)
    go true l = omega arith
    go false l = omega arith

pub stars_askable : (ps : List ℕ) (g : Placed) → climbing 0 ps ≡ true → length ps ≤ 32 → askable (stars (spell ps g)) ≡ true
stars_askable ps g c l =
    and_from _ _
    (le-leb (length (stars (spell ps g))) 32 (omega (arith, stars_few (spell ps g), few_from 0 ps g)))
    (stars_climb 0 0 (spell ps g) (omega arith) (spelled_rises ps g c))
