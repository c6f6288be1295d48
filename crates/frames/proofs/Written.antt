-- Items that are spelled plate by plate. Assumes nothing.
use Rattle.std.proofs.Common.{◌≡◌, ℕ, suc, ◌+◌, ◌<◌, ◌≤◌, Bool, true, cond, not, List, [], ◌∷◌, ◌++◌, length, get_or, take, is_some, Some, None, Option, sym, ap, ◌∙◌, arith}
use Rattle.std.proofs.lemmas.List.{append-nil, append_assoc, take_more, length-take-le}
use Rattle.std.proofs.lemmas.Bool.{lt-ltb, le-leb, and_from, cond-true}
use Rattle.groups.specs.declared.items.Item.{Item}
use Rattle.groups.specs.declared.items.Sign.{Sign}
use Rattle.groups.specs.Groups.{takes}
use Rattle.groups.specs.Items.{rising, insert}
use Rattle.placed.specs.declared.Placed.{Placed}
use Rattle.groups.specs.Rises.{climbing, item_if}
use Rattle.placed.specs.Signs.{sign_on}
use Rattle.placed.specs.Spelling.{spell_from, spell}
use Rattle.placed.proofs.Spelled.{spelled_rises}
use Rattle.frames.proofs.Fitting.{climbing_take}
use Rattle.frames.proofs.Items.{last}

push_from : (k : ℕ) (ps : List ℕ) (p : ℕ) (g : Placed) → spell_from k (ps ++ (p ∷ [])) g ≡ spell_from k ps g ++ item_if p (sign_on g (k + length ps))
push_from k [] p g = append-nil (item_if p (sign_on g k)) ∙ ap (λ n. item_if p (sign_on g n)) (let e : k ≡ k + 0 = omega arith in e)
push_from k (q ∷ qs) p g =
    ap (λ xs. item_if q (sign_on g k) ++ xs) (push_from (suc k) qs p g ∙ ap (λ n. spell_from (suc k) qs g ++ item_if p (sign_on g n)) (let e : suc k + length qs ≡ k + suc (length qs) = omega arith in e))
    ∙ sym (append_assoc (item_if q (sign_on g k)) (spell_from (suc k) qs g) (item_if p (sign_on g (k + suc (length qs)))))

-- no more items than plates
item_few : (o : Option Sign) (p n : ℕ) (xs : List Item) → length xs ≤ n → length (item_if p o ++ xs) ≤ suc n
item_few None p n xs l = omega arith
item_few (Some s) p n xs l = omega arith

pub few_from : (k : ℕ) (ps : List ℕ) (g : Placed) → length (spell_from k ps g) ≤ length ps
few_from k [] g = omega arith
few_from k (p ∷ ps) g = item_few (sign_on g k) p (length ps) (spell_from (suc k) ps g) (few_from (suc k) ps g)

module _ (ps : List ℕ) (n : ℕ) (g : Placed) (l : n < length ps) where
  -- the items of one plate more
  pub spell_more : spell (take (n + 1) ps) g ≡ spell (take n ps) g ++ item_if (get_or ps n 0) (sign_on g n)
  spell_more =
      ap (λ qs. spell qs g) (take_more ps n 0 l)
      ∙ push_from 0 (take n ps) (get_or ps n 0) g
      ∙ ap (λ k. spell (take n ps) g ++ item_if (get_or ps n 0) (sign_on g k)) (let e : 0 + length (take n ps) ≡ n = omega (arith, length-take-le n ps (omega arith)) in e)

  pub spell_skip : sign_on g n ≡ None → spell (take n ps) g ≡ spell (take (n + 1) ps) g
  spell_skip u = sym (spell_more ∙ ap (λ o. spell (take n ps) g ++ item_if (get_or ps n 0) o) u ∙ append-nil (spell (take n ps) g))

  -- an item that is put in goes behind the others
  pub spell_put : (s : Sign) → climbing 0 ps ≡ true → n < 32 → sign_on g n ≡ Some s → (xs ys : List Item) (r : Bool) → xs ≡ spell (take n ps) g → r ≡ takes xs (get_or ps n 0) → ys ≡ cond r (insert (record { plate = get_or ps n 0; sign = s }) xs) xs → ys ≡ spell (take (n + 1) ps) g
  spell_put s climbs few has xs ys r e t a =
      let x : Item = record { plate = get_or ps n 0; sign = s } in
      let more : spell (take (n + 1) ps) g ≡ xs ++ (x ∷ []) = spell_more ∙ (λ z. sym e z ++ item_if (get_or ps n 0) (has z)) in
      let z = last 0 xs x (sym (ap (rising 0) more) ∙ spelled_rises (take (n + 1) ps) g (climbing_take 0 ps (n + 1) climbs)) in
      let long : length xs < 32 = omega (arith, ap length e, few_from 0 (take n ps) g, length-take-le n ps (omega arith)) in
      let taken = and_from _ _ (and_from _ _ (lt-ltb 0 (get_or ps n 0) z.above) (le-leb (get_or ps n 0) 2097151 z.upto)) (and_from _ _ (ap (λ o. not (is_some o)) z.unnamed) (lt-ltb (length xs) 32 long)) in
      a ∙ cond-true r _ _ (t ∙ taken) ∙ z.goes ∙ sym more
