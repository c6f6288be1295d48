-- What is read off the table of a group is read off it of each group that it covers. Assumes nothing.
use Rattle.std.proofs.Common.{◌≡◌, ℕ, ◌<◌, ◌≤◌, true, false, not, ◌&&◌, eqb, ◌⊎◌, List, [], ◌∷◌, is_some, Some, None, Option, sym, refl, ap, ◌∙◌, inl, inr, ⊎_elim, arith}
use Rattle.std.specs.List.{ContainsAt as Has, AllByRecursion}
use Rattle.std.proofs.lemmas.Bool.{and_parts, and_from, or_cases, or_left, or_right, eq-eqb, ne_eqb, cond-true, cond-false, cases_Bool, false≢true, not-true}
use Rattle.groups.specs.declared.items.Item.{Item}
use Rattle.groups.specs.declared.items.Sign.{Sign}
use Rattle.groups.specs.Items.{rising, sign_at, names, insert, sits, covers}
use Rattle.groups.proofs.Rising.{insert_rises, insert_sign}
use Rattle.meaning.specs.Frames.{group_over}
use Rattle.meaning.specs.Tables.{covered_by}
use Rattle.meaning.specs.Laws.{opposite, covered_with, settled, all_settled, read_off}
use Rattle.meaning.proofs.Ends.{ends, Within, sits_within, within_sits, covers_has, has_covers}
use Rattle.meaning.proofs.Combining.{within_all}
use Rattle.meaning.proofs.Covered.{covered_trans}
use Rattle.meaning.proofs.Fitted.{over_parts, unnamed_none}
use Rattle.meaning.proofs.Members.{has_first, has_later}
use Rattle.meaning.proofs.OneMore.{rising_item}

-- ## A group with one more item

module _ (j : Item) (g : List Item) (n : sign_at g j.plate ≡ None) where
  insert_here : sign_at (insert j g) j.plate ≡ Some j.sign
  insert_here = insert_sign j g j.plate n ∙ cond-true (eqb j.plate j.plate) (Some j.sign) (sign_at g j.plate) (eq-eqb j.plate j.plate refl)

  insert_other : (q : ℕ) → (q ≡ j.plate → ⊥) → sign_at (insert j g) q ≡ sign_at g q
  insert_other q ne = insert_sign j g q n ∙ cond-false (eqb j.plate q) (Some j.sign) (sign_at g q) (ne_eqb j.plate q (λ e. ne (sym e)))

  -- it covers what the group covers and has the item
  insert_covers : (h : List Item) → rising 0 (insert j g) ≡ true → covers g h ≡ true → Within (Some j.sign) (sign_at h j.plate) → covers (insert j g) h ≡ true
  insert_covers h r c w =
      has_covers (insert j g) h r
      (within_all (insert j g) (sign_at h) j.plate
      (λ e q. w e (ap (λ o. ends o e) (sym insert_here) ∙ q))
      (λ p ne e q. covers_has g h c p e (ap (λ o. ends o e) (sym (insert_other p ne)) ∙ q)))

  -- the group covers it
  covers_insert : rising 0 g ≡ true → covers g (insert j g) ≡ true
  covers_insert r =
      has_covers g (insert j g) r
      (within_all g (sign_at (insert j g)) j.plate
      (λ e q. absurd (false≢true (sym (ap (λ o. ends o e) n) ∙ q)))
      (λ p ne e q. ap (λ o. ends o e) (insert_other p ne) ∙ q))

-- the one sign that a sign does not sit on, and that is not *, is its opposite
only_opposite : (s u v : Sign) → opposite s ≡ Some u → sits s (Some v) ≡ false → v ≡ u
only_opposite s u v e h = grind arith

module _ (ps : List ℕ) (t : List (List Item)) (over : AllByRecursion (λ g. group_over ps g ≡ true) t) (l : List Item) (rises : rising 0 l ≡ true) (x h : List Item) (ox : group_over ps x ≡ true) (oh : group_over ps h ≡ true) (c : covers x h ≡ true) where
  item_more : (i : Item) → Has l i → settled t x i ≡ true → (covered_by t h ≡ true) ⊎ (settled t h i ≡ true)
  item_more i m k =
      ⊎_elim
      (λ s. inr (or_left (sits i.sign (sign_at h i.plate)) (not (names h i.plate) && covered_with t h i.plate (opposite i.sign)) (within_sits i.sign (sign_at h i.plate) (λ e q. covers_has x h c i.plate e (sits_within i.sign (sign_at x i.plate) s e q)))))
      (λ s. let parts = and_parts (not (names x i.plate)) (covered_with t x i.plate (opposite i.sign)) s in with_opposite (unnamed_none x i.plate (not-true (names x i.plate) parts.0)) (opposite i.sign) refl parts.1)
      (or_cases (sits i.sign (sign_at x i.plate)) (not (names x i.plate) && covered_with t x i.plate (opposite i.sign)) k)
    where
      bounds : (0 < i.plate) × (i.plate ≤ 2097151)
      bounds = rising_item 0 l rises i m

      inserted : (u : Sign) (g : List Item) → group_over ps g ≡ true → sign_at g i.plate ≡ None → rising 0 (insert (record { plate = i.plate; sign = u }) g) ≡ true
      inserted u g o n = insert_rises (record { plate = i.plate; sign = u }) 0 g bounds.0 bounds.1 n (over_parts ps g o).rises

      at_sign : sign_at x i.plate ≡ None → (u : Sign) → opposite i.sign ≡ Some u → covered_by t (insert (record { plate = i.plate; sign = u }) x) ≡ true → sits i.sign (sign_at h i.plate) ≡ false → (o : Option Sign) → sign_at h i.plate ≡ o → (covered_by t h ≡ true) ⊎ (settled t h i ≡ true)
      at_sign nx u e k' q None n =
          let j : Item = record { plate = i.plate; sign = u } in
          inr (or_right (sits i.sign (sign_at h i.plate)) (not (names h i.plate) && covered_with t h i.plate (opposite i.sign))
          (and_from _ _ (ap (λ o. not (is_some o)) n)
          (ap (covered_with t h i.plate) e
          ∙ covered_trans ps t (insert j x) (insert j h) over k'
          (insert_covers j x nx (insert j h) (inserted u x ox nx)
          (has_covers x (insert j h) (over_parts ps x ox).rises (λ p d z. covers_has h (insert j h) (covers_insert j h n (over_parts ps h oh).rises) p d (covers_has x h c p d z)))
          (λ d z. ap (λ o. ends o d) (insert_here j h n) ∙ z)))))
      at_sign nx u e k' q (Some v) n =
          let j : Item = record { plate = i.plate; sign = u } in
          inl (covered_trans ps t (insert j x) h over k'
          (insert_covers j x nx h (inserted u x ox nx) c
          (λ d z. ap (λ o. ends o d) (n ∙ ap Some (only_opposite i.sign u v e (ap (sits i.sign) (sym n) ∙ q))) ∙ z)))

      with_opposite : sign_at x i.plate ≡ None → (o : Option Sign) → opposite i.sign ≡ o → covered_with t x i.plate o ≡ true → (covered_by t h ≡ true) ⊎ (settled t h i ≡ true)
      with_opposite nx None e k' = absurd (false≢true k')
      with_opposite nx (Some u) e k' =
          ⊎_elim
          (λ q. inr (or_left (sits i.sign (sign_at h i.plate)) (not (names h i.plate) && covered_with t h i.plate (opposite i.sign)) q))
          (λ q. at_sign nx u e k' q (sign_at h i.plate) refl)
          (cases_Bool (sits i.sign (sign_at h i.plate)))

  items_more : (k : List Item) → ((i : Item) → Has k i → Has l i) → all_settled t x k ≡ true → (covered_by t h ≡ true) ⊎ (all_settled t h k ≡ true)
  items_more [] sub a = inr refl
  items_more (i ∷ k) sub a =
      let parts = and_parts (settled t x i) (all_settled t x k) a in
      ⊎_elim inl
      (λ p. ⊎_elim inl (λ q. inr (and_from _ _ p q)) (items_more k (λ j m. sub j (has_later i j k m)) parts.1))
      (item_more i (sub i (has_first i k)) parts.0)

  pub read_more : read_off t l x ≡ true → read_off t l h ≡ true
  read_more r =
      ⊎_elim
      (λ a. or_left (covered_by t h) (all_settled t h l) (covered_trans ps t x h over a c))
      (λ a. ⊎_elim (λ b. or_left (covered_by t h) (all_settled t h l) b) (λ b. or_right (covered_by t h) (all_settled t h l) b) (items_more l (λ i m. m) a))
      (or_cases (covered_by t x) (all_settled t x l) r)
