-- A group put behind those at the front that come before it. Assumes nothing.
use Rattle.std.proofs.Common.{◌≡◌, ℕ, ◌+◌, true, false, cond, List, [], ◌∷◌, ◌++◌, length, take, drop, sym, refl, ap, ◌∙◌, ⊎_elim, one-add, arith}
use Rattle.std.specs.Ordering.{is_lt}
use Rattle.std.specs.List.{ContainsAt as Has}
use Rattle.std.proofs.ByRecursion.{All-append, All-take, All-drop}
use Rattle.std.proofs.lemmas.List.{length-append, length-take-le, length-drop}
use Rattle.std.specs.List.{prefix_len}
use Rattle.std.proofs.lemmas.List.Sums.{prefix_len-le-length}
use Rattle.std.proofs.lemmas.Bool.{cases_Bool, cond-true, cond-false}
use Rattle.fixed.specs.Rows.{less_in_front}
use Rattle.groups.specs.declared.items.Item.{Item}
use Rattle.groups.specs.Rises.{climbing}
use Rattle.meaning.specs.Tables.{before, put_in_order}
use Rattle.meaning.proofs.Members.{has_first, has_later}
use Rattle.meaning.proofs.Order.{order_is_strict}
use Rattle.placed.specs.declared.Placed.{Placed}
use Rattle.placed.specs.Order.{order}
use Rattle.placed.specs.Signs.{Within}
use Rattle.placed.specs.Spelling.{spell}
use Rattle.placed.proofs.Ordered.{less_before}
use Rattle.placed.proofs.Spelled.{same_spelled}
use Rattle.rows.specs.Ordered.{PutsInOrder}
use Rattle.rows.specs.Rows.{spell_all, AllWithin}

-- ## Finding the place

-- how many of the groups stand at the front and come before the group g, over these plates
abbrev pub front : List ℕ → Placed → List Placed → ℕ
front ps g gs = prefix_len (λ h. before (spell ps h) (spell ps g)) gs

-- those at the front that are less than g are those that come before it, over any frame that has the levers
pub front_counts : (g : Placed) (gs : List Placed) (ps : List ℕ) → climbing 0 ps ≡ true → AllWithin (length ps) gs → Within (length ps) g → less_in_front order g gs ≡ front ps g gs
front_counts g [] ps r a w = refl
front_counts g (h ∷ gs) ps r a w =
    let first = less_before ps h g (is_lt (order h g)) r a.0 w refl in
    let others = front_counts g gs ps r a.1 w in
    λ i. cond (first i) (1 + others i) 0

-- ## Putting it there

module _ (ps : List ℕ) (g : Placed) (r : climbing 0 ps ≡ true) (w : Within (length ps) g) where
  -- put behind those, g is at its place by the order
  front_put : (gs : List Placed) → AllWithin (length ps) gs → ((h : Placed) → Has gs h → h ≡ g → ⊥) → spell_all ps (take (front ps g gs) gs ++ (g ∷ drop (front ps g gs) gs)) ≡ put_in_order (spell ps g) (spell_all ps gs)
  unfolding put_in_order
  front_put [] a other = refl
  front_put (h ∷ gs) a other = ⊎_elim (later (front_put gs a.1 (λ y m. other y (has_later h y gs m)))) here (cases_Bool (before x s))
    where
      x : List Item
      x = spell ps h

      s : List Item
      s = spell ps g

      later : spell_all ps (take (front ps g gs) gs ++ (g ∷ drop (front ps g gs) gs)) ≡ put_in_order s (spell_all ps gs) → before x s ≡ true → spell_all ps (take (front ps g (h ∷ gs)) (h ∷ gs) ++ (g ∷ drop (front ps g (h ∷ gs)) (h ∷ gs))) ≡ put_in_order s (spell_all ps (h ∷ gs))
      later e b =
          ap (λ k. spell_all ps (take k (h ∷ gs) ++ (g ∷ drop k (h ∷ gs)))) (cond-true (before x s) (1 + front ps g gs) 0 b ∙ one-add (front ps g gs))
          ∙ ap (λ t. x ∷ t) e
          ∙ sym (cond-true (before x s) (x ∷ put_in_order s (spell_all ps gs)) (x ∷ spell_all ps gs) b)
          ∙ sym (cond-false (before s x) (s ∷ x ∷ spell_all ps gs) (cond (before x s) (x ∷ put_in_order s (spell_all ps gs)) (x ∷ spell_all ps gs)) (⊎_elim (λ f. absurd (order_is_strict.one_way x s b f)) (λ f. f) (cases_Bool (before s x))))

      here : before x s ≡ false → spell_all ps (take (front ps g (h ∷ gs)) (h ∷ gs) ++ (g ∷ drop (front ps g (h ∷ gs)) (h ∷ gs))) ≡ put_in_order s (spell_all ps (h ∷ gs))
      here b =
          ap (λ k. spell_all ps (take k (h ∷ gs) ++ (g ∷ drop k (h ∷ gs)))) (cond-false (before x s) (1 + front ps g gs) 0 b)
          ∙ sym (cond-true (before s x) (s ∷ x ∷ spell_all ps gs) (cond (before x s) (x ∷ put_in_order s (spell_all ps gs)) (x ∷ spell_all ps gs)) (⊎_elim (λ f. f) (λ f. absurd (other h (has_first h gs) (same_spelled ps h g r a.0 w (order_is_strict.total x s b f)))) (cases_Bool (before s x))))

pub puts_in_order : PutsInOrder
puts_in_order g old =
    let k = less_in_front order g old in
    record {
      over = λ ps r a w other. ap (λ j. spell_all ps (take j old ++ (g ∷ drop j old))) (front_counts g old ps r a w) ∙ front_put ps g r w old a other;
      within = λ n a w. All-append (Within n) (take k old) (g ∷ drop k old) (All-take (Within n) k old a) (w, All-drop (Within n) k old a);
      count =
          length-append (take k old) (g ∷ drop k old)
          ∙ (let inside = prefix_len-le-length (λ h. is_lt (order h g)) old in omega (arith, inside, length-take-le k old inside, length-drop k old));
    }
