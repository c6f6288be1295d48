-- A group with another sign, or none, on one fitted plate. Assumes nothing.
use Rattle.std.proofs.Common.{◌≡◌, ℕ, true, false, cond, eqb, List, None, Option, sym, refl, ap, ◌∙◌}
use Rattle.std.proofs.lemmas.Bool.{eq-eqb, ne_eqb, cond-true, cond-false, both_ways}
use Rattle.groups.specs.declared.items.Item.{Item}
use Rattle.groups.specs.declared.items.Sign.{Sign}
use Rattle.groups.specs.Items.{sign_at}
use Rattle.groups.specs.Rises.{climbing, items_on}
use Rattle.meaning.specs.Frames.{is_one_of, group_over}
use Rattle.meaning.proofs.Ends.{ends, Within}
use Rattle.meaning.proofs.Fitted.{over_parts, items_all, unfitted_none}
use Rattle.meaning.proofs.Combining.{within_all}

abbrev pub given_sign : List Item → ℕ → Option Sign → ℕ → Option Sign
given_sign g x o p = cond (eqb p x) o (sign_at g p)

abbrev pub given : List ℕ → List Item → ℕ → Option Sign → List Item
given ps g x o = items_on (given_sign g x o) ps

module _ (ps : List ℕ) (g : List Item) (x : ℕ) (o : Option Sign) (c : climbing 0 ps ≡ true) (v : group_over ps g ≡ true) (m : is_one_of ps x ≡ true) where
  outside : (p : ℕ) → is_one_of ps p ≡ false → given_sign g x o p ≡ None
  outside p u =
      cond-false (eqb p x) o (sign_at g p) (ne_eqb p x (λ e. both_ways (is_one_of ps p) u (ap (is_one_of ps) e ∙ m)))
      ∙ unfitted_none ps g (over_parts ps g v).fitted p u

  pub given_here : sign_at (given ps g x o) x ≡ o
  given_here = items_all (given_sign g x o) ps c outside x ∙ cond-true (eqb x x) o (sign_at g x) (eq-eqb x x refl)

  pub given_other : (p : ℕ) → (p ≡ x → ⊥) → sign_at (given ps g x o) p ≡ sign_at g p
  given_other p ne = items_all (given_sign g x o) ps c outside p ∙ cond-false (eqb p x) o (sign_at g p) (ne_eqb p x ne)

  -- what had fewer ends on that plate is within it
  pub given_more : Within (sign_at g x) o → (p : ℕ) → Within (sign_at g p) (sign_at (given ps g x o) p)
  given_more w =
      within_all g (sign_at (given ps g x o)) x
      (λ e q. ap (λ s. ends s e) given_here ∙ w e q)
      (λ p ne e q. ap (λ s. ends s e) (given_other p ne) ∙ q)

  -- what had more ends on that plate has it within
  pub given_less : Within o (sign_at g x) → (p : ℕ) → Within (sign_at (given ps g x o) p) (sign_at g p)
  given_less w =
      within_all (given ps g x o) (sign_at g) x
      (λ e q. w e (ap (λ s. ends s e) (sym given_here) ∙ q))
      (λ p ne e q. ap (λ s. ends s e) (sym (given_other p ne)) ∙ q)
