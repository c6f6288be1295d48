-- Signs read off the two ends of a lever. Assumes nothing.
use Rattle.std.proofs.Common.{◌≡◌, ℕ, ◌^◌, ◌<◌, Bool, true, false, cond, not, ◌&&◌, eqb, ltb, Some, None, Decides, Option, sym, ap, ◌∙◌, arith}
use Rattle.std.proofs.lemmas.Bool.{and_parts, and_from, eq-eqb, eqb-true}
use Rattle.std.proofs.lemmas.Bool.Decides.{nat_tests}
use Rattle.groups.specs.declared.items.Sign.{Sign}
use Rattle.groups.specs.Items.{sits}
use Rattle.levers.specs.declared.Levers.{Levers}
use Rattle.levers.specs.Sets.{has}
use Rattle.levers.proofs.Members.{same_sets, none_high}
use Rattle.placed.specs.declared.Placed.{Placed}
use Rattle.placed.specs.Signs.{sign_of, sign_on}

-- what a group without a lever says of it sits on all
abbrev pub sits_if : Option Sign → Option Sign → Bool
sits_if None t = true
sits_if (Some s) t = sits s t

-- each end of the one is an end of the other
pub ends_sit : (u d v e : Bool) → (u ≡ true → v ≡ true) → (d ≡ true → e ≡ true) → sits_if (sign_of u d) (sign_of v e) ≡ true
ends_sit u d v e a b = grind arith

pub sits_up : (u d v e : Bool) → sits_if (sign_of u d) (sign_of v e) ≡ true → u ≡ true → v ≡ true
sits_up u d v e s a = grind arith

pub sits_down : (u d v e : Bool) → sits_if (sign_of u d) (sign_of v e) ≡ true → d ≡ true → e ≡ true
sits_down u d v e s a = grind arith

-- what stands at both ends
pub same_ends : (u d v e : Bool) → sign_of u d ≡ sign_of v e → (u ≡ v) × (d ≡ e)
same_ends u d v e s = (grind arith, grind arith)

-- groups that give each place the same sign are the same
pub same_groups : (g h : Placed) → ((k : ℕ) → sign_on g k ≡ sign_on h k) → g ≡ h
same_groups g h s =
    let ends = (λ (k : ℕ). same_ends (has g.up k) (has g.down k) (has h.up k) (has h.down k) (s k)) in
    let u = same_sets g.up h.up (λ k. (ends k).0) in
    let d = same_sets g.down h.down (λ k. (ends k).1) in
    λ i. record { up = u i; down = d i }

-- what `==` on two groups says
pub equal_groups : (r : Bool) (g h : Placed) → r ≡ (eqb g.up.bits h.up.bits && eqb g.down.bits h.down.bits) → Decides r (g ≡ h)
equal_groups r g h e = (
  (λ t.
      let b = and_parts _ _ (sym e ∙ t) in
      let u = eqb-true _ _ b.0 in
      let d = eqb-true _ _ b.1 in
      λ i. record { up = record { bits = u i }; down = record { bits = d i } }),
  (λ q. e ∙ and_from _ _ (eq-eqb _ _ (ap (λ x. x.up.bits) q)) (eq-eqb _ _ (ap (λ x. x.down.bits) q))),
)

-- a place from 32 on is in no set, so taking it out is taking out none
pub taken_out : (s : Levers) (p k : ℕ) → s.bits < 2 ^ 32 → (has s k && not (eqb k p)) ≡ cond (eqb k p && ltb p 32) false (has s k)
taken_out s p k h = grind (arith, nat_tests, none_high s k h)

-- what stands in a place of a list of groups that no group has taken
abbrev pub blank : Placed
blank = record { up = record { bits = 0 }; down = record { bits = 0 } }
