-- Combinations: what they follow from, and that they can be made. Assumes nothing.
use Rattle.std.proofs.Common.{◌≡◌, ℕ, true, false, cond, eqb, ◌⊎◌, List, is_some, Some, None, Option, sym, refl, ap, ◌∙◌, subst, inl, inr, ⊎_elim}
use Rattle.std.proofs.lemmas.Bool.{and_from, or_cases, or_left, or_right, eq-eqb, ne_eqb, cond-true, cond-false, cond_both, cases_eq}
use Rattle.groups.specs.declared.items.Item.{Item}
use Rattle.groups.specs.declared.items.Sign.{Sign}
use Rattle.groups.specs.declared.items.Sign.TheVariants.{Plus, Minus}
use Rattle.groups.specs.Items.{sign_at, names, joint, Combination}
use Rattle.groups.specs.Rises.{climbing, items_on}
use Rattle.meaning.specs.States.{State, normal, reversed, between, shows}
use Rattle.meaning.specs.Frames.{is_one_of, group_over}
use Rattle.meaning.specs.Laws.{CombinationFollows, CombinationIsForbidden}
use Rattle.meaning.specs.Shown.{sign_for}
use Rattle.meaning.proofs.Ends.{ends, Within, states_of, shows_has, has_shows, joint_ends}
use Rattle.meaning.proofs.Fitted.{over_parts, items_all, items_over, unfitted_none, fitted_names, names_fitted}
use Rattle.meaning.proofs.Resting.{forbidden_excluded, excluded_forbidden}

-- each end is within, at the lever x and at all others
pub within_all : (a : List Item) (signs : ℕ → Option Sign) (x : ℕ) → Within (sign_at a x) (signs x) → ((p : ℕ) → (p ≡ x → ⊥) → Within (sign_at a p) (signs p)) → (p : ℕ) → Within (sign_at a p) (signs p)
within_all a signs x hx h p =
    ⊎_elim
    (λ same. subst (λ n. Within (sign_at a n) (signs n)) (sym same) hx)
    (λ ne. h p ne)
    (cases_eq p x)

-- at all levers but x, each end of the two groups is one of their combination
pub first_within : (x : ℕ) (a b c : List Item) → Combination x a b c → (p : ℕ) → (p ≡ x → ⊥) → Within (sign_at a p) (sign_at c p)
first_within x a b c k p ne e q = ap (λ o. ends o e) (k.others p ne) ∙ joint_ends (sign_at a p) (sign_at b p) e ∙ or_left (ends (sign_at a p) e) (ends (sign_at b p) e) q

pub second_within : (x : ℕ) (a b c : List Item) → Combination x a b c → (p : ℕ) → (p ≡ x → ⊥) → Within (sign_at b p) (sign_at c p)
second_within x a b c k p ne e q = ap (λ o. ends o e) (k.others p ne) ∙ joint_ends (sign_at a p) (sign_at b p) e ∙ or_right (ends (sign_at a p) e) (ends (sign_at b p) e) q

-- a lever is at its upper end, or at its lower, or at both
at_an_end : (y : State) → (Within (Some Plus) (Some (sign_for y))) ⊎ (Within (Some Minus) (Some (sign_for y)))
at_an_end normal = inl (λ e q. q)
at_an_end reversed = inr (λ e q. q)
at_an_end between = inl (λ e q. refl)

pub combination_follows : CombinationFollows
combination_follows x a b c ra rb k s v =
    ⊎_elim
    (λ w. or_left (shows s a) (shows s b) (has_shows s a ra (within_all a (states_of s) x (subst (λ o. Within o (states_of s x)) (sym k.plus) w) (λ p ne e q. shows_has s c v p e (first_within x a b c k p ne e q)))))
    (λ w. or_right (shows s a) (shows s b) (has_shows s b rb (within_all b (states_of s) x (subst (λ o. Within o (states_of s x)) (sym k.minus) w) (λ p ne e q. shows_has s c v p e (second_within x a b c k p ne e q)))))
    (at_an_end (s x))

-- a combination names what one of its groups names
joint_some : (o u : Option Sign) → is_some (joint o u) ≡ true → (is_some o ≡ true) ⊎ (is_some u ≡ true)
joint_some None u h = inr h
joint_some (Some s) u h = inl refl

combination_names : (x : ℕ) (a b c : List Item) → Combination x a b c → (p : ℕ) → names c p ≡ true → (names a p ≡ true) ⊎ (names b p ≡ true)
combination_names x a b c k p n =
    ⊎_elim
    (λ same. inl (ap (λ q. is_some (sign_at a q)) same ∙ ap is_some k.plus))
    (λ ne. joint_some (sign_at a p) (sign_at b p) (ap is_some (sym (k.others p ne)) ∙ n))
    (cases_eq p x)

pub combination_over : (ps : List ℕ) (x : ℕ) (a b c : List Item) → group_over ps a ≡ true → group_over ps b ≡ true → Combination x a b c → group_over ps c ≡ true
combination_over ps x a b c oa ob k =
    and_from _ _ k.spelled
    (names_fitted ps c (λ p n.
    ⊎_elim
    (λ m. fitted_names ps a (over_parts ps a oa).fitted p m)
    (λ m. fitted_names ps b (over_parts ps b ob).fitted p m)
    (combination_names x a b c k p n)))

pub combination_is_forbidden : CombinationIsForbidden
combination_is_forbidden f sound x a b c fa fb k m =
    excluded_forbidden f c (combination_over f.plates x a b c fa.fitted fb.fitted k) m (λ s v.
    ⊎_elim
    (λ w. forbidden_excluded f sound a fa s w)
    (λ w. forbidden_excluded f sound b fb s w)
    (or_cases (shows s a) (shows s b) (combination_follows x a b c (over_parts f.plates a fa.fitted).rises (over_parts f.plates b fb.fitted).rises k s v)))

-- the combination of two groups over fitted plates
abbrev pub joined_sign : ℕ → List Item → List Item → ℕ → Option Sign
joined_sign x a b p = cond (eqb p x) None (joint (sign_at a p) (sign_at b p))

joined_outside : (ps : List ℕ) (x : ℕ) (a b : List Item) → group_over ps a ≡ true → group_over ps b ≡ true → (p : ℕ) → is_one_of ps p ≡ false → joined_sign x a b p ≡ None
joined_outside ps x a b oa ob p u =
    let na = unfitted_none ps a (over_parts ps a oa).fitted p u in
    let nb = unfitted_none ps b (over_parts ps b ob).fitted p u in
    cond_both (eqb p x) None (joint (sign_at a p) (sign_at b p)) (λ o. o ≡ None) (λ _. refl) (λ _ i. joint (na i) (nb i))

pub combined : (ps : List ℕ) (x : ℕ) (a b : List Item) → climbing 0 ps ≡ true → group_over ps a ≡ true → group_over ps b ≡ true → sign_at a x ≡ Some Plus → sign_at b x ≡ Some Minus → Combination x a b (items_on (joined_sign x a b) ps)
combined ps x a b c oa ob pa mb =
    let sign = items_all (joined_sign x a b) ps c (joined_outside ps x a b oa ob) in
    record {
      plus = pa;
      minus = mb;
      spelled = (over_parts ps (items_on (joined_sign x a b) ps) (items_over (joined_sign x a b) ps c)).rises;
      dropped = sign x ∙ cond-true _ _ _ (eq-eqb x x refl);
      others = λ p ne. sign p ∙ cond-false _ _ _ (ne_eqb p x ne);
    }
