-- The lines weighed one after the other. Assumes nothing.
use Rattle.std.proofs.Common.{◌≡◌, ℕ, ◌+◌, ◌<◌, Bool, true, false, ◌&&◌, ◌||◌, List, [], ◌∷◌, ◌++◌, length, get_or, take, is_some, Some, None, Option, Result, Ok, Err, Decides, sym, ap, ◌∙◌, subst, arith, rules, append_assoc}
use Rattle.std.specs.Result.{IsErr}
use Rattle.std.proofs.lemmas.List.{take_more}
use Rattle.std.specs.Ordering.{is_lt, nat_cmp}
use Rattle.std.proofs.lemmas.List.Elements.{All-push, Contains-get_or, Contains-append_left, Contains-append_right}
use Rattle.std.proofs.lemmas.Bool.{cond_both}
use Rattle.groups.specs.declared.items.Sign.{Sign}
use Rattle.groups.specs.declared.items.Sign.TheVariants.{Star}
use Rattle.levers.specs.declared.Levers.{Levers}
use Rattle.levers.specs.Sets.{has}
use Rattle.placed.specs.declared.Placed.{Placed}
use Rattle.placed.specs.Lacking.{lacks}
use Rattle.placed.specs.Signs.{sign_on}
use Rattle.cutting.specs.declared.search.Choice.{Choice}
use Rattle.cutting.specs.declared.search.Shown.{Shown}
use Rattle.cutting.specs.Searching.{Meets, Fails, fails, SomeMet, Weighed, Surveyed, fewer_of}

-- one more line: whichever choice is taken, its lever is free
pub one_more : (levers : Levers) (lines : List Placed) (line set : Placed) (best next : Option Choice) → Surveyed levers lines set (Ok best) → Weighed levers line set (Ok next) → Surveyed levers (lines ++ (line ∷ [])) set (Ok (fewer_of best next))
one_more levers lines line set None None s w = All-push (λ l. Fails levers l set) lines line s w
one_more levers lines line set (Some b) None s w = s
one_more levers lines line set None (Some c) s w = w
one_more levers lines line set (Some b) (Some c) s w = cond_both (is_lt (nat_cmp c.free b.free)) c b (λ o. Surveyed levers (lines ++ (line ∷ [])) set (Ok (Some o))) (λ _. w) (λ _. s)

module _ (levers : Levers) (before lines : List Placed) (set : Placed) (i : ℕ) (d : Placed) (here : i < length lines) where
  pub survey_more : (best next after : Option Choice) → Surveyed levers (before ++ take i lines) set (Ok best) → Weighed levers (get_or lines i d) set (Ok next) → after ≡ fewer_of best next → Surveyed levers (before ++ take (i + 1) lines) set (Ok after)
  survey_more best next after s w e =
      subst (λ xs. Surveyed levers xs set (Ok after)) (sym (ap (λ xs. before ++ xs) (take_more lines i d here) ∙ sym (append_assoc before (take i lines) (get_or lines i d ∷ []))))
      (subst (λ o. Surveyed levers ((before ++ take i lines) ++ (get_or lines i d ∷ [])) set (Ok o)) (sym e)
      (one_more levers (before ++ take i lines) (get_or lines i d) set best next s w))

  pub met_here : Meets levers (get_or lines i d) set → SomeMet levers (before ++ lines) set
  met_here m = record { line = get_or lines i d; member = Contains-append_right before lines (get_or lines i d) (Contains-get_or lines i d here); meets = m }

-- one that is met among the first lines is met among all
pub met_sooner : (levers : Levers) (before behind : List Placed) (set : Placed) → SomeMet levers before set → SomeMet levers (before ++ behind) set
met_sooner levers before behind set m = record { line = m.line; member = Contains-append_left before behind m.line m.member; meets = m.meets }

-- a lever that is lacking, where the group names it or the line has it at *
both_fail : (u o : Option Sign) (h x : Bool) → Decides x (o ≡ Some Star) → (h ≡ true → fails u o ≡ false) → ((lacks u o && h) && (is_some u || x)) ≡ false
both_fail u o true x d f = grind arith
both_fail u o false x d f = grind arith

-- what the sets of levers say of the line
module _ (levers : Levers) (line set : Placed) (lacking settled both : Levers) (of-lacking : (k : ℕ) → has lacking k ≡ (lacks (sign_on set k) (sign_on line k) && has levers k)) (of-both : (k : ℕ) → has both k ≡ (has lacking k && has settled k)) where
  pub weighed_fails : (stars : Levers) → ((k : ℕ) → has settled k ≡ (is_some (sign_on set k) || has stars k)) → ((k : ℕ) → Decides (has stars k) (sign_on line k ≡ Some Star)) → (((k : ℕ) → has both k ≡ false) → ⊥) → Fails levers line set
  weighed_fails stars of-settled of-stars some =
      record {
        one = λ each. some (λ k.
            of-both k
            ∙ ap (λ b. b && has settled k) (of-lacking k)
            ∙ ap (λ b. (lacks (sign_on set k) (sign_on line k) && has levers k) && b) (of-settled k)
            ∙ both_fail (sign_on set k) (sign_on line k) (has levers k) (has stars k) (of-stars k) (each k));
      }

-- a refusal says that a line is met
pub refused : (levers : Levers) (lines : List Placed) (set : Placed) (r : Result (Option Choice) Shown) → IsErr r → SomeMet levers lines set → Surveyed levers lines set r
refused levers lines set (Err e) is m = m
refused levers lines set (Ok o) is m = absurd (search rules)

pub refused_here : (levers : Levers) (before lines : List Placed) (set : Placed) (i : ℕ) (d : Placed) (r : Result (Option Choice) Shown) → i < length lines → Meets levers (get_or lines i d) set → IsErr r → Surveyed levers (before ++ lines) set r
refused_here levers before lines set i d r here m is = refused levers (before ++ lines) set r is (met_here levers before lines set i d here m)
