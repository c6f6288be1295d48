-- The method is complete: a forbidden group is covered, by going through the levers that it does not name. Assumes nothing.
use Rattle.std.proofs.Common.{◌≡◌, ℕ, true, false, eqb, ◌⊎◌, List, [], ◌∷◌, is_some, Some, None, Option, sym, refl, ap, ◌∙◌, inl, inr, ⊎_elim, arith}
use Rattle.std.specs.List.{ContainsAt as Has}
use Rattle.std.proofs.ByRecursion.{all-has}
use Rattle.std.proofs.lemmas.Bool.{or_cases, or_left, or_right, eq-eqb, eqb-true, cases_eq, cases_Bool, false≢true}
use Rattle.groups.specs.declared.items.Item.{Item}
use Rattle.groups.specs.declared.items.Sign.{Sign}
use Rattle.groups.specs.declared.items.Sign.TheVariants.{Plus, Minus, Star}
use Rattle.groups.specs.Items.{sign_at, names, covers}
use Rattle.groups.specs.Rises.{items_on}
use Rattle.meaning.specs.States.{normal, Setting}
use Rattle.meaning.specs.Frames.{Frame, Sound, is_one_of, group_over, is_star, Forbidden, starred}
use Rattle.meaning.specs.Tables.{covered_by}
use Rattle.meaning.specs.Laws.{Closed, MethodIsComplete}
use Rattle.meaning.specs.Shown.{sign_for}
use Rattle.meaning.proofs.Ends.{upper, lower, ends, Within, covers_has, has_covers, shows_has, joint_ends}
use Rattle.meaning.proofs.Fitted.{over_parts, items_over, fitted_names, has_named, unnamed_none}
use Rattle.meaning.proofs.Managed.{manageable_stars, manageable_within}
use Rattle.meaning.proofs.Given.{given_sign, given, given_here, given_other, given_more}
use Rattle.meaning.proofs.Resting.{rest_at, rest, rest_shows, forbidden_excluded, excluded_forbidden, excluded_covered}
use Rattle.meaning.proofs.Covered.{Cover, covered_cover, cover_covered, covered_trans, any_shown}
use Rattle.meaning.proofs.Combining.{within_all, joined_sign, combined, combination_over}

-- ## All plates are named: the group is itself a setting

rest_exact : (o : Option Sign) → is_some o ≡ true → Within (Some (sign_for (rest_at o normal))) o
rest_exact o h e q = grind arith

named_covered : (f : Frame) → Sound f → (u : List (List Item)) → Closed f u → (g : List Item) → Forbidden f g → ((p : ℕ) → is_one_of f.plates p ≡ true → names g p ≡ true) → covered_by u g ≡ true
named_covered f sound u closed g forb named =
    let o = over_parts f.plates g forb.fitted in
    let s : Setting = rest g (λ p. normal) in
    let r = any_shown s f.lines (forbidden_excluded f sound g forb s (rest_shows (λ p. normal) g o.rises)) in
    let l = r.line in
    let lo = all-has (λ l'. group_over f.plates l' ≡ true) f.lines l sound.lines r.member in
    let w : (p : ℕ) → Within (sign_at l p) (sign_at g p) = (λ p e q. rest_exact (sign_at g p) (named p (fitted_names f.plates l (over_parts f.plates l lo).fitted p (has_named l p e q))) e (shows_has s l r.shown p e q)) in
    covered_trans f.plates u l g closed.over
    (closed.lines l r.member (manageable_within f sound l g lo forb.fitted w forb.managed))
    (has_covers l g (over_parts f.plates l lo).rises w)

-- ## One lever that is not named: it is at one end or the other

-- the group with a sign that is not * on a plate that it does not name is forbidden too
more_forbidden : (f : Frame) → Sound f → (g : List Item) → Forbidden f g → (x : ℕ) (s : Sign) → is_star s ≡ false → is_one_of f.plates x ≡ true → sign_at g x ≡ None → Forbidden f (given f.plates g x (Some s))
more_forbidden f sound g forb x s rests m n =
    let c = sound.plates in
    let h = given f.plates g x (Some s) in
    let over = items_over (given_sign g x (Some s)) f.plates c in
    excluded_forbidden f h over
    (manageable_stars f sound h g over forb.fitted same forb.managed)
    (excluded_covered f.lines g h (over_parts f.plates g forb.fitted).rises
    (has_covers g h (over_parts f.plates g forb.fitted).rises (given_more f.plates g x (Some s) c forb.fitted m (λ e q. absurd (false≢true (sym (ap (λ o. ends o e) n) ∙ q)))))
    (forbidden_excluded f sound g forb))
  where
    unstarred : (s' : Sign) → is_star s' ≡ false → starred (Some s') ≡ false
    unstarred Plus h = refl
    unstarred Minus h = refl
    unstarred Star h = h

    same : (p : ℕ) → starred (sign_at (given f.plates g x (Some s)) p) ≡ true → starred (sign_at g p) ≡ true
    same p h =
        ⊎_elim
        (λ e. absurd (false≢true (sym (ap (λ q. starred (sign_at (given f.plates g x (Some s)) q)) e ∙ ap starred (given_here f.plates g x (Some s) sound.plates forb.fitted m) ∙ unstarred s rests) ∙ h)))
        (λ ne. ap starred (sym (given_other f.plates g x (Some s) sound.plates forb.fitted m p ne)) ∙ h)
        (cases_eq p x)

-- a sign that sits on one that is not * is that sign, or none
only_sign : (s : Sign) (o : Option Sign) → is_star s ≡ false → Within o (Some s) → (o ≡ None) ⊎ (o ≡ Some s)
only_sign s None r w = inl refl
only_sign s (Some t) r w = inr (let a = w upper in let b = w lower in grind arith)

-- what covers the group with x+ and what covers it with x- cover it, or their combination on x does
pub join_covers : (f : Frame) → Sound f → (u : List (List Item)) → Closed f u → (g : List Item) → Forbidden f g → (x : ℕ) → is_one_of f.plates x ≡ true → sign_at g x ≡ None → Cover u (given f.plates g x (Some Plus)) → Cover u (given f.plates g x (Some Minus)) → covered_by u g ≡ true
join_covers f sound u closed g forb x m n ca cb =
    ⊎_elim
    (λ none. covered a ca.member oa (wa none))
    (λ plus.
    ⊎_elim
    (λ none. covered b cb.member ob (wb none))
    (λ minus. combined_covers plus minus)
    (only_sign Minus (sign_at b x) refl (λ e q. ap (λ o. ends o e) (sym (here_of Minus)) ∙ covers_has b (given ps g x (Some Minus)) cb.over x e q)))
    (only_sign Plus (sign_at a x) refl (λ e q. ap (λ o. ends o e) (sym (here_of Plus)) ∙ covers_has a (given ps g x (Some Plus)) ca.over x e q))
  where
    ps : List ℕ
    ps = f.plates

    a : List Item
    a = ca.group

    b : List Item
    b = cb.group

    oa : group_over ps a ≡ true
    oa = all-has (λ h. group_over ps h ≡ true) u a closed.over ca.member

    ob : group_over ps b ≡ true
    ob = all-has (λ h. group_over ps h ≡ true) u b closed.over cb.member

    here_of : (s : Sign) → sign_at (given ps g x (Some s)) x ≡ Some s
    here_of s = given_here ps g x (Some s) sound.plates forb.fitted m

    -- at other plates both are within g
    elsewhere : (s : Sign) (h : List Item) → covers h (given ps g x (Some s)) ≡ true → (p : ℕ) → (p ≡ x → ⊥) → Within (sign_at h p) (sign_at g p)
    elsewhere s h c p ne e q = ap (λ o. ends o e) (sym (given_other ps g x (Some s) sound.plates forb.fitted m p ne)) ∙ covers_has h (given ps g x (Some s)) c p e q

    wa : sign_at a x ≡ None → (p : ℕ) → Within (sign_at a p) (sign_at g p)
    wa none = within_all a (sign_at g) x (λ e q. absurd (false≢true (sym (ap (λ o. ends o e) none) ∙ q))) (elsewhere Plus a ca.over)

    wb : sign_at b x ≡ None → (p : ℕ) → Within (sign_at b p) (sign_at g p)
    wb none = within_all b (sign_at g) x (λ e q. absurd (false≢true (sym (ap (λ o. ends o e) none) ∙ q))) (elsewhere Minus b cb.over)

    covered : (h : List Item) → Has u h → group_over ps h ≡ true → ((p : ℕ) → Within (sign_at h p) (sign_at g p)) → covered_by u g ≡ true
    covered h mem o w = cover_covered u g h mem (has_covers h g (over_parts ps h o).rises w)

    combined_covers : sign_at a x ≡ Some Plus → sign_at b x ≡ Some Minus → covered_by u g ≡ true
    combined_covers plus minus =
        let c = items_on (joined_sign x a b) ps in
        let k = combined ps x a b sound.plates oa ob plus minus in
        let w : (p : ℕ) → Within (sign_at c p) (sign_at g p) =
        within_all c (sign_at g) x
        (λ e q. absurd (false≢true (sym (ap (λ o. ends o e) k.dropped) ∙ q)))
        (λ p ne e q.
        ⊎_elim
        (λ h. elsewhere Plus a ca.over p ne e h)
        (λ h. elsewhere Minus b cb.over p ne e h)
        (or_cases (ends (sign_at a p) e) (ends (sign_at b p) e) (sym (joint_ends (sign_at a p) (sign_at b p) e) ∙ ap (λ o. ends o e) (sym (k.others p ne)) ∙ q))) in
        covered_trans ps u c g closed.over
        (closed.combinations x a b c ca.member cb.member k (manageable_within f sound c g (combination_over ps x a b c oa ob k) forb.fitted w forb.managed))
        (has_covers c g k.spelled w)

-- ## All levers that are not named, one after the other

complete_from : (f : Frame) → Sound f → (u : List (List Item)) → Closed f u → (todo : List ℕ) → (g : List Item) → Forbidden f g → ((p : ℕ) → is_one_of todo p ≡ true → is_one_of f.plates p ≡ true) → ((p : ℕ) → is_one_of f.plates p ≡ true → (names g p ≡ true) ⊎ (is_one_of todo p ≡ true)) → covered_by u g ≡ true
complete_from f sound u closed [] g forb sub left = named_covered f sound u closed g forb (λ p h. ⊎_elim (λ n. n) (λ n. absurd (false≢true n)) (left p h))
complete_from f sound u closed (x ∷ todo) g forb sub left =
    ⊎_elim
    (λ n. complete_from f sound u closed todo g forb fewer (λ p h. ⊎_elim inl (λ t. ⊎_elim (λ e. inl (ap (names g) (sym (eqb-true x p e)) ∙ n)) inr (or_cases (eqb x p) (is_one_of todo p) t)) (left p h)))
    (λ n.
    join_covers f sound u closed g forb x mx (unnamed_none g x n)
    (covered_cover u (given f.plates g x (Some Plus)) (complete_from f sound u closed todo (given f.plates g x (Some Plus)) (more_forbidden f sound g forb x Plus refl mx (unnamed_none g x n)) fewer (named Plus)))
    (covered_cover u (given f.plates g x (Some Minus)) (complete_from f sound u closed todo (given f.plates g x (Some Minus)) (more_forbidden f sound g forb x Minus refl mx (unnamed_none g x n)) fewer (named Minus))))
    (cases_Bool (names g x))
  where
    fewer : (p : ℕ) → is_one_of todo p ≡ true → is_one_of f.plates p ≡ true
    fewer p h = sub p (or_right (eqb x p) (is_one_of todo p) h)

    mx : is_one_of f.plates x ≡ true
    mx = sub x (or_left (eqb x x) (is_one_of todo x) (eq-eqb x x refl))

    named : (s : Sign) (p : ℕ) → is_one_of f.plates p ≡ true → (names (given f.plates g x (Some s)) p ≡ true) ⊎ (is_one_of todo p ≡ true)
    named s p h =
        ⊎_elim
        (λ e. inl (ap (λ q. names (given f.plates g x (Some s)) q) e ∙ ap is_some (given_here f.plates g x (Some s) sound.plates forb.fitted mx)))
        (λ ne.
        ⊎_elim
        (λ n. inl (ap is_some (given_other f.plates g x (Some s) sound.plates forb.fitted mx p ne) ∙ n))
        (λ t. ⊎_elim (λ e. absurd (ne (sym (eqb-true x p e)))) inr (or_cases (eqb x p) (is_one_of todo p) t))
        (left p h))
        (cases_eq p x)

pub method_is_complete : MethodIsComplete
method_is_complete f sound u closed g forb = complete_from f sound u closed f.plates g forb (λ p h. h) (λ p h. inr h)
