-- Tables of frames with no lines, with no possible setting, and with other levers. Assumes nothing.
use Rattle.std.proofs.Common.{◌≡◌, ℕ, Bool, true, false, ◌&&◌, ◌||◌, eqb, List, [], ◌∷◌, is_some, Some, None, Option, sym, refl, ap, ◌∙◌, subst, ⊎_elim}
use Rattle.std.specs.List.{ContainsAt as Has, AllByRecursion}
use Rattle.std.proofs.ByRecursion.{All-weaker}
use Rattle.std.proofs.lemmas.Bool.{and_from, or_cases, or_parts, eq-eqb, ne_eqb, cond-true, cond-false, cases_eq, cases_Bool, both_ways, false≢true}
use Rattle.groups.specs.declared.items.Item.{Item}
use Rattle.groups.specs.declared.items.Sign.{Sign}
use Rattle.groups.specs.declared.items.Sign.TheVariants.{Plus, Minus, Star}
use Rattle.groups.specs.Items.{sign_at, names, covers}
use Rattle.groups.specs.Rises.{climbing}
use Rattle.meaning.specs.States.{State, normal, between, holds, Setting, shows, shows_any}
use Rattle.meaning.specs.Frames.{Frame, Sound, is_one_of, group_over, possible, Forbidden, Shortest}
use Rattle.meaning.specs.Laws.{NoLinesNoTable, NothingPossible, with_plates, OtherLevers}
use Rattle.meaning.proofs.Ends.{End, upper, lower, ends, Within, states_of, covers_has, has_covers, shows_has, has_shows}
use Rattle.meaning.proofs.Fitted.{over_parts, items_over, fitted_names, names_fitted, has_named}
use Rattle.meaning.proofs.Given.{given_sign, given, given_here, given_other, given_less}
use Rattle.meaning.proofs.Combining.{within_all}
use Rattle.meaning.proofs.Managed.{manageable_within}
use Rattle.meaning.proofs.Members.{has_first}
use Rattle.meaning.proofs.Resting.{rest, rest_shows, forbidden_excluded, excluded_forbidden}
use Rattle.meaning.proofs.Trial.{put}

-- ## No lines

pub no_lines_no_table : NoLinesNoTable
no_lines_no_table f sound none =
    record {
      every = λ g s.
          let forb = s.forbidden in
          let t : Setting = rest g (λ p. normal) in
          absurd (false≢true (sym (ap (shows_any t) none) ∙ forbidden_excluded f sound g forb t (rest_shows (λ p. normal) g (over_parts f.plates g forb.fitted).rises)));
      only = tt;
      order = refl;
    }

-- ## No possible setting

-- only the group of no items covers the group of no items
covers_none : (h : List Item) → covers h [] ≡ true → h ≡ []
covers_none [] c = refl
covers_none (i ∷ h) c = absurd (false≢true c)

pub nothing_possible : NothingPossible
nothing_possible f sound = (
  (λ nothing.
      let forb : Forbidden f [] = record { fitted = refl; managed = sound.crew.none; never = λ s p. absurd (both_ways (possible f s) (nothing s) p) } in
      record {
        every = λ g s. subst (Has ([] ∷ [])) (s.alone [] forb refl) (has_first [] []);
        only = (record { forbidden = forb; alone = λ h fh c. covers_none h c }, tt);
        order = refl;
      }),
  (λ t s.
      ⊎_elim
      (λ p. absurd (false≢true (sym (t.only.0.forbidden.never s p))))
      (λ p. p)
      (cases_Bool (possible f s))),
)

-- ## Other levers

-- a line names the plate
abbrev any_names : List (List Item) → ℕ → Bool
any_names [] p = false
any_names (l ∷ lines) p = names l p || any_names lines p

any_fitted : (ps : List ℕ) (lines : List (List Item)) → AllByRecursion (λ l. group_over ps l ≡ true) lines → (p : ℕ) → any_names lines p ≡ true → is_one_of ps p ≡ true
any_fitted ps [] over p h = absurd (false≢true h)
any_fitted ps (l ∷ lines) over p h =
    ⊎_elim
    (λ n. fitted_names ps l (over_parts ps l over.0).fitted p n)
    (λ n. any_fitted ps lines over.1 p n)
    (or_cases (names l p) (any_names lines p) h)

-- a lever that a group does not name may be in any state
put_unnamed : (p : ℕ) (x : State) (s : Setting) (l : List Item) → names l p ≡ false → shows (put p x s) l ≡ shows s l
put_unnamed p x s [] n = refl
put_unnamed p x s (i ∷ l) n =
    ⊎_elim
    (λ e. absurd (false≢true (sym n ∙ ap is_some (cond-true (eqb i.plate p) (Some i.sign) (sign_at l p) (eq-eqb i.plate p e)))))
    (λ ne j.
    holds i.sign (cond-false (eqb p i.plate) x (s i.plate) (ne_eqb p i.plate (λ e. ne (sym e))) j)
    && put_unnamed p x s l (sym (ap is_some (cond-false (eqb i.plate p) (Some i.sign) (sign_at l p) (ne_eqb i.plate p ne))) ∙ n) j)
    (cases_eq i.plate p)

put_any : (p : ℕ) (x : State) (s : Setting) (lines : List (List Item)) → any_names lines p ≡ false → shows_any (put p x s) lines ≡ shows_any s lines
put_any p x s [] n = refl
put_any p x s (l ∷ lines) n =
    let parts = or_parts (names l p) (any_names lines p) n in
    λ j. put_unnamed p x s l parts.0 j || put_any p x s lines parts.1 j

-- a setting with one lever between shows a group if it shows the group without that lever
put_between : (ps : List ℕ) (g : List Item) (p : ℕ) → climbing 0 ps ≡ true → group_over ps g ≡ true → is_one_of ps p ≡ true → (s : Setting) → shows s (given ps g p None) ≡ true → shows (put p between s) g ≡ true
put_between ps g p c o m s v =
    has_shows (put p between s) g (over_parts ps g o).rises
    (within_all g (states_of (put p between s)) p
    (λ e q. at_put e)
    (λ q ne e h. other q ne e (shows_has s (given ps g p None) v q e (ap (λ u. ends u e) (given_other ps g p None c o m q ne) ∙ h))))
  where
    at_put : (e : End) → ends (states_of (put p between s) p) e ≡ true
    at_put e = ap (λ x. ends (states_of (λ q. x) p) e) (cond-true (eqb p p) between (s p) (eq-eqb p p refl))

    other : (q : ℕ) → (q ≡ p → ⊥) → (e : End) → ends (states_of s q) e ≡ true → ends (states_of (put p between s) q) e ≡ true
    other q ne e h = ap (λ x. ends (states_of (λ r. x) q) e) (cond-false (eqb p q) between (s q) (ne_eqb p q (λ z. ne (sym z)))) ∙ h

-- a shortest group names only what a line names
shortest_named : (f : Frame) → Sound f → (g : List Item) → Shortest f g → (p : ℕ) → names g p ≡ true → any_names f.lines p ≡ true
shortest_named f sound g short p n =
    ⊎_elim
    (λ h. h)
    (λ h. absurd (false≢true (sym (ap is_some (given_here ps g p None c o m)) ∙ ap (λ k. names k p) (short.alone (given ps g p None) (forbidden h) covering) ∙ n)))
    (cases_Bool (any_names f.lines p))
  where
    ps : List ℕ
    ps = f.plates

    c : climbing 0 ps ≡ true
    c = sound.plates

    o : group_over ps g ≡ true
    o = short.forbidden.fitted

    m : is_one_of ps p ≡ true
    m = fitted_names ps g (over_parts ps g o).fitted p n

    over : group_over ps (given ps g p None) ≡ true
    over = items_over (given_sign g p None) ps c

    less : (q : ℕ) → Within (sign_at (given ps g p None) q) (sign_at g q)
    less = given_less ps g p None c o m (λ e q. absurd (false≢true q))

    covering : covers (given ps g p None) g ≡ true
    covering = has_covers (given ps g p None) g (over_parts ps (given ps g p None) over).rises less

    forbidden : any_names f.lines p ≡ false → Forbidden f (given ps g p None)
    forbidden h =
        excluded_forbidden f (given ps g p None) over (manageable_within f sound (given ps g p None) g over o less short.forbidden.managed) (λ s v.
        sym (put_any p between s f.lines h) ∙ forbidden_excluded f sound g short.forbidden (put p between s) (put_between ps g p c o m s v))

-- a group that covers another names only what the other names
covers_names : (k g : List Item) → covers k g ≡ true → (p : ℕ) → names k p ≡ true → names g p ≡ true
covers_names k g c p n = go (sign_at k p) n (covers_has k g c p)
  where
    go : (u : Option Sign) → is_some u ≡ true → Within u (sign_at g p) → names g p ≡ true
    go None h w = absurd (false≢true h)
    go (Some Plus) h w = has_named g p upper (w upper refl)
    go (Some Minus) h w = has_named g p lower (w lower refl)
    go (Some Star) h w = has_named g p upper (w upper refl)

-- what is forbidden is forbidden over other plates, if they have its own
forbidden_over : (f : Frame) (ps : List ℕ) → Sound f → (g : List Item) → Forbidden f g → ((p : ℕ) → names g p ≡ true → is_one_of ps p ≡ true) → Forbidden (with_plates f ps) g
forbidden_over f ps sound g forb h = excluded_forbidden (with_plates f ps) g (and_from _ _ (over_parts f.plates g forb.fitted).rises (names_fitted ps g h)) forb.managed (forbidden_excluded f sound g forb)

shortest_over : (f : Frame) (ps : List ℕ) → Sound f → Sound (with_plates f ps) → (g : List Item) → Shortest f g → Shortest (with_plates f ps) g
shortest_over f ps sound other g short =
    record {
      forbidden = forbidden_over f ps sound g short.forbidden (λ p n. any_fitted ps f.lines other.lines p (shortest_named f sound g short p n));
      alone = λ k fk c.
          short.alone k
          (forbidden_over (with_plates f ps) f.plates other k fk (λ p n. fitted_names f.plates g (over_parts f.plates g short.forbidden.fitted).fitted p (covers_names k g c p n)))
          c;
    }

pub other_levers : OtherLevers
other_levers f ps sound other t table =
    record {
      every = λ g s. table.every g (shortest_over (with_plates f ps) f.plates other sound g s);
      only = All-weaker (Shortest f) (Shortest (with_plates f ps)) (shortest_over f ps sound other) t table.only;
      order = table.order;
    }
