-- What a judgement of the lines tells of the settings that show the group, over any frame. Assumes nothing.
use Rattle.std.proofs.Common.{◌≡◌, ℕ, zero, suc, ◌^◌, ◌<◌, ◌≤◌, Bool, true, false, cond, ◌&&◌, eqb, ltb, ◌⊎◌, List, [], ◌∷◌, map, length, get_or, is_some, Some, None, Option, Result, Ok, Err, sym, refl, ap, ◌∙◌, subst, inl, inr, ⊎_elim, arith}
use Rattle.std.specs.List.{All, AllByRecursion, ContainsAt as Has}
use Rattle.std.proofs.lemmas.List.{length-map, get_or-map}
use Rattle.std.proofs.lemmas.List.Elements.{at_from_Contains, recursion_from_All}
use Rattle.std.proofs.lemmas.Bool.{and_from, and_left, or_from, eq-eqb, ne_eqb, lt-ltb, ltb-true, cond-true, cond-false, cases_Bool, cases_eq, cases_lt, false≢true}
use Rattle.groups.specs.declared.items.Item.{Item}
use Rattle.groups.specs.declared.items.Sign.{Sign}
use Rattle.groups.specs.declared.items.Sign.TheVariants.{Plus, Minus}
use Rattle.groups.specs.Items.{sign_at}
use Rattle.groups.specs.Rises.{climbing}
use Rattle.groups.proofs.Climbing.{place_cases}
use Rattle.levers.specs.declared.Levers.{Levers}
use Rattle.levers.specs.Sets.{has}
use Rattle.levers.proofs.Members.{none_high}
use Rattle.meaning.specs.States.{State, normal, reversed, between, Setting, shows, shows_any}
use Rattle.meaning.specs.Shown.{sign_for}
use Rattle.meaning.specs.Laws.{Excluded}
use Rattle.meaning.proofs.Covered.{shown_any}
use Rattle.meaning.proofs.Ends.{upper, lower, ends, Within, states_of, shows_has, has_shows, shows_covered}
use Rattle.meaning.proofs.Resting.{rest_at, rest, rest_shows}
use Rattle.placed.specs.declared.Placed.{Placed}
use Rattle.placed.specs.Lacking.{lacks}
use Rattle.placed.specs.Signs.{sign_on}
use Rattle.placed.specs.Spelling.{spell}
use Rattle.placed.proofs.Ends.{sits_if}
use Rattle.placed.proofs.Spelled.{spelled_sign, spelled_none, spelled_rises, spelled_covers}
use Rattle.rows.specs.Rows.{spell_all}
use Rattle.cutting.specs.Searching.{Escape, Searched, LeversOf, Fails, fails, FreeAt, SomeMet, Surveyed, Judged, free_below, free_places, Halved}
use Rattle.cutting.specs.declared.search.Choice.{Choice}
use Rattle.cutting.specs.declared.search.Shown.{Shown}

meets_sits : (o u : Option Sign) → lacks u o ≡ false → sits_if o u ≡ true
meets_sits o u h = grind arith

-- what holds where the free levers rest does not fail
rests_not_fails : (o u : Option Sign) → Within o (Some (sign_for (rest_at u normal))) → fails u o ≡ false
rests_not_fails o u w = let a = w upper in let b = w lower in grind arith

lever_low : (ps : List ℕ) (levers : Levers) (k : ℕ) → LeversOf ps levers → has levers k ≡ true → k < length ps
lever_low ps levers k of h = ltb-true k (length ps) (sym (of k) ∙ h)

low_lever : (ps : List ℕ) (levers : Levers) (k : ℕ) → LeversOf ps levers → k < length ps → has levers k ≡ true
low_lever ps levers k of l = of k ∙ lt-ltb k (length ps) l

itself_sits : (o : Option Sign) → sits_if o o ≡ true
itself_sits o = grind arith

-- a lever is at its upper end, or at its lower, or at both
at_an_end : (y : State) → (Within (Some Plus) (Some (sign_for y))) ⊎ (Within (Some Minus) (Some (sign_for y)))
at_an_end normal = inl (λ e q. q)
at_an_end reversed = inr (λ e q. q)
at_an_end between = inl (λ e q. refl)

has_map : {X Y : Type 0} (f : X → Y) (xs : List X) (x : X) → Has xs x → Has (map f xs) (f x)
has_map f xs x h = (h.0, simp length-map h.1, λ e. get_or-map f xs h.0 x e h.1 ∙ ap f (h.2 x))

-- what a group with one more lever says of that lever, and of the others
put_here : (set more : Placed) (k : ℕ) (sign : Sign) → k < 32 → ((j : ℕ) → sign_on more j ≡ cond (eqb j k && ltb k 32) (Some sign) (sign_on set j)) → sign_on more k ≡ Some sign
put_here set more k sign low is = is k ∙ cond-true _ _ _ (and_from _ _ (eq-eqb k k refl) (lt-ltb k 32 low))

put_there : (set more : Placed) (k : ℕ) (sign : Sign) → ((j : ℕ) → sign_on more j ≡ cond (eqb j k && ltb k 32) (Some sign) (sign_on set j)) → (j : ℕ) → (j ≡ k → ⊥) → sign_on more j ≡ sign_on set j
put_there set more k sign is j ne = is j ∙ cond-false _ _ _ (and_left _ _ (ne_eqb j k ne))

module _ (ps : List ℕ) (climbs : climbing 0 ps ≡ true) where
  -- a group whose signs sit on those of another is shown wherever the other is
  sits_shown : (line set : Placed) → ((k : ℕ) → k < length ps → sits_if (sign_on line k) (sign_on set k) ≡ true) → (s : Setting) → shows s (spell ps set) ≡ true → shows s (spell ps line) ≡ true
  sits_shown line set sits s v =
      shows_covered s (spell ps line) (spell ps set) (spelled_rises ps line climbs)
      ((spelled_covers ps line (spell ps set)).1 (λ k l. ap (sits_if (sign_on line k)) (spelled_sign ps set k climbs l) ∙ sits k l))
      v

  -- the setting in which the levers that the group leaves free are normal
  abbrev resting : Placed → Setting
  resting set = rest (spell ps set) (λ _. normal)

  module _ (levers : Levers) (of : LeversOf ps levers) where
    -- one of the lines is shown in any case
    pub met_excluded : (lines : List Placed) (set : Placed) → SomeMet levers lines set → Excluded (spell_all ps lines) (spell ps set)
    met_excluded lines set m s v =
        shown_any s (spell_all ps lines) (spell ps m.line) (has_map (spell ps) lines m.line (at_from_Contains lines m.line m.member))
        (sits_shown m.line set (λ k l. meets_sits (sign_on m.line k) (sign_on set k) (m.meets.each k (low_lever ps levers k of l))) s v)

    fails_hidden : (line set : Placed) → Fails levers line set → shows (resting set) (spell ps line) ≡ false
    fails_hidden line set d =
        ⊎_elim
        (λ v.
        absurd (d.one (λ k h.
        let l = lever_low ps levers k of h in
        rests_not_fails (sign_on line k) (sign_on set k) (λ e q.
        ap (λ o. ends (Some (sign_for (rest_at o normal))) e) (sym (spelled_sign ps set k climbs l))
        ∙ shows_has (resting set) (spell ps line) v (get_or ps k 0) e (ap (λ o. ends o e) (spelled_sign ps line k climbs l) ∙ q)))))
        (λ v. v)
        (cases_Bool (shows (resting set) (spell ps line)))

    all_hidden : (lines : List Placed) (set : Placed) → AllByRecursion (λ l. Fails levers l set) lines → shows_any (resting set) (spell_all ps lines) ≡ false
    all_hidden [] set a = refl
    all_hidden (l ∷ lines) set a = or_from _ _ (fails_hidden l set a.0) (all_hidden lines set a.1)

    -- no line is shown where the levers that are left free rest
    pub dead_escape : (lines : List Placed) (set : Placed) → All (λ l. Fails levers l set) lines → Escape (spell_all ps lines) (spell ps set)
    dead_escape lines set a =
        record {
          setting = resting set;
          shown = rest_shows (λ _. normal) (spell ps set) (spelled_rises ps set climbs);
          clear = all_hidden lines set (recursion_from_All (λ l. Fails levers l set) lines a);
        }

  -- the group with one more lever
  module _ (set more : Placed) (k : ℕ) (sign : Sign) (low : k < 32) (free : sign_on set k ≡ None) (is : (j : ℕ) → sign_on more j ≡ cond (eqb j k && ltb k 32) (Some sign) (sign_on set j)) where
    here : sign_on more k ≡ Some sign
    here = put_here set more k sign low is

    there : (j : ℕ) → (j ≡ k → ⊥) → sign_on more j ≡ sign_on set j
    there = put_there set more k sign is

    sits_more : (j : ℕ) → sits_if (sign_on set j) (sign_on more j) ≡ true
    sits_more j =
        ⊎_elim
        (λ same. ap (λ o. sits_if o (sign_on more j)) (ap (sign_on set) same ∙ free))
        (λ ne. ap (sits_if (sign_on set j)) (there j ne) ∙ itself_sits (sign_on set j))
        (cases_eq j k)

    -- what shows it shows the group
    less_escape : (lines : List (List Item)) → Escape lines (spell ps more) → Escape lines (spell ps set)
    less_escape lines e =
        record {
          setting = e.setting;
          shown = sits_shown set more (λ j _. sits_more j) e.setting e.shown;
          clear = e.clear;
        }

    more_within : (s : Setting) → shows s (spell ps set) ≡ true → Within (Some sign) (states_of s (get_or ps k 0)) → (j : ℕ) → j < length ps → Within (sign_on more j) (states_of s (get_or ps j 0))
    more_within s v w j l =
        ⊎_elim
        (λ same. subst (λ i. Within (sign_on more i) (states_of s (get_or ps i 0))) (sym same) (subst (λ o. Within o (states_of s (get_or ps k 0))) (sym here) w))
        (λ ne. subst (λ o. Within o (states_of s (get_or ps j 0))) (spelled_sign ps set j climbs l ∙ sym (there j ne)) (shows_has s (spell ps set) v (get_or ps j 0)))
        (cases_eq j k)

    -- what shows the group and has the lever so shows it
    more_shown : (s : Setting) → shows s (spell ps set) ≡ true → Within (Some sign) (states_of s (get_or ps k 0)) → shows s (spell ps more) ≡ true
    more_shown s v w =
        has_shows s (spell ps more) (spelled_rises ps more climbs) (λ p.
        ⊎_elim
        (λ f. subst (λ q. Within (sign_at (spell ps more) q) (states_of s q)) f.2 (subst (λ o. Within o (states_of s (get_or ps f.0 0))) (sym (spelled_sign ps more f.0 climbs f.1)) (more_within s v w f.0 f.1)))
        (λ none. subst (λ o. Within o (states_of s p)) (sym (spelled_none ps more p none)) (λ e q. absurd (false≢true q)))
        (place_cases ps p))

-- what is known of the lines tells what there is to find
pub surveyed_judged : (levers : Levers) (lines : List Placed) (set : Placed) (r : Result (Option Choice) Shown) → Surveyed levers lines set r → Judged levers lines set r
surveyed_judged levers lines set (Err e) m =
    record {
      over = λ ps climbs of. record { yes = λ t. absurd (false≢true t); none = λ _. met_excluded ps climbs levers of lines set m };
    }
surveyed_judged levers lines set (Ok None) a =
    record {
      over = λ ps climbs of. record { yes = λ _. dead_escape ps climbs levers of lines set a; none = λ t. absurd (false≢true (sym t)) };
    }
surveyed_judged levers lines set (Ok (Some choice)) o = o

-- a free lever that is given a sign is free no more
module _ (set more : Placed) (k : ℕ) (sign : Sign) (free : sign_on set k ≡ None) (here : sign_on more k ≡ Some sign) (there : (j : ℕ) → (j ≡ k → ⊥) → sign_on more j ≡ sign_on set j) where
  same_free : (n : ℕ) → n ≤ k → free_below more n ≡ free_below set n
  same_free zero l = refl
  same_free (suc n) l = let e = there n (λ q. omega arith) in let b = same_free n (omega arith) in λ i. cond (is_some (e i)) (b i) (suc (b i))

  less_free : (n : ℕ) → k < n → free_below more n < free_below set n
  less_free zero l = absurd (omega arith)
  less_free (suc n) l =
      ⊎_elim
      (λ same.
      let a : free_below more (suc n) ≡ free_below more n = cond-true _ _ _ (ap (λ j. is_some (sign_on more j)) same ∙ ap is_some here) in
      let b : free_below set (suc n) ≡ suc (free_below set n) = cond-false _ _ _ (ap (λ j. is_some (sign_on set j)) same ∙ ap is_some free) in
      let c : free_below more n ≡ free_below set n = same_free n (omega arith) in
      omega arith)
      (λ ne.
      let e : is_some (sign_on more n) ≡ is_some (sign_on set n) = ap is_some (there n ne) in
      subst (λ t. cond t (free_below more n) (suc (free_below more n)) < free_below set (suc n)) (sym e) (both (is_some (sign_on set n)) (free_below more n) (free_below set n) (less_free n (omega arith))))
      (cases_eq n k)
    where
      both : (t : Bool) (x y : ℕ) → x < y → cond t x (suc x) < cond t y (suc y)
      both true x y h = h
      both false x y h = omega arith

-- the search with one more lever, with + and with -
module _ (levers : Levers) (set plus minus : Placed) (k : ℕ) (low : k < 32) (o : FreeAt levers set k) (is-plus : (j : ℕ) → sign_on plus j ≡ cond (eqb j k && ltb k 32) (Some Plus) (sign_on set j)) (is-minus : (j : ℕ) → sign_on minus j ≡ cond (eqb j k && ltb k 32) (Some Minus) (sign_on set j)) where
  module _ (ps : List ℕ) (climbs : climbing 0 ps ≡ true) where
    found_over : (lines : List Placed) → Searched (spell_all ps lines) (spell ps plus) true → Searched (spell_all ps lines) (spell ps set) true
    found_over lines r =
        record {
          yes = λ _. less_escape ps climbs set plus k Plus low o.free is-plus (spell_all ps lines) (r.yes refl);
          none = λ t. absurd (false≢true (sym t));
        }

    other_over : (lines : List Placed) (r : Bool) → Searched (spell_all ps lines) (spell ps plus) false → Searched (spell_all ps lines) (spell ps minus) r → Searched (spell_all ps lines) (spell ps set) r
    other_over lines r a b =
        record {
          yes = λ t. less_escape ps climbs set minus k Minus low o.free is-minus (spell_all ps lines) (b.yes t);
          none = λ f s v.
              ⊎_elim
              (λ w. a.none refl s (more_shown ps climbs set plus k Plus low o.free is-plus s v w))
              (λ w. b.none f s (more_shown ps climbs set minus k Minus low o.free is-minus s v w))
              (at_an_end (s (get_or ps k 0)));
        }

  halves : Halved levers set plus minus
  unfolding free_places
  halves =
      record {
        plus_fewer = less_free set plus k Plus o.free (put_here set plus k Plus low is-plus) (put_there set plus k Plus is-plus) 32 low;
        minus_fewer = less_free set minus k Minus o.free (put_here set minus k Minus low is-minus) (put_there set minus k Minus is-minus) 32 low;
        found = λ lines r. record { over = λ ps climbs of. found_over ps climbs lines (r.over ps climbs of) };
        other = λ lines r a b. record { over = λ ps climbs of. other_over ps climbs lines r (a.over ps climbs of) (b.over ps climbs of) };
      }

-- a place in a set of levers is one of the first 32
has_low : (levers : Levers) (k : ℕ) → levers.bits < 2 ^ 32 → has levers k ≡ true → k < 32
has_low levers k bits h =
    ⊎_elim
    (λ l. l)
    (λ le. absurd (false≢true (sym (none_high levers k bits le) ∙ h)))
    (cases_lt k 32)

pub halved : (levers : Levers) (set plus minus : Placed) (k : ℕ) → levers.bits < 2 ^ 32 → FreeAt levers set k → ((j : ℕ) → sign_on plus j ≡ cond (eqb j k && ltb k 32) (Some Plus) (sign_on set j)) → ((j : ℕ) → sign_on minus j ≡ cond (eqb j k && ltb k 32) (Some Minus) (sign_on set j)) → Halved levers set plus minus
halved levers set plus minus k bits o p m = halves levers set plus minus k (has_low levers k bits o.low) o p m
