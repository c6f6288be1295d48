-- A group is completed to the first setting, one lever after the other. Assumes nothing.
use Rattle.std.proofs.Common.{◌≡◌, ℕ, zero, suc, ◌+◌, ◌<◌, true, false, not, ◌&&◌, ◌||◌, eqb, ltb, ◌⊎◌, List, [], ◌∷◌, ◌++◌, length, get_or, is_some, Some, None, Option, sym, refl, ap, ◌∙◌, subst, inl, inr, ⊎_elim, arith}
use Rattle.std.proofs.lemmas.Bool.{and_parts, and_from, and_left, and_right, or_parts, or_from, not-true, not-false, not_from_false, eq-eqb, ne_eqb, lt-ltb, cond-true, cond-false, cases_eq, cases_lt, cases_Bool, both_ways, false≢true}
use Rattle.groups.specs.declared.items.Item.{Item}
use Rattle.groups.specs.declared.items.Sign.{Sign}
use Rattle.groups.specs.declared.items.Sign.TheVariants.{Plus, Minus, Star}
use Rattle.groups.specs.Items.{sign_at}
use Rattle.groups.specs.Rises.{item_if}
use Rattle.groups.proofs.Climbing.{place_cases}
use Rattle.meaning.specs.States.{State, normal, reversed, between, holds, Setting, shows, shows_any}
use Rattle.meaning.specs.Frames.{Frame, Sound, group_over, moving, is_star, starred, manageable}
use Rattle.meaning.specs.Tables.{IsTable, covered_by}
use Rattle.meaning.specs.Laws.{Excluded}
use Rattle.meaning.specs.Shown.{sign_for, written, RestsOn, state_rank, sooner}
use Rattle.meaning.proofs.Ends.{upper, lower, ends, Within as EndsWithin, shows_has, has_covers, shows_covered}
use Rattle.meaning.proofs.Managed.{manageable_stars}
use Rattle.meaning.proofs.OneMore.{shows_insert, covered_excluded}
use Rattle.meaning.proofs.Resting.{rest_at, rest, rest_star, rest_shows, rest_less, rest_moving, any_less, excluded_forbidden}
use Rattle.meaning.proofs.Shrinking.{table_covers}
use Rattle.meaning.proofs.SomeCutList.{Failing, setting_fails}
use Rattle.meaning.proofs.Trial.{every_setting, excludes, excluded_tried}
use Rattle.placed.specs.declared.Placed.{Placed}
use Rattle.placed.specs.Signs.{Within, sign_on}
use Rattle.placed.specs.Spelling.{spell, spell_from}
use Rattle.placed.proofs.Spelled.{spelled_sign, spelled_none, spelled_rises}
use Rattle.rows.specs.Rows.{spell_all}
use Rattle.telling.specs.Told.{Holds}
use Rattle.telling.proofs.Drops.{one_of, spell_over, spell_within}
use Rattle.telling.proofs.Steps.{spell_insert}
use Rattle.showing.specs.Showing.{FirstWritten, Gives}

-- ## One lever's sign and state

-- a lever that is not between is at one end
at_rest : (x : State) → holds Star x ≡ false → (x ≡ normal) ⊎ (x ≡ reversed)
at_rest normal h = inl refl
at_rest reversed h = inr refl
at_rest between h = absurd (false≢true (sym h))

-- each state has one end or the other
either_end : (x : State) → (holds Plus x ≡ true) ⊎ (holds Minus x ≡ true)
either_end normal = inl refl
either_end reversed = inr refl
either_end between = inl refl

-- a sign that holds, and that is * just when the state is between, is the sign of the state
same_sign : (o : Option Sign) (x : State) → is_some o ≡ true → EndsWithin o (Some (sign_for x)) → holds Star x ≡ starred o → o ≡ Some (sign_for x)
same_sign o x n w h = let a = w upper in let b = w lower in grind arith

-- what a sign leaves of any state has that sign
rest_sign : (o : Option Sign) (x : State) → is_some o ≡ true → o ≡ Some (sign_for (rest_at o x))
rest_sign o x n = grind arith

rest_back : (x y : State) → rest_at (Some (sign_for x)) y ≡ x
rest_back normal y = refl
rest_back reversed y = refl
rest_back between y = refl

-- ## The order of settings

not_below : (x y : State) → x ≡ y → ltb (state_rank x) (state_rank y) ≡ false
not_below x y e = ap (λ z. ltb (state_rank x) (state_rank z)) (sym e) ∙ itself x
  where
    itself : (z : State) → ltb (state_rank z) (state_rank z) ≡ false
    itself normal = refl
    itself reversed = refl
    itself between = refl

-- a setting with the same states comes no sooner
sooner_same : (ps : List ℕ) (s t : Setting) → ((j : ℕ) → j < length ps → s (get_or ps j 0) ≡ t (get_or ps j 0)) → sooner ps s t ≡ false
sooner_same [] s t h = refl
sooner_same (p ∷ ps) s t h = or_from _ _ (not_below (s p) (t p) (h 0 (omega arith))) (and_right _ _ (sooner_same ps s t (λ j l. h (suc j) (omega arith))))

-- nor does one that is reversed where the other is normal, with the same states before
sooner_later : (ps : List ℕ) (s t : Setting) (k : ℕ) → k < length ps → ((j : ℕ) → j < k → s (get_or ps j 0) ≡ t (get_or ps j 0)) → s (get_or ps k 0) ≡ reversed → t (get_or ps k 0) ≡ normal → sooner ps s t ≡ false
sooner_later [] s t k l h a b = absurd (omega arith)
sooner_later (p ∷ ps) s t zero l h a b = λ i. ltb (state_rank (a i)) (state_rank (b i)) || (eqb (state_rank (a i)) (state_rank (b i)) && sooner ps s t)
sooner_later (p ∷ ps) s t (suc k) l h a b = or_from _ _ (not_below (s p) (t p) (h 0 (omega arith))) (and_right _ _ (sooner_later ps s t k (omega arith) (λ j m. h (suc j) (omega arith)) a b))

-- a group that has the sign of each lever's state spells the setting
spell_written : (k : ℕ) (ps : List ℕ) (r : Placed) (x : Setting) → ((j : ℕ) → j < length ps → sign_on r (k + j) ≡ Some (sign_for (x (get_or ps j 0)))) → spell_from k ps r ≡ written ps x
spell_written k [] r x h = refl
spell_written k (p ∷ ps) r x h =
    let first : sign_on r k ≡ Some (sign_for (x p)) = ap (sign_on r) (let e : k ≡ k + 0 = omega arith in e) ∙ h 0 (omega arith) in
    let later = spell_written (suc k) ps r x (λ j l. ap (sign_on r) (let e : suc k + j ≡ k + suc j = omega arith in e) ∙ h (suc j) (omega arith)) in
    λ i. item_if p (first i) ++ later i

-- ## What is built so far

-- at some place below k the setting is reversed and the group has +, and at each place before the group has the state's sign
pub record Later (ps : List ℕ) (r : Placed) (k : ℕ) (t : Setting) : Type 0 where
  pub at : ℕ
  pub below : at < k
  pub same : (j : ℕ) → j < at → sign_on r j ≡ Some (sign_for (t (get_or ps j 0)))
  pub plus : sign_on r at ≡ Some Plus
  pub turned : t (get_or ps at 0) ≡ reversed

-- r is g with each lever below place k set, as the first setting has it
pub record Upto (f : Frame) (table : List Placed) (g : Placed) (k : ℕ) (r : Placed) : Type 0 where
  pub within : Within (length f.plates) r
  pub stars : (j : ℕ) → starred (sign_on r j) ≡ starred (sign_on g j)
  pub more : (j : ℕ) → EndsWithin (sign_on g j) (sign_on r j)
  pub free : covered_by (spell_all f.plates table) (spell f.plates r) ≡ false
  pub named : (j : ℕ) → j < k → is_some (sign_on r j) ≡ true
  pub first : (t : Setting) → RestsOn f (spell f.plates g) t → (shows t (spell f.plates r) ≡ true) ⊎ Later f.plates r k t

pub upto_none : (f : Frame) (table : List Placed) (g : Placed) → Within (length f.plates) g → covered_by (spell_all f.plates table) (spell f.plates g) ≡ false → Upto f table g 0 g
upto_none f table g w free = record { within = w; stars = λ j. refl; more = λ j e h. h; free = free; named = λ j h. absurd (omega arith); first = λ t rests. inl rests.shown }

module _ (f : Frame) (table : List Placed) (g : Placed) (holding : Holds f.plates table) (sound : Sound f) (right : IsTable f (spell_all f.plates table)) (able : manageable f (spell f.plates g) ≡ true) where
  abbrev ps : List ℕ
  ps = f.plates

  abbrev groups : List (List Item)
  groups = spell_all f.plates table

  over : (r : Placed) → group_over ps (spell ps r) ≡ true
  over r = spell_over ps r holding.climbs

  sign_at_lem : (r : Placed) (j : ℕ) → j < length ps → sign_at (spell ps r) (get_or ps j 0) ≡ sign_on r j
  sign_at_lem r j l = spelled_sign ps r j holding.climbs l

  -- groups with * at the same places have it on the same plates
  starred_plate : (r : Placed) → ((j : ℕ) → starred (sign_on r j) ≡ starred (sign_on g j)) → (q : ℕ) → starred (sign_at (spell ps r) q) ≡ starred (sign_at (spell ps g) q)
  starred_plate r s q = at_plate (place_cases ps q)
    where
      at_plate : ((j : ℕ) × (j < length ps) × (get_or ps j 0 ≡ q)) ⊎ ((j : ℕ) → j < length ps → get_or ps j 0 ≡ q → ⊥) → starred (sign_at (spell ps r) q) ≡ starred (sign_at (spell ps g) q)
      at_plate (inl p) = subst (λ n. starred (sign_at (spell ps r) n) ≡ starred (sign_at (spell ps g) n)) p.2 (ap starred (sign_at_lem r p.0 p.1) ∙ s p.0 ∙ sym (ap starred (sign_at_lem g p.0 p.1)))
      at_plate (inr n) = ap starred (spelled_none ps r q n) ∙ sym (ap starred (spelled_none ps g q n))

  managed : (r : Placed) → ((j : ℕ) → starred (sign_on r j) ≡ starred (sign_on g j)) → manageable f (spell ps r) ≡ true
  managed r s = manageable_stars f sound (spell ps r) (spell ps g) (over r) (over g) (λ q h. sym (starred_plate r s q) ∙ h) able

  excluded_told : (r : Placed) → ((j : ℕ) → starred (sign_on r j) ≡ starred (sign_on g j)) → Excluded f.lines (spell ps r) → covered_by groups (spell ps r) ≡ true
  excluded_told r s x = table_covers f sound groups right (spell ps r) (excluded_forbidden f (spell ps r) (over r) (managed r s) x)

  told_excluded : (r : Placed) → covered_by groups (spell ps r) ≡ true → Excluded f.lines (spell ps r)
  told_excluded r h = covered_excluded f sound groups right (spell ps r) h

  -- a setting that rests on g is between just where r has *
  state_star : (t : Setting) → RestsOn f (spell ps g) t → (r : Placed) → ((j : ℕ) → starred (sign_on r j) ≡ starred (sign_on g j)) → (j : ℕ) → j < length ps → holds Star (t (get_or ps j 0)) ≡ starred (sign_on r j)
  state_star t rests r s j l = rests.rests (get_or ps j 0) (one_of ps j l) ∙ ap starred (sign_at_lem g j l) ∙ sym (s j)

  -- where it shows r, the signs of r are those of its states
  shown_sign : (t : Setting) → RestsOn f (spell ps g) t → (r : Placed) → ((j : ℕ) → starred (sign_on r j) ≡ starred (sign_on g j)) → shows t (spell ps r) ≡ true → (j : ℕ) → j < length ps → is_some (sign_on r j) ≡ true → sign_on r j ≡ Some (sign_for (t (get_or ps j 0)))
  shown_sign t rests r s v j l n =
      same_sign (sign_on r j) (t (get_or ps j 0)) n
      (λ e q. shows_has t (spell ps r) v (get_or ps j 0) e (ap (λ o. ends o e) (sign_at_lem r j l) ∙ q))
      (state_star t rests r s j l)

  -- it shows no line
  rests_free : (t : Setting) → RestsOn f (spell ps g) t → shows_any t f.lines ≡ false
  rests_free t rests = not-true (shows_any t f.lines) (and_parts (f.crew (moving f t)) (not (shows_any t f.lines)) rests.possible).1

  -- ## One lever more

  module _ (k : ℕ) (l : k < length ps) (r : Placed) (so : Upto f table g k r) where
    -- the lever is named
    pub upto_already : is_some (sign_on r k) ≡ true → Upto f table g (k + 1) r
    upto_already n =
        record {
          within = so.within;
          stars = so.stars;
          more = so.more;
          free = so.free;
          named = λ j h.
              ⊎_elim
              (λ m. so.named j m)
              (λ m. let e : k ≡ j = omega arith in subst (λ i. is_some (sign_on r i) ≡ true) e n)
              (cases_lt j k);
          first = λ t rests.
              ⊎_elim inl
              (λ d. inr (record { at = d.at; below = omega (arith, d.below); same = d.same; plus = d.plus; turned = d.turned }))
              (so.first t rests);
        }

    -- the lever is set to an end
    module _ (none : sign_on r k ≡ None) (s : Sign) (rests-there : is_star s ≡ false) (n : Placed) (gives : Gives k s r n) where
      here : sign_on n k ≡ Some s
      here = gives k ∙ cond-true (eqb k k && ltb k 32) (Some s) (sign_on r k) (and_from _ _ (eq-eqb k k refl) (lt-ltb k 32 (let few = holding.few in omega arith)))

      elsewhere : (j : ℕ) → (j ≡ k → ⊥) → sign_on n j ≡ sign_on r j
      elsewhere j ne = gives j ∙ cond-false (eqb j k && ltb k 32) (Some s) (sign_on r j) (and_left (eqb j k) (ltb k 32) (ne_eqb j k ne))

      set_stars : (j : ℕ) → starred (sign_on n j) ≡ starred (sign_on g j)
      set_stars j =
          ⊎_elim
          (λ e. subst (λ i. starred (sign_on n i) ≡ starred (sign_on g i)) (sym e) (ap starred here ∙ rests-there ∙ sym (ap starred none) ∙ so.stars k))
          (λ ne. ap starred (elsewhere j ne) ∙ so.stars j)
          (cases_eq j k)

      set_more : (j : ℕ) → EndsWithin (sign_on g j) (sign_on n j)
      set_more j =
          ⊎_elim
          (λ e. subst (λ i. EndsWithin (sign_on g i) (sign_on n i)) (sym e) (λ d q. absurd (false≢true (sym (ap (λ o. ends o d) none) ∙ so.more k d q))))
          (λ ne d q. ap (λ o. ends o d) (elsewhere j ne) ∙ so.more j d q)
          (cases_eq j k)

      set_named : (j : ℕ) → j < k + 1 → is_some (sign_on n j) ≡ true
      set_named j h =
          ⊎_elim
          (λ m. ap is_some (elsewhere j (λ e. omega arith)) ∙ so.named j m)
          (λ m. let e : k ≡ j = omega arith in subst (λ i. is_some (sign_on n i) ≡ true) e (ap is_some here))
          (cases_lt j k)

      set_shows : (t : Setting) → shows t (spell ps n) ≡ (holds s (t (get_or ps k 0)) && shows t (spell ps r))
      set_shows t = ap (shows t) (sym (spell_insert ps k r n s holding.climbs holding.few l none gives)) ∙ shows_insert t (record { plate = get_or ps k 0; sign = s }) (spell ps r)

      set_later : (t : Setting) → Later ps r k t → Later ps n (k + 1) t
      set_later t d =
          let b = d.below in
          record {
            at = d.at;
            below = omega arith;
            same = λ j h. elsewhere j (λ e. omega arith) ∙ d.same j h;
            plus = elsewhere d.at (λ e. omega arith) ∙ d.plus;
            turned = d.turned;
          }

      set_upto : covered_by groups (spell ps n) ≡ false → ((t : Setting) → RestsOn f (spell ps g) t → shows t (spell ps r) ≡ true → (shows t (spell ps n) ≡ true) ⊎ Later ps n (k + 1) t) → Upto f table g (k + 1) n
      set_upto free first =
          record {
            within = λ j h. elsewhere j (λ e. omega arith) ∙ so.within j h;
            stars = set_stars;
            more = set_more;
            free = free;
            named = set_named;
            first = λ t rests. ⊎_elim (first t rests) (λ d. inr (set_later t d)) (so.first t rests);
          }

    -- a setting that rests on g has the lever at one end
    one_end : sign_on r k ≡ None → (t : Setting) → RestsOn f (spell ps g) t → (t (get_or ps k 0) ≡ normal) ⊎ (t (get_or ps k 0) ≡ reversed)
    one_end none t rests = at_rest (t (get_or ps k 0)) (state_star t rests r so.stars k l ∙ ap starred none)

    -- normal is not covered
    pub upto_plus : sign_on r k ≡ None → (n : Placed) → Gives k Plus r n → covered_by groups (spell ps n) ≡ false → Upto f table g (k + 1) n
    upto_plus none n gives free =
        set_upto none Plus refl n gives free (λ t rests v.
        ⊎_elim
        (λ e. inl (set_shows none Plus refl n gives t ∙ and_from _ _ (ap (holds Plus) e) v))
        (λ e.
        inr (record {
          at = k;
          below = omega arith;
          same = λ j h. elsewhere none Plus refl n gives j (λ z. omega arith) ∙ shown_sign t rests r so.stars v j (omega arith) (so.named j h);
          plus = here none Plus refl n gives;
          turned = e;
        }))
        (one_end none t rests))

    -- normal is covered: so reversed is not, as one of the two is shown with r
    pub upto_minus : sign_on r k ≡ None → (n : Placed) → Gives k Plus r n → covered_by groups (spell ps n) ≡ true → (m : Placed) → Gives k Minus r m → Upto f table g (k + 1) m
    upto_minus none n plus covered m minus =
        set_upto none Minus refl m minus free (λ t rests v.
        inl (set_shows none Minus refl m minus t ∙ and_from _ _
        (⊎_elim
        (λ e. absurd (both_ways (shows_any t f.lines) (rests_free t rests) (with_plus t (ap (holds Plus) e) v)))
        (λ e. ap (holds Minus) e)
        (one_end none t rests))
        v))
      where
        with_plus : (t : Setting) → holds Plus (t (get_or ps k 0)) ≡ true → shows t (spell ps r) ≡ true → shows_any t f.lines ≡ true
        with_plus t h v = told_excluded n covered t (set_shows none Plus refl n plus t ∙ and_from _ _ h v)

        with_minus : covered_by groups (spell ps m) ≡ true → (t : Setting) → holds Minus (t (get_or ps k 0)) ≡ true → shows t (spell ps r) ≡ true → shows_any t f.lines ≡ true
        with_minus c t h v = told_excluded m c t (set_shows none Minus refl m minus t ∙ and_from _ _ h v)

        free : covered_by groups (spell ps m) ≡ false
        free =
            ⊎_elim
            (λ c. absurd (both_ways (covered_by groups (spell ps r)) so.free (excluded_told r so.stars (λ t v. ⊎_elim (λ h. with_plus t h v) (λ h. with_minus c t h v) (either_end (t (get_or ps k 0)))))))
            (λ c. c)
            (cases_Bool (covered_by groups (spell ps m)))

  -- ## All levers are set

  module _ (r : Placed) (so : Upto f table g (length ps) r) where
    -- a setting that shows r and no line
    failing : Failing (excludes f.lines (spell ps r))
    failing =
        setting_fails ps (excludes f.lines (spell ps r))
        (⊎_elim
        (λ h. absurd (both_ways (covered_by groups (spell ps r)) so.free (excluded_told r so.stars ((excluded_tried ps f.lines (spell ps r) sound.lines (over r)).0 h))))
        (λ h. h)
        (cases_Bool (every_setting ps (excludes f.lines (spell ps r)))))

    abbrev some : Setting
    some = failing.setting

    some_fails : (not (shows some (spell ps r)) ≡ false) × (shows_any some f.lines ≡ false)
    some_fails = or_parts (not (shows some (spell ps r))) (shows_any some f.lines) failing.failed

    some_shows : shows some (spell ps r) ≡ true
    some_shows = not-false (shows some (spell ps r)) some_fails.0

    -- what r leaves of it
    abbrev left : Setting
    left = rest (spell ps r) some

    left_free : shows_any left f.lines ≡ false
    left_free =
        ⊎_elim
        (λ h. absurd (both_ways (shows_any some f.lines) some_fails.1 (any_less ps left some f.lines sound.lines (rest_less some (spell ps r) some_shows) h)))
        (λ h. h)
        (cases_Bool (shows_any left f.lines))

    left_rests : RestsOn f (spell ps g) left
    left_rests =
        record {
          shown =
              shows_covered left (spell ps g) (spell ps r) (spelled_rises ps g holding.climbs)
              (has_covers (spell ps g) (spell ps r) (spelled_rises ps g holding.climbs) (spell_within ps g r holding.climbs so.more))
              (rest_shows some (spell ps r) (spelled_rises ps r holding.climbs));
          possible =
              and_from (f.crew (moving f left)) (not (shows_any left f.lines))
              (ap f.crew (rest_moving f sound some (spell ps r) (over r)) ∙ managed r so.stars)
              (not_from_false (shows_any left f.lines) left_free);
          rests = λ p m. rest_star (sign_at (spell ps r) p) (some p) ∙ starred_plate r so.stars p;
        }

    -- its state at a place is that of the sign there
    left_state : (x : State) (j : ℕ) → j < length ps → sign_on r j ≡ Some (sign_for x) → left (get_or ps j 0) ≡ x
    left_state x j l e = ap (λ o. rest_at o (some (get_or ps j 0))) (sign_at_lem r j l ∙ e) ∙ rest_back x (some (get_or ps j 0))

    left_first : (t : Setting) → RestsOn f (spell ps g) t → sooner ps t left ≡ false
    left_first t rests =
        ⊎_elim
        (λ v. sooner_same ps t left (λ j l. sym (left_state (t (get_or ps j 0)) j l (shown_sign t rests r so.stars v j l (so.named j l)))))
        (λ d.
        sooner_later ps t left d.at d.below
        (λ j h. sym (left_state (t (get_or ps j 0)) j (let b = d.below in omega arith) (d.same j h)))
        d.turned
        (left_state normal d.at d.below d.plus))
        (so.first t rests)

    pub upto_all : FirstWritten f g r
    upto_all = (
      left,
      record { rests = left_rests; first = left_first },
      spell_written 0 ps r left (λ j l.
          ap (sign_on r) (let e : 0 + j ≡ j = omega arith in e)
          ∙ rest_sign (sign_on r j) (some (get_or ps j 0)) (so.named j l)
          ∙ ap (λ o. Some (sign_for (rest_at o (some (get_or ps j 0))))) (sym (sign_at_lem r j l))),
    )
