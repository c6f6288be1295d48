-- One more line: what it makes forbidden can be read off the table of the lines so far. Assumes nothing.
use Rattle.std.proofs.Common.{◌≡◌, ℕ, ◌<◌, ◌≤◌, Bool, true, false, not, ◌&&◌, ◌||◌, eqb, ltb, ◌⊎◌, List, [], ◌∷◌, ◌++◌, is_some, Some, None, Option, sym, refl, ap, ◌∙◌, subst, inl, inr, ⊎_elim, arith}
use Rattle.std.specs.List.{ContainsAt as Has}
use Rattle.std.proofs.ByRecursion.{all-has, All-push}
use Rattle.std.proofs.lemmas.Bool.{and_parts, and_cases, and_from, or_cases, or_left, or_right, eq-eqb, cond-true, cond_both, cases_Bool, both_ways, false≢true}
use Rattle.groups.specs.declared.items.Item.{Item}
use Rattle.groups.specs.declared.items.Sign.{Sign}
use Rattle.groups.specs.Items.{rising, sign_at, names, insert, sits}
use Rattle.groups.proofs.Rising.{rising_step, insert_rises, insert_sign}
use Rattle.meaning.specs.States.{State, holds, Setting, shows, shows_any}
use Rattle.meaning.specs.Frames.{Frame, Sound, is_one_of, fitted_in, group_over, manageable, Shortest, starred}
use Rattle.meaning.specs.Tables.{IsTable, covered_by}
use Rattle.meaning.specs.Laws.{Excluded, with_line, opposite, covered_with, settled, all_settled, read_off, OneMoreLine}
use Rattle.meaning.specs.Shown.{sign_for}
use Rattle.meaning.proofs.Ends.{upper, lower, Within, shows_has}
use Rattle.meaning.proofs.Fitted.{over_parts, insert_fitted}
use Rattle.meaning.proofs.Covered.{covered_cover}
use Rattle.meaning.proofs.Cuts.{shows_append}
use Rattle.meaning.proofs.Managed.{manageable_stars}
use Rattle.meaning.proofs.Members.{has_none, has_first, has_later, has_cases}
use Rattle.meaning.proofs.Resting.{rest_at, rest, rest_shows, rest_less, any_less, forbidden_excluded, excluded_forbidden, excluded_covered}
use Rattle.meaning.proofs.Shrinking.{table_covers}

-- ## Items of a group

pub rising_item : (low : ℕ) (l : List Item) → rising low l ≡ true → (i : Item) → Has l i → (low < i.plate) × (i.plate ≤ 2097151)
rising_item low [] r i h = absurd (has_none i h)
rising_item low (j ∷ l) r i h =
    let s = rising_step low j l r in
    ⊎_elim
    (λ e. (subst (λ k. low < k.plate) e s.above, subst (λ k. k.plate ≤ 2097151) e s.upto))
    (λ t. let b = rising_item j.plate l s.rest i t in let a = s.above in let b0 = b.0 in (omega arith, b.1))
    (has_cases j i l h)

pub fitted_item : (ps : List ℕ) (l : List Item) → fitted_in ps l ≡ true → (i : Item) → Has l i → is_one_of ps i.plate ≡ true
fitted_item ps [] f i h = absurd (has_none i h)
fitted_item ps (j ∷ l) f i h =
    let parts = and_parts (is_one_of ps j.plate) (fitted_in ps l) f in
    ⊎_elim
    (λ e. ap (λ k. is_one_of ps k.plate) (sym e) ∙ parts.0)
    (λ t. fitted_item ps l parts.1 i t)
    (has_cases j i l h)

shows_item : (s : Setting) (l : List Item) → shows s l ≡ true → (i : Item) → Has l i → holds i.sign (s i.plate) ≡ true
shows_item s [] v i h = absurd (has_none i h)
shows_item s (j ∷ l) v i h =
    let parts = and_parts (holds j.sign (s j.plate)) (shows s l) v in
    ⊎_elim
    (λ e. ap (λ k. holds k.sign (s k.plate)) (sym e) ∙ parts.0)
    (λ t. shows_item s l parts.1 i t)
    (has_cases j i l h)

-- a setting shows a group with one more item if it shows both
pub shows_insert : (s : Setting) (i : Item) (g : List Item) → shows s (insert i g) ≡ (holds i.sign (s i.plate) && shows s g)
shows_insert s i [] = refl
shows_insert s i (j ∷ g) =
    cond_both (ltb i.plate j.plate) (i ∷ j ∷ g) (j ∷ insert i g) (λ l. shows s l ≡ (holds i.sign (s i.plate) && (holds j.sign (s j.plate) && shows s g)))
    (λ _. refl)
    (λ _. ap (λ b. holds j.sign (s j.plate) && b) (shows_insert s i g) ∙ swap (holds j.sign (s j.plate)) (holds i.sign (s i.plate)) (shows s g))
  where
    swap : (a b c : Bool) → (a && (b && c)) ≡ (b && (a && c))
    swap true b c = refl
    swap false true c = refl
    swap false false c = refl

-- one of the signs of a line that fails, and is settled
record Failing (s : Setting) (t : List (List Item)) (g : List Item) : Type 0 where
  item : Item
  fails : holds item.sign (s item.plate) ≡ false
  settles : settled t g item ≡ true

failing : (s : Setting) (t : List (List Item)) (g l : List Item) → shows s l ≡ false → all_settled t g l ≡ true → Failing s t g
failing s t g [] v a = absurd (false≢true (sym v))
failing s t g (i ∷ l) v a =
    let parts = and_parts (settled t g i) (all_settled t g l) a in
    ⊎_elim
    (λ h. record { item = i; fails = h; settles = parts.0 })
    (λ h. failing s t g l h parts.1)
    (and_cases (holds i.sign (s i.plate)) (shows s l) v)

-- ## What is read off is forbidden

-- where a sign fails, its opposite holds
opposite_holds : (r u : Sign) (x : State) → opposite r ≡ Some u → holds r x ≡ false → holds u x ≡ true
opposite_holds r u x e h = grind arith

-- a sign that sits on what the group says of a plate holds where the group is shown
sits_holds : (r : Sign) (o : Option Sign) (x : State) → sits r o ≡ true → Within o (Some (sign_for x)) → holds r x ≡ true
sits_holds r o x h w = let a = w upper in let b = w lower in grind arith

-- where the opposite of a sign, or another sign that it does not sit on, is left at rest, the sign fails
opposite_fails : (r u : Sign) (y : State) → opposite r ≡ Some u → holds r (rest_at (Some u) y) ≡ false
opposite_fails r u y e = grind arith

opposite_rests : (r u : Sign) → opposite r ≡ Some u → starred (Some u) ≡ false
opposite_rests r u e = grind arith

star_fails : (r : Sign) (y : State) → opposite r ≡ None → holds r (rest_at None y) ≡ false
star_fails r y e = grind arith

other_fails : (r u : Sign) (y : State) → sits r (Some u) ≡ false → holds r (rest_at (Some u) y) ≡ false
other_fails r u y h = grind arith

pub with_line_sound : (f : Frame) → Sound f → (l : List Item) → group_over f.plates l ≡ true → Sound (with_line f l)
with_line_sound f sound l o = record { crew = sound.crew; plates = sound.plates; lines = All-push (λ k. group_over f.plates k ≡ true) f.lines l sound.lines o }

module _ (f : Frame) (sound : Sound f) (t : List (List Item)) (table : IsTable f t) where
  pub covered_excluded : (g : List Item) → covered_by t g ≡ true → Excluded f.lines g
  covered_excluded g h =
      let c = covered_cover t g h in
      let forb = (all-has (Shortest f) t c.group table.only c.member).forbidden in
      excluded_covered f.lines c.group g (over_parts f.plates c.group forb.fitted).rises c.over (forbidden_excluded f sound c.group forb)

  -- a setting that shows the group, and at which a settled item fails, shows a line
  settled_shows : (g : List Item) (s : Setting) → shows s g ≡ true → (i : Item) → holds i.sign (s i.plate) ≡ false → settled t g i ≡ true → shows_any s f.lines ≡ true
  settled_shows g s v i fails h =
      ⊎_elim
      (λ k. absurd (both_ways (holds i.sign (s i.plate)) fails (sits_holds i.sign (sign_at g i.plate) (s i.plate) k (shows_has s g v i.plate))))
      (λ k. with_opposite (opposite i.sign) refl (and_parts (not (names g i.plate)) (covered_with t g i.plate (opposite i.sign)) k).1)
      (or_cases (sits i.sign (sign_at g i.plate)) (not (names g i.plate) && covered_with t g i.plate (opposite i.sign)) h)
    where
      with_opposite : (o : Option Sign) → opposite i.sign ≡ o → covered_with t g i.plate o ≡ true → shows_any s f.lines ≡ true
      with_opposite None e k = absurd (false≢true k)
      with_opposite (Some u) e k =
          covered_excluded (insert (record { plate = i.plate; sign = u }) g) k s
          (shows_insert s (record { plate = i.plate; sign = u }) g ∙ and_from _ _ (opposite_holds i.sign u (s i.plate) e fails) v)

  read_excluded : (l g : List Item) → read_off t l g ≡ true → Excluded (f.lines ++ (l ∷ [])) g
  read_excluded l g h s v =
      shows_append s f.lines (l ∷ [])
      ∙ ⊎_elim
      (λ k. or_left (shows_any s f.lines) (shows s l || false) (covered_excluded g k s v))
      (λ k.
      ⊎_elim
      (λ w. or_right (shows_any s f.lines) (shows s l || false) (or_left (shows s l) false w))
      (λ w. let r = failing s t g l w k in or_left (shows_any s f.lines) (shows s l || false) (settled_shows g s v r.item r.fails r.settles))
      (cases_Bool (shows s l)))
      (or_cases (covered_by t g) (all_settled t g l) h)

  -- ## What is forbidden is read off

  module _ (l g : List Item) (over : group_over f.plates l ≡ true) (own : group_over f.plates g ≡ true) (able : manageable f g ≡ true) (x : Excluded (f.lines ++ (l ∷ [])) g) where
    -- where an item of the line fails at rest, a group that is shown only with g is excluded by the lines so far
    barred : (h : List Item) → rising 0 h ≡ true → ((s : Setting) → shows s h ≡ true → shows s g ≡ true) → (i : Item) → Has l i → ((y : State) → holds i.sign (rest_at (sign_at h i.plate) y) ≡ false) → Excluded f.lines h
    barred h r more i m fails s v =
        ⊎_elim
        (λ k. any_less f.plates (rest h s) s f.lines sound.lines (rest_less s h v) k)
        (λ k.
        ⊎_elim
        (λ w. absurd (both_ways (holds i.sign (rest h s i.plate)) (fails (s i.plate)) (shows_item (rest h s) l w i m)))
        (λ w. absurd (false≢true w))
        (or_cases (shows (rest h s) l) false k))
        (or_cases (shows_any (rest h s) f.lines) (shows (rest h s) l || false) (sym (shows_append (rest h s) f.lines (l ∷ [])) ∙ x (rest h s) (more (rest h s) (rest_shows s h r))))

    excluded_covered_by : (h : List Item) → group_over f.plates h ≡ true → manageable f h ≡ true → Excluded f.lines h → covered_by t h ≡ true
    excluded_covered_by h o m k = table_covers f sound t table h (excluded_forbidden f h o m k)

    -- g itself, where the item fails at each setting that rests on g
    itself : (i : Item) → Has l i → ((y : State) → holds i.sign (rest_at (sign_at g i.plate) y) ≡ false) → covered_by t g ≡ true
    itself i m fails = excluded_covered_by g own able (barred g (over_parts f.plates g own).rises (λ s v. v) i m fails)

    -- g with the item's opposite
    opposed : (i : Item) → Has l i → sign_at g i.plate ≡ None → (u : Sign) → opposite i.sign ≡ Some u → covered_by t (insert (record { plate = i.plate; sign = u }) g) ≡ true
    opposed i m n u e =
        excluded_covered_by h o
        (manageable_stars f sound h g o own (λ q z. cond_both (eqb i.plate q) (Some u) (sign_at g q) (λ w. starred w ≡ true → starred (sign_at g q) ≡ true) (λ _ y. absurd (both_ways (starred (Some u)) (opposite_rests i.sign u e) y)) (λ _ y. y) (ap starred (sym (insert_sign j g q n)) ∙ z)) able)
        (barred h (over_parts f.plates h o).rises
        (λ s v. (and_parts (holds u (s i.plate)) (shows s g) (sym (shows_insert s j g) ∙ v)).1)
        i m
        (λ y. ap (λ w. holds i.sign (rest_at w y)) (insert_sign j g i.plate n ∙ cond-true (eqb i.plate i.plate) (Some u) (sign_at g i.plate) (eq-eqb i.plate i.plate refl)) ∙ opposite_fails i.sign u y e))
      where
        j : Item
        j = record { plate = i.plate; sign = u }

        h : List Item
        h = insert j g

        o : group_over f.plates h ≡ true
        o =
            let b = rising_item 0 l (over_parts f.plates l over).rises i m in
            and_from _ _
            (insert_rises j 0 g b.0 b.1 n (over_parts f.plates g own).rises)
            (insert_fitted f.plates j g (fitted_item f.plates l (over_parts f.plates l over).fitted i m) (over_parts f.plates g own).fitted)

    item_settled : (i : Item) → Has l i → (covered_by t g ≡ true) ⊎ (settled t g i ≡ true)
    item_settled i m =
        ⊎_elim
        (λ k. inr (or_left (sits i.sign (sign_at g i.plate)) (not (names g i.plate) && covered_with t g i.plate (opposite i.sign)) k))
        (λ k. unsettled (sign_at g i.plate) refl k)
        (cases_Bool (sits i.sign (sign_at g i.plate)))
      where
        further : sign_at g i.plate ≡ None → (o : Option Sign) → opposite i.sign ≡ o → (covered_by t g ≡ true) ⊎ (settled t g i ≡ true)
        further n None e = inl (itself i m (λ y. ap (λ w. holds i.sign (rest_at w y)) n ∙ star_fails i.sign y e))
        further n (Some u) e =
            inr (or_right (sits i.sign (sign_at g i.plate)) (not (names g i.plate) && covered_with t g i.plate (opposite i.sign))
            (and_from _ _ (ap (λ w. not (is_some w)) n) (ap (covered_with t g i.plate) e ∙ opposed i m n u e)))

        unsettled : (o : Option Sign) → sign_at g i.plate ≡ o → sits i.sign (sign_at g i.plate) ≡ false → (covered_by t g ≡ true) ⊎ (settled t g i ≡ true)
        unsettled None n k = further n (opposite i.sign) refl
        unsettled (Some u) n k = inl (itself i m (λ y. ap (λ w. holds i.sign (rest_at w y)) n ∙ other_fails i.sign u y (ap (sits i.sign) (sym n) ∙ k)))

    items_settled : (k : List Item) → ((i : Item) → Has k i → Has l i) → (covered_by t g ≡ true) ⊎ (all_settled t g k ≡ true)
    items_settled [] sub = inr refl
    items_settled (i ∷ k) sub =
        ⊎_elim inl
        (λ a. ⊎_elim inl (λ b. inr (and_from _ _ a b)) (items_settled k (λ j m. sub j (has_later i j k m))))
        (item_settled i (sub i (has_first i k)))

    excluded_read : read_off t l g ≡ true
    excluded_read = ⊎_elim (λ a. or_left (covered_by t g) (all_settled t g l) a) (λ a. or_right (covered_by t g) (all_settled t g l) a) (items_settled l (λ i m. m))

pub one_more_line : OneMoreLine
one_more_line f sound t table l g over own able = (
  (λ h. excluded_forbidden (with_line f l) g own able (read_excluded f sound t table l g h)),
  (λ forb. excluded_read f sound t table l g over own able (forbidden_excluded (with_line f l) (with_line_sound f sound l over) g forb)),
)
