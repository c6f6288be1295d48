-- Groups gathered to the end, with those of the table, are all that is forbidden with one more line. Assumes nothing.
use Rattle.std.proofs.Common.{◌≡◌, ℕ, zero, suc, ◌<◌, true, false, not, ◌||◌, ◌⊎◌, List, [], ◌∷◌, ◌++◌, length, get_or, Some, Decides, Option, sym, refl, ap, ◌∙◌, subst, inl, inr, ⊎_elim, arith}
use Rattle.std.specs.List.{ContainsAt as Has, AllByRecursion}
use Rattle.std.proofs.ByRecursion.{all-has, all_has_itself, All-weaker, All-get_or, All-append, has_push_cases}
use Rattle.std.proofs.lemmas.Bool.{and_from, or_left, cases_Bool, cases_order, both_ways, false≢true, not_from_false}
use Rattle.groups.specs.declared.items.Item.{Item}
use Rattle.groups.specs.declared.items.Sign.{Sign}
use Rattle.groups.specs.declared.items.Sign.TheVariants.{Plus, Minus}
use Rattle.groups.specs.Items.{rising, sign_at, covers, Combination}
use Rattle.groups.proofs.Climbing.{place_cases}
use Rattle.meaning.specs.States.{Setting, shows_any}
use Rattle.meaning.specs.Frames.{Frame, Sound, group_over, stars, moving, manageable, possible, Forbidden, Shortest}
use Rattle.meaning.specs.Tables.{IsTable, in_order, covered_by}
use Rattle.meaning.specs.Laws.{with_line, Closed}
use Rattle.meaning.proofs.Ends.{End, upper, lower, ends, has_covers, covers_same, covers_trans}
use Rattle.meaning.proofs.Fitted.{over_parts}
use Rattle.meaning.proofs.Combining.{combination_is_forbidden}
use Rattle.meaning.proofs.Complete.{method_is_complete}
use Rattle.meaning.proofs.Covered.{Cover, covered_cover, cover_covered, shown_any}
use Rattle.meaning.proofs.Cuts.{shows_append}
use Rattle.meaning.proofs.Members.{has_none, has_first, has_later, has_cases}
use Rattle.meaning.proofs.OneMore.{one_more_line, with_line_sound}
use Rattle.meaning.proofs.Resting.{rest, rest_less, rest_moving, any_less, excluded_forbidden, forbidden_excluded}
use Rattle.meaning.proofs.Shrinking.{table_covers}
use Rattle.meaning.proofs.SomeCutList.{setting_fails}
use Rattle.meaning.proofs.Trial.{every_setting, excludes, excluded_tried}
use Rattle.placed.specs.declared.Placed.{Placed}
use Rattle.placed.specs.declared.End.TheVariants.{Upper, Lower}
use Rattle.placed.specs.Signs.{has_end}
use Rattle.placed.specs.Spelling.{spell}
use Rattle.placed.proofs.Ends.{blank}
use Rattle.placed.proofs.Spelled.{spelled_none, spelled_rises}
use Rattle.rows.specs.Rows.{spell_all}
use Rattle.telling.proofs.Drops.{spell_over, spell_all_over}
use Rattle.growing.specs.Gathered.{Asked, told_of, Fresh, Gathered, Met, Joined, Paired, Complete, Possible}
use Rattle.growing.proofs.Ready.{Ready}
use Rattle.growing.proofs.Taken.{covered_append}

-- ## Lists of spelled groups

-- a group that is spelled by one of a list
pub record Spelled (ps : List ℕ) (gs : List Placed) (c : List Item) : Type 0 where
  pub place : ℕ
  pub there : place < length gs
  pub is : (d : Placed) → spell ps (get_or gs place d) ≡ c

pub has_spelled : (ps : List ℕ) (gs : List Placed) (c : List Item) → Has (spell_all ps gs) c → Spelled ps gs c
has_spelled ps [] c h = absurd (has_none c h)
has_spelled ps (g ∷ gs) c h =
    ⊎_elim
    (λ e. record { place = 0; there = omega arith; is = λ d. e })
    (λ t. let r = has_spelled ps gs c t in let l = r.there in record { place = suc r.place; there = omega arith; is = r.is })
    (has_cases (spell ps g) c (spell_all ps gs) h)

pub spelled_has : (ps : List ℕ) (gs : List Placed) (i : ℕ) (d : Placed) → i < length gs → Has (spell_all ps gs) (spell ps (get_or gs i d))
spelled_has ps [] i d l = absurd (omega arith)
spelled_has ps (g ∷ gs) zero d l = has_first (spell ps g) (spell_all ps gs)
spelled_has ps (g ∷ gs) (suc i) d l = has_later (spell ps g) (spell ps (get_or gs i d)) (spell_all ps gs) (spelled_has ps gs i d (omega arith))

has_append_cases : {X : Type 0} (xs ys : List X) (x : X) → Has (xs ++ ys) x → Has xs x ⊎ Has ys x
has_append_cases [] ys x h = inr h
has_append_cases (y ∷ xs) ys x h =
    ⊎_elim
    (λ e. inl (subst (Has (y ∷ xs)) e (has_first y xs)))
    (λ t. ⊎_elim (λ m. inl (has_later y x xs m)) inr (has_append_cases xs ys x t))
    (has_cases y x (xs ++ ys) h)

upper_end : (o : Option Sign) → has_end Upper o ≡ ends o upper
upper_end o = grind arith

lower_end : (o : Option Sign) → has_end Lower o ≡ ends o lower
lower_end o = grind arith

module _ (a : Asked) (lines : List (List Item)) (ready : Ready a) where
  abbrev pub frame : Frame
  frame = record { crew = a.crew; plates = a.plates; lines = lines }

  abbrev pub line_items : List Item
  line_items = spell a.plates a.line

  abbrev pub table_items : List (List Item)
  table_items = spell_all a.plates a.table

  abbrev pub grown_frame : Frame
  grown_frame = with_line frame line_items

  line_over : group_over a.plates line_items ≡ true
  line_over = spell_over a.plates a.line ready.climbs

  module _ (sound : Sound frame) (table : IsTable frame table_items) where
    pub grown_sound : Sound grown_frame
    grown_sound = with_line_sound frame sound line_items line_over

    pub tells_forbidden_lem : (c : List Item) → group_over a.plates c ≡ true → a.crew (stars c) ≡ true → Decides (told_of a c) (Forbidden grown_frame c)
    tells_forbidden_lem c o m = one_more_line frame sound table_items table line_items c line_over o m

    -- ## New groups are shortest

    pub fresh_forbidden : (n : Placed) → Fresh a n → Forbidden grown_frame (spell a.plates n)
    fresh_forbidden n f = (tells_forbidden_lem (spell a.plates n) (spell_over a.plates n ready.climbs) f.managed).0 f.told

    pub fresh_shortest : (n : Placed) → Fresh a n → Shortest grown_frame (spell a.plates n)
    fresh_shortest n f =
        record {
          forbidden = fresh_forbidden n f;
          alone = λ h fh c. covers_same h g (over_parts ps h fh.fitted).rises (spelled_rises ps n ready.climbs) c (has_covers g h (spelled_rises ps n ready.climbs) (λ q. kept h fh c q (place_cases ps q)));
        }
      where
        ps : List ℕ
        ps = a.plates

        g : List Item
        g = spell a.plates n

        at_end : (h : List Item) → Forbidden grown_frame h → covers h g ≡ true → (j : ℕ) → j < length ps → (e : End) → ends (sign_at g (get_or ps j 0)) e ≡ true → ends (sign_at h (get_or ps j 0)) e ≡ true
        at_end h fh c j l upper q = sym (upper_end (sign_at h (get_or ps j 0))) ∙ f.firm j l Upper h fh.fitted c ((tells_forbidden_lem h fh.fitted fh.managed).1 fh) (upper_end (sign_at g (get_or ps j 0)) ∙ q)
        at_end h fh c j l lower q = sym (lower_end (sign_at h (get_or ps j 0))) ∙ f.firm j l Lower h fh.fitted c ((tells_forbidden_lem h fh.fitted fh.managed).1 fh) (lower_end (sign_at g (get_or ps j 0)) ∙ q)

        kept : (h : List Item) → Forbidden grown_frame h → covers h g ≡ true → (q : ℕ) → ((j : ℕ) × (j < length ps) × (get_or ps j 0 ≡ q)) ⊎ ((j : ℕ) → j < length ps → get_or ps j 0 ≡ q → ⊥) → (e : End) → ends (sign_at g q) e ≡ true → ends (sign_at h q) e ≡ true
        kept h fh c q (inl m) e z = subst (λ p. ends (sign_at g p) e ≡ true → ends (sign_at h p) e ≡ true) m.2 (at_end h fh c m.0 m.1 e) z
        kept h fh c q (inr m) e z = absurd (false≢true (sym (ap (λ o. ends o e) (spelled_none ps n q m)) ∙ z))

    -- what is forbidden with the lines so far is forbidden with one more
    pub still_forbidden : (c : List Item) → Forbidden frame c → Forbidden grown_frame c
    still_forbidden c forb =
        excluded_forbidden grown_frame c forb.fitted forb.managed (λ s v.
        shows_append s lines (line_items ∷ []) ∙ or_left (shows_any s lines) (shows_any s (line_items ∷ [])) (forbidden_excluded frame sound c forb s v))

    -- a line that the crew can manage is forbidden
    line_forbidden : (f : Frame) → (c : List Item) → group_over f.plates c ≡ true → manageable f c ≡ true → Has f.lines c → Forbidden f c
    line_forbidden f c o m h = excluded_forbidden f c o m (λ s v. shown_any s f.lines c h v)

    -- ## Nothing is left to add

    module _ (new : List Placed) (gathered : Gathered a new) (complete : Complete a new) where
      abbrev pub all_items : List (List Item)
      all_items = table_items ++ spell_all a.plates new

      either_covered : (c : List Item) → (covered_by table_items c || covered_by (spell_all a.plates new) c) ≡ true → covered_by all_items c ≡ true
      either_covered c h = covered_append table_items (spell_all a.plates new) c ∙ h

      by_table : (c : List Item) → covered_by table_items c ≡ true → covered_by all_items c ≡ true
      by_table c h = either_covered c (or_left (covered_by table_items c) (covered_by (spell_all a.plates new) c) h)

      met_covered : (c : List Item) → group_over a.plates c ≡ true → a.crew (stars c) ≡ true → Forbidden grown_frame c → Met a new c → covered_by all_items c ≡ true
      met_covered c o m forb met = either_covered c (met m ((tells_forbidden_lem c o m).1 forb))

      table_forbidden : (c : List Item) → Has table_items c → Forbidden frame c
      table_forbidden c h = (all-has (Shortest frame) table_items c table.only h).forbidden

      new_forbidden : (c : List Item) → Has (spell_all a.plates new) c → Forbidden grown_frame c
      new_forbidden c h = let r = has_spelled a.plates new c h in subst (Forbidden grown_frame) (r.is blank) (fresh_forbidden (get_or new r.place blank) (All-get_or (Fresh a) new r.place blank r.there gathered.fresh))

      pub all_forbidden_lem : (c : List Item) → Has all_items c → Forbidden grown_frame c
      all_forbidden_lem c h = ⊎_elim (λ m. still_forbidden c (table_forbidden c m)) (new_forbidden c) (has_append_cases table_items (spell_all a.plates new) c h)

      -- two groups of which one at least is new
      new_with_table : (x : ℕ) (g h c : List Item) → Has (spell_all a.plates new) g → Has table_items h → Joined x g h c → Met a new c
      new_with_table x g h c mg mh j =
          let r = has_spelled a.plates new g mg in
          let s = has_spelled a.plates a.table h mh in
          All-get_or (Paired a new (get_or new r.place blank)) a.table s.place blank s.there ((complete.closed r.place r.there).table blank) x c
          (subst (λ z. Joined x z (spell a.plates (get_or a.table s.place blank)) c) (sym (r.is blank)) (subst (λ z. Joined x g z c) (sym (s.is blank)) j))

      turned : (x : ℕ) (g h c : List Item) → Joined x g h c → Joined x h g c
      turned x g h c (inl k) = inr k
      turned x g h c (inr k) = inl k

      not_itself : (x : ℕ) (g c : List Item) → Combination x g g c → ⊥
      not_itself x g c k = let e : Some Plus ≡ Some Minus = sym k.plus ∙ k.minus in let z : ◌≡◌ {A = ℕ} 0 1 = cc in omega arith

      new_with_new : (x : ℕ) (g h c : List Item) → Has (spell_all a.plates new) g → Has (spell_all a.plates new) h → Combination x g h c → Met a new c
      new_with_new x g h c mg mh k =
          ⊎_elim
          (λ e. absurd (not_itself x g c (subst (λ z. Combination x g z c) (sym (same e)) k)))
          (λ d.
          ⊎_elim
          (λ l. (complete.closed s.place s.there).before blank r.place l x c (turned x (at r) (at s) c joined))
          (λ l. (complete.closed r.place r.there).before blank s.place l x c joined)
          d)
          (cases_order r.place s.place)
        where
          r : Spelled a.plates new g
          r = has_spelled a.plates new g mg

          s : Spelled a.plates new h
          s = has_spelled a.plates new h mh

          at : {b : List Item} → Spelled a.plates new b → List Item
          at q = spell a.plates (get_or new q.place blank)

          joined : Joined x (at r) (at s) c
          joined = subst (λ z. Joined x z (at s) c) (sym (r.is blank)) (subst (λ z. Joined x g z c) (sym (s.is blank)) (inl k))

          same : r.place ≡ s.place → g ≡ h
          same e = sym (r.is blank) ∙ ap (λ i. spell a.plates (get_or new i blank)) e ∙ s.is blank

      line_covered : (c : List Item) → Has (lines ++ (line_items ∷ [])) c → manageable grown_frame c ≡ true → covered_by all_items c ≡ true
      line_covered c h m =
          ⊎_elim
          (λ k. by_table c (table_covers frame sound table_items table c (line_forbidden frame c (all-has (λ l. group_over a.plates l ≡ true) lines c sound.lines k) m k)))
          (λ e. subst (λ z. covered_by all_items z ≡ true) e (met_covered line_items line_over (ap (λ z. a.crew (stars z)) e ∙ m) (line_forbidden grown_frame line_items line_over (ap (λ z. a.crew (stars z)) e ∙ m) (subst (Has (lines ++ (line_items ∷ []))) (sym e) h)) complete.line))
          (has_push_cases lines line_items c h)

      combination_covered : (x : ℕ) (g h c : List Item) → Has all_items g → Has all_items h → Combination x g h c → manageable grown_frame c ≡ true → covered_by all_items c ≡ true
      combination_covered x g h c mg mh k m =
          ⊎_elim
          (λ tg.
          ⊎_elim
          (λ th. by_table c (table_covers frame sound table_items table c (combination_is_forbidden frame sound x g h c (table_forbidden g tg) (table_forbidden h th) k m)))
          (λ nh. by_met (new_with_table x h g c nh tg (inr k)))
          (has_append_cases table_items (spell_all a.plates new) h mh))
          (λ ng.
          ⊎_elim
          (λ th. by_met (new_with_table x g h c ng th (inl k)))
          (λ nh. by_met (new_with_new x g h c ng nh k))
          (has_append_cases table_items (spell_all a.plates new) h mh))
          (has_append_cases table_items (spell_all a.plates new) g mg)
        where
          forb : Forbidden grown_frame c
          forb = combination_is_forbidden grown_frame grown_sound x g h c (all_forbidden_lem g mg) (all_forbidden_lem h mh) k m

          by_met : Met a new c → covered_by all_items c ≡ true
          by_met met = met_covered c forb.fitted m forb met

      all_closed : Closed grown_frame all_items
      all_closed = record {
        over = All-append (λ g. group_over a.plates g ≡ true) table_items (spell_all a.plates new) (spell_all_over a.plates a.table ready.climbs) (spell_all_over a.plates new ready.climbs);
        lines = line_covered;
        combinations = combination_covered;
      }

      -- so the table and the new groups cover all that is forbidden
      pub forbidden_covered : (c : List Item) → Forbidden grown_frame c → Cover all_items c
      forbidden_covered c forb = covered_cover all_items c (method_is_complete grown_frame grown_sound all_items all_closed c forb)

      -- ## The table with the new groups

      -- the groups of the table that no new group covers, and the new groups, in order
      pub record Merged (r : List (List Item)) : Type 0 where
        pub order : in_order r ≡ true
        pub from : (c : List Item) → Has r c → (Has table_items c × (covered_by (spell_all a.plates new) c ≡ false)) ⊎ Has (spell_all a.plates new) c
        pub old : (c : List Item) → Has table_items c → covered_by (spell_all a.plates new) c ≡ false → Has r c
        pub added : (c : List Item) → Has (spell_all a.plates new) c → Has r c

      pub new_shortest : (c : List Item) → Has (spell_all a.plates new) c → Shortest grown_frame c
      new_shortest c h = let r = has_spelled a.plates new c h in subst (Shortest grown_frame) (r.is blank) (fresh_shortest (get_or new r.place blank) (All-get_or (Fresh a) new r.place blank r.there gathered.fresh))

      pub old_shortest : (c : List Item) → Has table_items c → covered_by (spell_all a.plates new) c ≡ false → Shortest grown_frame c
      old_shortest c m n =
          record {
            forbidden = still_forbidden c (table_forbidden c m);
            alone = λ h fh k. let u = forbidden_covered h fh in covers_same h c (over_parts a.plates h fh.fitted).rises (over_parts a.plates c (table_forbidden c m).fitted).rises k (back h k u (has_append_cases table_items (spell_all a.plates new) u.group u.member));
          }
        where
          rises_of : (h : List Item) → Has all_items h → rising 0 h ≡ true
          rises_of h z = (over_parts a.plates h (all_forbidden_lem h z).fitted).rises

          back : (h : List Item) → covers h c ≡ true → (u : Cover all_items h) → Has table_items u.group ⊎ Has (spell_all a.plates new) u.group → covers c h ≡ true
          back h k u (inl z) = subst (λ y. covers y h ≡ true) ((all-has (Shortest frame) table_items c table.only m).alone u.group (table_forbidden u.group z) (covers_trans u.group h c (rises_of u.group u.member) u.over k)) u.over
          back h k u (inr z) = absurd (both_ways (covered_by (spell_all a.plates new) c) n (cover_covered (spell_all a.plates new) c u.group z (covers_trans u.group h c (rises_of u.group u.member) u.over k)))

      pub merged_shortest : (r : List (List Item)) → Merged r → AllByRecursion (Shortest grown_frame) r
      merged_shortest r m = All-weaker (Has r) (Shortest grown_frame) (λ c h. ⊎_elim (λ o. old_shortest c o.0 o.1) (new_shortest c) (m.from c h)) r (all_has_itself r)

      pub merged_table : (r : List (List Item)) → Merged r → IsTable grown_frame r
      merged_table r m =
          record {
            every = λ g s. let u = forbidden_covered g s.forbidden in subst (Has r) (s.alone u.group (all_forbidden_lem u.group u.member) u.over) (there g s u (has_append_cases table_items (spell_all a.plates new) u.group u.member));
            only = merged_shortest r m;
            order = m.order;
          }
        where
          there : (g : List Item) → Shortest grown_frame g → (u : Cover all_items g) → Has table_items u.group ⊎ Has (spell_all a.plates new) u.group → Has r u.group
          there g s u (inr z) = m.added u.group z
          there g s u (inl z) =
              ⊎_elim
              (λ y.
              let n = covered_cover (spell_all a.plates new) u.group y in
              let is = s.alone u.group (all_forbidden_lem u.group u.member) u.over in
              subst (Has r) (s.alone n.group (new_forbidden n.group n.member) (subst (λ q. covers n.group q ≡ true) is n.over) ∙ sym is) (m.added n.group n.member))
              (λ y. m.old u.group z y)
              (cases_Bool (covered_by (spell_all a.plates new) u.group))

    -- ## Whether a setting is possible

    pub nothing_left : told_of a [] ≡ true → (s : Setting) → possible grown_frame s ≡ false
    nothing_left h s =
        ⊎_elim
        (λ p. absurd (false≢true (sym (((tells_forbidden_lem [] refl sound.crew.none).0 h).never s p))))
        (λ p. p)
        (cases_Bool (possible grown_frame s))

    pub something_left : told_of a [] ≡ false → Possible grown_frame
    something_left h =
        let free : every_setting a.plates (excludes grown_frame.lines []) ≡ false = not_all (cases_Bool (every_setting a.plates (excludes grown_frame.lines []))) in
        let r = setting_fails a.plates (excludes grown_frame.lines []) free in
        let s = r.setting in
        record {
          setting = rest [] s;
          possible = and_from (a.crew (moving grown_frame (rest [] s))) (not (shows_any (rest [] s) grown_frame.lines))
              (ap a.crew (rest_moving grown_frame grown_sound s [] refl) ∙ sound.crew.none)
              (not_from_false (shows_any (rest [] s) grown_frame.lines) (⊎_elim (λ y. absurd (both_ways (shows_any s grown_frame.lines) r.failed (any_less a.plates (rest [] s) s grown_frame.lines grown_sound.lines (rest_less s [] refl) y))) (λ y. y) (cases_Bool (shows_any (rest [] s) grown_frame.lines))));
        }
      where
        not_all : (every_setting a.plates (excludes grown_frame.lines []) ≡ true) ⊎ (every_setting a.plates (excludes grown_frame.lines []) ≡ false) → every_setting a.plates (excludes grown_frame.lines []) ≡ false
        not_all (inl y) = absurd (both_ways (told_of a []) h ((tells_forbidden_lem [] refl sound.crew.none).1 (excluded_forbidden grown_frame [] refl sound.crew.none ((excluded_tried a.plates grown_frame.lines [] grown_sound.lines refl).0 y))))
        not_all (inr y) = y
