-- Merging, one group after the other. Assumes nothing.
use Rattle.std.proofs.Common.{◌≡◌, ℕ, zero, suc, ◌+◌, ◌<◌, Bool, true, false, cond, not, ◌⊎◌, List, [], ◌∷◌, ◌++◌, length, get_or, take, filter, Ok, Err, is_err, Result, sym, refl, ap, ◌∙◌, subst, inl, inr, ⊎_elim, arith}
use Rattle.std.specs.List.{ContainsAt as Has}
use Rattle.std.proofs.lemmas.List.Elements.{filter_more}
use Rattle.std.proofs.ByRecursion.{all-has, All-get_or, all_kept_by, All-weaker, has_push_cases, has_push, has_append_left, all_has_itself}
use Rattle.std.proofs.lemmas.List.{append-nil, map_more, length-take-le, get_or-take}
use Rattle.std.proofs.lemmas.Bool.{and_parts, and_from, cond-true, cond-false, both_ways, not_from_true, not_from_false, not-true, false≢true}
use Rattle.groups.specs.declared.items.Item.{Item}
use Rattle.groups.specs.Items.{covers}
use Rattle.meaning.specs.Tables.{before, before_all, in_order, put_in_order, covered_by}
use Rattle.meaning.proofs.Covered.{cover_covered}
use Rattle.meaning.proofs.Ends.{covers_itself}
use Rattle.meaning.proofs.Members.{has_none, has_first, has_later, has_cases}
use Rattle.meaning.proofs.SomeTable.{place_new, place_old, place_all, place_order}
use Rattle.placed.specs.declared.Placed.{Placed}
use Rattle.placed.specs.Signs.{Within}
use Rattle.placed.specs.Spelling.{spell}
use Rattle.placed.proofs.Spelled.{spelled_rises}
use Rattle.fixed.specs.declared.methods.Full.{Full}
use Rattle.fixed.specs.declared.row.Row.{Row}
use Rattle.rows.specs.Rows.{spell_all, AllWithin}
use Rattle.growing.specs.Gathered.{Apart}
use Rattle.growing.specs.Merging.{uncovered_of, Mergeable, MergedUpto, MergeFull, MergesTo}
use Rattle.growing.proofs.Grown.{has_spelled, spelled_has}

-- ## The groups that stay

module _ (ps : List ℕ) (new table : List Placed) (i : ℕ) (d : Placed) (l : i < length table) where
  next : uncovered_of ps new (take (i + 1) table) ≡ uncovered_of ps new (take i table) ++ cond (not (covered_by (spell_all ps new) (spell ps (get_or table i d)))) (get_or table i d ∷ []) []
  next = filter_more (λ g. not (covered_by (spell_all ps new) (spell ps g))) table i d l

  pub stays_more : covered_by (spell_all ps new) (spell ps (get_or table i d)) ≡ false → uncovered_of ps new (take (i + 1) table) ≡ uncovered_of ps new (take i table) ++ (get_or table i d ∷ [])
  stays_more h = next ∙ ap (λ xs. uncovered_of ps new (take i table) ++ xs) (cond-true (not (covered_by (spell_all ps new) (spell ps (get_or table i d)))) (get_or table i d ∷ []) [] (not_from_false _ h))

  pub stays_same : covered_by (spell_all ps new) (spell ps (get_or table i d)) ≡ true → uncovered_of ps new (take (i + 1) table) ≡ uncovered_of ps new (take i table)
  stays_same h = next ∙ ap (λ xs. uncovered_of ps new (take i table) ++ xs) (cond-false (not (covered_by (spell_all ps new) (spell ps (get_or table i d)))) (get_or table i d ∷ []) [] (not_from_true _ h)) ∙ append-nil (uncovered_of ps new (take i table))

-- what is kept of groups in order is in order
before_kept : (ps : List ℕ) (q : Placed → Bool) (g : List Item) (gs : List Placed) → before_all g (spell_all ps gs) ≡ true → before_all g (spell_all ps (filter q gs)) ≡ true
before_kept ps q g [] h = refl
before_kept ps q g (x ∷ gs) h = let parts = and_parts (before g (spell ps x)) (before_all g (spell_all ps gs)) h in go (q x) parts.0 (before_kept ps q g gs parts.1)
  where
    go : (t : Bool) → before g (spell ps x) ≡ true → before_all g (spell_all ps (filter q gs)) ≡ true → before_all g (spell_all ps (cond t (x ∷ filter q gs) (filter q gs))) ≡ true
    go true a b = and_from _ _ a b
    go false a b = b

order_kept : (ps : List ℕ) (q : Placed → Bool) (gs : List Placed) → in_order (spell_all ps gs) ≡ true → in_order (spell_all ps (filter q gs)) ≡ true
order_kept ps q [] h = refl
order_kept ps q (x ∷ gs) h = let parts = and_parts (before_all (spell ps x) (spell_all ps gs)) (in_order (spell_all ps gs)) h in go (q x) (before_kept ps q (spell ps x) gs parts.0) (order_kept ps q gs parts.1)
  where
    go : (t : Bool) → before_all (spell ps x) (spell_all ps (filter q gs)) ≡ true → in_order (spell_all ps (filter q gs)) ≡ true → in_order (spell_all ps (cond t (x ∷ filter q gs) (filter q gs))) ≡ true
    go true a b = and_from _ _ a b
    go false a b = b

-- the groups that stay, by what they spell
kept_from : (ps : List ℕ) (q : List Item → Bool) (gs : List Placed) (c : List Item) → Has (spell_all ps (filter (λ g. q (spell ps g)) gs)) c → Has (spell_all ps gs) c × (q c ≡ true)
kept_from ps q [] c h = absurd (has_none c h)
kept_from ps q (x ∷ gs) c h = go (kept_from ps q gs c) (q (spell ps x)) refl h
  where
    go : (Has (spell_all ps (filter (λ g. q (spell ps g)) gs)) c → Has (spell_all ps gs) c × (q c ≡ true)) → (t : Bool) → q (spell ps x) ≡ t → Has (spell_all ps (cond t (x ∷ filter (λ g. q (spell ps g)) gs) (filter (λ g. q (spell ps g)) gs))) c → Has (spell_all ps (x ∷ gs)) c × (q c ≡ true)
    go below true e m = ⊎_elim (λ is. (subst (Has (spell_all ps (x ∷ gs))) is (has_first (spell ps x) (spell_all ps gs)), ap q (sym is) ∙ e)) (λ n. let r = below n in (has_later (spell ps x) c (spell_all ps gs) r.0, r.1)) (has_cases (spell ps x) c (spell_all ps (filter (λ g. q (spell ps g)) gs)) m)
    go below false e m = let r = below m in (has_later (spell ps x) c (spell_all ps gs) r.0, r.1)

kept_has : (ps : List ℕ) (q : List Item → Bool) (gs : List Placed) (c : List Item) → Has (spell_all ps gs) c → q c ≡ true → Has (spell_all ps (filter (λ g. q (spell ps g)) gs)) c
kept_has ps q [] c h e = absurd (has_none c h)
kept_has ps q (x ∷ gs) c h e =
    ⊎_elim
    (λ is. subst (λ t. Has (spell_all ps (cond t (x ∷ filter (λ g. q (spell ps g)) gs) (filter (λ g. q (spell ps g)) gs))) c) (sym (ap q is ∙ e)) (subst (Has (spell_all ps (x ∷ filter (λ g. q (spell ps g)) gs))) is (has_first (spell ps x) (spell_all ps (filter (λ g. q (spell ps g)) gs)))))
    (λ n. go (q (spell ps x)) (kept_has ps q gs c n e))
    (has_cases (spell ps x) c (spell_all ps gs) h)
  where
    go : (t : Bool) → Has (spell_all ps (filter (λ g. q (spell ps g)) gs)) c → Has (spell_all ps (cond t (x ∷ filter (λ g. q (spell ps g)) gs) (filter (λ g. q (spell ps g)) gs))) c
    go true m = has_later (spell ps x) c (spell_all ps (filter (λ g. q (spell ps g)) gs)) m
    go false m = m

pub merged_none : (ps : List ℕ) (table new r : List Placed) → Mergeable ps table new → r ≡ uncovered_of ps new table → MergedUpto 0 ps table new r
merged_none ps table new r m e =
    subst (MergedUpto 0 ps table new) (sym e)
    (record {
      within = all_kept_by (λ g. not (covered_by (spell_all ps new) (spell ps g))) (Within (length ps)) table m.old_within;
      order = order_kept ps (λ g. not (covered_by (spell_all ps new) (spell ps g))) table m.order;
      from = λ c h. let s = kept_from ps (λ b. not (covered_by (spell_all ps new) b)) table c h in inl (s.0, not-true (covered_by (spell_all ps new) c) s.1);
      old = λ c h n. kept_has ps (λ b. not (covered_by (spell_all ps new) b)) table c h (not_from_false (covered_by (spell_all ps new) c) n);
      added = λ c h. absurd (has_none c h);
    })

-- ## One new group more

-- a group is not covered by one that stands before it
apart_at : (ps : List ℕ) (gs : List Placed) (i j : ℕ) (d : Placed) → Apart ps gs → i < j → j < length gs → covers (spell ps (get_or gs i d)) (spell ps (get_or gs j d)) ≡ false
apart_at ps [] i j d a l m = absurd (omega arith)
apart_at ps (g ∷ gs) i zero d a l m = absurd (omega arith)
apart_at ps (g ∷ gs) zero (suc j) d a l m = All-get_or (λ h. covers (spell ps g) (spell ps h) ≡ false) gs j d (omega arith) a.0
apart_at ps (g ∷ gs) (suc i) (suc j) d a l m = apart_at ps gs i j d a.1 (omega arith) (omega arith)

module _ (ps : List ℕ) (table new r : List Placed) (k : ℕ) (d : Placed) (mergeable : Mergeable ps table new) (upto : MergedUpto k ps table new r) (l : k < length new) where
  abbrev g : Placed
  g = get_or new k d

  itself : covers (spell ps (get_or new k d)) (spell ps (get_or new k d)) ≡ true
  itself = covers_itself (spell ps (get_or new k d)) (spelled_rises ps (get_or new k d) mergeable.climbs)

  -- the group is none of those that are there
  pub not_there : Has (spell_all ps r) (spell ps (get_or new k d)) → ⊥
  not_there h =
      ⊎_elim
      (λ o. both_ways (covered_by (spell_all ps table) (spell ps (get_or new k d))) (All-get_or (λ n. covered_by (spell_all ps table) (spell ps n) ≡ false) new k d l mergeable.fresh) (cover_covered (spell_all ps table) (spell ps (get_or new k d)) (spell ps (get_or new k d)) o.0 itself))
      (λ t.
      let s = has_spelled ps (take k new) (spell ps (get_or new k d)) t in
      let b = s.there in
      let few : length (take k new) ≡ k = length-take-le k new (omega arith) in
      let is : spell ps (get_or new s.place d) ≡ spell ps (get_or new k d) = ap (spell ps) (sym (get_or-take k new s.place d (omega arith))) ∙ s.is d in
      both_ways (covers (spell ps (get_or new s.place d)) (spell ps (get_or new k d))) (apart_at ps new s.place k d mergeable.apart (omega arith) l) (ap (λ c. covers c (spell ps (get_or new k d))) is ∙ itself))
      (upto.from (spell ps (get_or new k d)) h)

  pub none_is : (h : Placed) → Has r h → h ≡ get_or new k d → ⊥
  none_is h m e = not_there (ap_has h m e)
    where
      ap_has : (h' : Placed) → Has r h' → h' ≡ get_or new k d → Has (spell_all ps r) (spell ps (get_or new k d))
      ap_has h' m' e' = subst (λ z. Has (spell_all ps r) (spell ps z)) (m'.2 d ∙ e') (spelled_has ps r m'.0 d m'.1)

  pub merged_more : (s : List Placed) → spell_all ps s ≡ put_in_order (spell ps (get_or new k d)) (spell_all ps r) → AllWithin (length ps) s → MergedUpto (k + 1) ps table new s
  merged_more s is w =
      record {
        within = w;
        order = ap in_order is ∙ place_order (spell ps (get_or new k d)) (spell_all ps r) upto.order;
        from = λ c h. all-has From (put_in_order (spell ps (get_or new k d)) (spell_all ps r)) c (place_all From (spell ps (get_or new k d)) (spell_all ps r) (inr last) (All-weaker (Has (spell_all ps r)) From (λ b m. ⊎_elim inl (λ t. inr (earlier b t)) (upto.from b m)) (spell_all ps r) (all_has_itself (spell_all ps r)))) (subst (λ xs. Has xs c) is h);
        old = λ c h n. subst (λ xs. Has xs c) (sym is) (place_old (spell ps (get_or new k d)) (spell_all ps r) c (upto.old c h n));
        added = λ c h. subst (λ xs. Has xs c) (sym is) (⊎_elim (λ t. place_old (spell ps (get_or new k d)) (spell_all ps r) c (upto.added c t)) (λ e. subst (Has (put_in_order (spell ps (get_or new k d)) (spell_all ps r))) e (place_new (spell ps (get_or new k d)) (spell_all ps r))) (has_push_cases (spell_all ps (take k new)) (spell ps (get_or new k d)) c (subst (λ xs. Has xs c) more h)));
      }
    where
      From : List Item → Type 0
      From c = (Has (spell_all ps table) c × (covered_by (spell_all ps new) c ≡ false)) ⊎ Has (spell_all ps (take (k + 1) new)) c

      more : spell_all ps (take (k + 1) new) ≡ spell_all ps (take k new) ++ (spell ps (get_or new k d) ∷ [])
      more = map_more (spell ps) new k d l

      last : Has (spell_all ps (take (k + 1) new)) (spell ps (get_or new k d))
      last = subst (λ xs. Has xs (spell ps (get_or new k d))) (sym more) (has_push (spell_all ps (take k new)) (spell ps (get_or new k d)))

      earlier : (c : List Item) → Has (spell_all ps (take k new)) c → Has (spell_all ps (take (k + 1) new)) c
      earlier c t = subst (λ xs. Has xs c) (sym more) (has_append_left (spell_all ps (take k new)) (spell ps (get_or new k d) ∷ []) c t)

-- ## Where it was refused

pub merge_refused : (table new : List Placed) (r : Result (Row Placed 512) Full) → is_err r ≡ true → ((ps : List ℕ) → Mergeable ps table new → MergeFull ps table new) → MergesTo table new r
merge_refused table new (Ok x) e f = absurd (false≢true e)
merge_refused table new (Err x) e f = f
