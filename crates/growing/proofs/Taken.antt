-- One group taken in, or met already. Assumes nothing.
use Rattle.std.proofs.Common.{◌≡◌, ℕ, ◌≤◌, Bool, true, false, cond, not, ◌||◌, ltb, List, [], ◌∷◌, ◌++◌, length, sym, refl, ap, ◌∙◌, subst, ⊎_elim, arith}
use Rattle.std.proofs.ByRecursion.{All-push, All-weaker}
use Rattle.std.proofs.lemmas.List.{append-nil, map-append}
use Rattle.std.proofs.lemmas.Bool.{or_cases, or_parts, or_left, or_right, or_from, not-false, cases_Bool, both_ways, false≢true, ltb-false}
use Rattle.groups.specs.declared.items.Item.{Item}
use Rattle.groups.specs.Items.{covers}
use Rattle.groups.specs.Rises.{climbing}
use Rattle.meaning.specs.Frames.{stars}
use Rattle.meaning.specs.Tables.{covered_by}
use Rattle.meaning.specs.Crews.{Lawful}
use Rattle.meaning.proofs.Ends.{covers_has, covers_trans}
use Rattle.meaning.proofs.Managed.{manageable_within}
use Rattle.telling.proofs.Drops.{spell_over}
use Rattle.placed.specs.declared.Placed.{Placed}
use Rattle.placed.specs.Signs.{Within}
use Rattle.placed.specs.Spelling.{spell}
use Rattle.placed.proofs.Spelled.{spelled_rises}
use Rattle.rows.specs.Rows.{spell_all, AllWithin}
use Rattle.telling.specs.Shortened.{Shortened}
use Rattle.growing.specs.Gathered.{Asked, Fresh, Apart, Gathered, Met, met_by, Grew, Overfull, Step}
use Rattle.growing.proofs.Ready.{Ready}

-- ## What is covered

pub covered_append : (t u : List (List Item)) (c : List Item) → covered_by (t ++ u) c ≡ (covered_by t c || covered_by u c)
covered_append [] u c = refl
covered_append (g ∷ t) u c = ap (λ b. covers g c || b) (covered_append t u c) ∙ assoc (covers g c) (covered_by t c) (covered_by u c)
  where
    assoc : (x y z : Bool) → (x || (y || z)) ≡ ((x || y) || z)
    assoc true y z = refl
    assoc false y z = refl

pub spell_append : (ps : List ℕ) (gs hs : List Placed) → spell_all ps (gs ++ hs) ≡ spell_all ps gs ++ spell_all ps hs
spell_append ps gs hs = map-append (spell ps) gs hs

pub covered_more : (ps : List ℕ) (gs hs : List Placed) (c : List Item) → covered_by (spell_all ps gs) c ≡ true → covered_by (spell_all ps (gs ++ hs)) c ≡ true
covered_more ps gs hs c h = ap (λ t. covered_by t c) (spell_append ps gs hs) ∙ covered_append (spell_all ps gs) (spell_all ps hs) c ∙ or_left (covered_by (spell_all ps gs) c) (covered_by (spell_all ps hs) c) h

covered_last : (ps : List ℕ) (gs : List Placed) (n : Placed) (c : List Item) → covers (spell ps n) c ≡ true → covered_by (spell_all ps (gs ++ (n ∷ []))) c ≡ true
covered_last ps gs n c h =
    ap (λ t. covered_by t c) (spell_append ps gs (n ∷ [])) ∙ covered_append (spell_all ps gs) (spell_all ps (n ∷ [])) c
    ∙ or_right (covered_by (spell_all ps gs) c) (covered_by (spell_all ps (n ∷ [])) c) (or_left (covers (spell ps n) c) false h)

-- ## Steps

pub grew_none : (gs : List Placed) → Grew gs gs
grew_none gs = record { more = []; is = sym (append-nil gs) }

pub met_grew : (a : Asked) (old new : List Placed) (c : List Item) → Grew old new → Met a old c → Met a new c
met_grew a old new c g m k t =
    ⊎_elim
    (λ h. or_left (covered_by (spell_all a.plates a.table) c) (covered_by (spell_all a.plates new) c) h)
    (λ h. or_right (covered_by (spell_all a.plates a.table) c) (covered_by (spell_all a.plates new) c) (ap (λ gs. covered_by (spell_all a.plates gs) c) g.is ∙ covered_more a.plates old g.more c h))
    (or_cases (covered_by (spell_all a.plates a.table) c) (covered_by (spell_all a.plates old) c) (m k t))

-- nothing is done, since nothing has to be
pub step_none : (a : Asked) (new : List Placed) (Goal : List Placed → Type 0) → Gathered a new → Goal new → Step a new new true Goal
step_none a new Goal g d = record { gathered = g; grew = grew_none new; done = λ _. d; full = λ e. absurd (false≢true (sym e)) }

-- ## A group taken in

-- what is covered by none of the groups before it stands apart from them
apart_push : (ps : List ℕ) (gs : List Placed) (n : Placed) → Apart ps gs → covered_by (spell_all ps gs) (spell ps n) ≡ false → Apart ps (gs ++ (n ∷ []))
apart_push ps [] n a h = (tt, tt)
apart_push ps (g ∷ gs) n a h =
    let parts = or_parts (covers (spell ps g) (spell ps n)) (covered_by (spell_all ps gs) (spell ps n)) h in
    (All-push (λ k. covers (spell ps g) (spell ps k) ≡ false) gs n a.0 parts.0, apart_push ps gs n a.1 parts.1)

-- what covers a group that is not covered is not covered
covered_back : (ps : List ℕ) (gs : List Placed) (x y : List Item) → climbing 0 ps ≡ true → covers x y ≡ true → covered_by (spell_all ps gs) y ≡ false → covered_by (spell_all ps gs) x ≡ false
covered_back ps [] x y c k h = refl
covered_back ps (g ∷ gs) x y c k h =
    let parts = or_parts (covers (spell ps g) y) (covered_by (spell_all ps gs) y) h in
    or_from _ _
    (⊎_elim (λ m. absurd (both_ways (covers (spell ps g) y) parts.0 (covers_trans (spell ps g) x y (spelled_rises ps g c) m k))) (λ m. m) (cases_Bool (covers (spell ps g) x)))
    (covered_back ps gs x y c k parts.1)

module _ (a : Asked) (new : List Placed) (ready : Ready a) (gathered : Gathered a new) (g s : Placed) (unmet : met_by a new (spell a.plates g) ≡ false) (short : Shortened g s a.plates (spell_all a.plates a.table) (spell a.plates a.line)) (able : a.crew (stars (spell a.plates s)) ≡ true) where
  ps : List ℕ
  ps = a.plates

  uncovered : (covered_by (spell_all a.plates a.table) (spell a.plates g) ≡ false) × (covered_by (spell_all a.plates new) (spell a.plates g) ≡ false)
  uncovered = or_parts (covered_by (spell_all a.plates a.table) (spell a.plates g)) (covered_by (spell_all a.plates new) (spell a.plates g)) (or_parts (covered_by (spell_all a.plates a.table) (spell a.plates g) || covered_by (spell_all a.plates new) (spell a.plates g)) (not (a.crew (stars (spell a.plates g)))) unmet).0

  fresh : Fresh a s
  fresh = record {
    within = short.shorter.within;
    managed = able;
    told = short.shorter.told;
    firm = short.firm;
    uncovered = covered_back a.plates a.table (spell a.plates s) (spell a.plates g) ready.climbs short.shorter.covering uncovered.0;
  }

  pub one_more : Gathered a (new ++ (s ∷ []))
  one_more = record {
    fresh = All-push (Fresh a) new s gathered.fresh fresh;
    apart = apart_push a.plates new s gathered.apart (covered_back a.plates new (spell a.plates s) (spell a.plates g) ready.climbs short.shorter.covering uncovered.1);
  }

  pub pushed : (after : List Placed) (r : Bool) → r ≡ ltb (length new) 512 → length new ≤ 512 → after ≡ cond r (new ++ (s ∷ [])) new → Step a new after r (λ news. Met a news (spell a.plates g))
  pushed after true e few is =
      record {
        gathered = subst (Gathered a) (sym is) one_more;
        grew = record { more = s ∷ []; is = is };
        done = λ _ k t. or_right (covered_by (spell_all a.plates a.table) (spell a.plates g)) (covered_by (spell_all a.plates after) (spell a.plates g)) (ap (λ gs. covered_by (spell_all a.plates gs) (spell a.plates g)) is ∙ covered_last a.plates new s (spell a.plates g) short.shorter.covering);
        full = λ z. absurd (false≢true (sym z));
      }
  pushed after false e few is =
      record {
        gathered = subst (Gathered a) (sym is) gathered;
        grew = record { more = []; is = is ∙ sym (append-nil new) };
        done = λ z. absurd (false≢true z);
        full = λ _. subst (Overfull a) (sym is) (record { extra = s; gathered = one_more; full = let l = ltb-false (length new) 512 (sym e) in omega arith });
      }

pub gathered_within : (a : Asked) (new : List Placed) → Gathered a new → AllWithin (length a.plates) new
gathered_within a new g = All-weaker (Fresh a) (Within (length a.plates)) (λ n f. f.within) new g.fresh

pub unmet_managed : (a : Asked) (new : List Placed) (c : List Item) → met_by a new c ≡ false → a.crew (stars c) ≡ true
unmet_managed a new c h = not-false (a.crew (stars c)) (or_parts (covered_by (spell_all a.plates a.table) c || covered_by (spell_all a.plates new) c) (not (a.crew (stars c))) h).1

-- what the crew can manage it can manage shortened
pub short_managed : (a : Asked) → Lawful a.crew → Ready a → (g s : Placed) → covers (spell a.plates s) (spell a.plates g) ≡ true → a.crew (stars (spell a.plates g)) ≡ true → a.crew (stars (spell a.plates s)) ≡ true
short_managed a laws ready g s c m =
    manageable_within (record { crew = a.crew; plates = a.plates; lines = [] }) (record { crew = laws; plates = ready.climbs; lines = tt }) (spell a.plates s) (spell a.plates g)
    (spell_over a.plates s ready.climbs) (spell_over a.plates g ready.climbs) (covers_has (spell a.plates s) (spell a.plates g) c) m
