-- A forbidden group can be shortened, one end after the other, to a shortest one: so the table covers it. Assumes nothing.
use Rattle.std.proofs.Common.{◌≡◌, ℕ, true, false, eqb, List, [], ◌∷◌, Some, None, Option, sym, refl, ap, ◌∙◌, subst, ⊎_elim, arith}
use Rattle.std.proofs.lemmas.Bool.{or_cases, or_left, or_right, eq-eqb, eqb-true, cases_Bool, both_ways, false≢true}
use Rattle.groups.specs.declared.items.Item.{Item}
use Rattle.groups.specs.declared.items.Sign.{Sign}
use Rattle.groups.specs.declared.items.Sign.TheVariants.{Plus, Minus, Star}
use Rattle.groups.specs.Items.{sign_at, covers}
use Rattle.meaning.specs.Frames.{Frame, Sound, is_one_of, group_over, Forbidden, Shortest}
use Rattle.meaning.specs.Laws.{Excluded, TableCovers}
use Rattle.meaning.proofs.Ends.{End, upper, lower, ends, Within, covers_has, has_covers, covers_same, covers_trans, covers_itself}
use Rattle.meaning.proofs.Fitted.{over_parts, items_over, fitted_names, has_named}
use Rattle.meaning.proofs.Given.{given_sign, given, given_here, given_other, given_less}
use Rattle.meaning.proofs.Combining.{within_all}
use Rattle.meaning.proofs.Covered.{cover_covered}
use Rattle.meaning.proofs.Managed.{manageable_within}
use Rattle.meaning.proofs.Resting.{forbidden_excluded, excluded_forbidden, excluded_covered}
use Rattle.meaning.proofs.Trial.{every_setting, excludes, excluded_tried}

-- ## One end less

abbrev pub drop_end : End → Option Sign → Option Sign
drop_end e None = None
drop_end upper (Some Plus) = None
drop_end lower (Some Plus) = Some Plus
drop_end upper (Some Minus) = Some Minus
drop_end lower (Some Minus) = None
drop_end upper (Some Star) = Some Minus
drop_end lower (Some Star) = Some Plus

drop_gone : (e : End) (o : Option Sign) → ends (drop_end e o) e ≡ false
drop_gone e o = grind arith

drop_within : (e : End) (o : Option Sign) → Within (drop_end e o) o
drop_within e o d q = grind arith

-- what has not that end is still within
drop_keeps : (e : End) (k o : Option Sign) → Within k o → ends k e ≡ false → Within k (drop_end e o)
drop_keeps e k o w n d q = let a = w d in grind arith

module _ (f : Frame) (sound : Sound f) where
  -- the group without one end of a lever
  abbrev pub without : List Item → ℕ → End → List Item
  without g p e = given f.plates g p (drop_end e (sign_at g p))

  without_over : (g : List Item) (p : ℕ) (e : End) → group_over f.plates (without g p e) ≡ true
  without_over g p e = items_over (given_sign g p (drop_end e (sign_at g p))) f.plates sound.plates

  -- a group within another, and without one of its ends, is within the other without that end
  pub within_without : (k g : List Item) (p : ℕ) (e : End) → group_over f.plates g ≡ true → is_one_of f.plates p ≡ true → ((q : ℕ) → Within (sign_at k q) (sign_at g q)) → ends (sign_at k p) e ≡ false → (q : ℕ) → Within (sign_at k q) (sign_at (without g p e) q)
  within_without k g p e o m w n =
      within_all k (sign_at (without g p e)) p
      (λ d h. ap (λ u. ends u d) (given_here f.plates g p (drop_end e (sign_at g p)) sound.plates o m) ∙ drop_keeps e (sign_at k p) (sign_at g p) (w p) n d h)
      (λ q ne d h. ap (λ u. ends u d) (given_other f.plates g p (drop_end e (sign_at g p)) sound.plates o m q ne) ∙ w q d h)

  pub without_less : (g : List Item) (p : ℕ) (e : End) → group_over f.plates g ≡ true → is_one_of f.plates p ≡ true → (q : ℕ) → Within (sign_at (without g p e) q) (sign_at g q)
  without_less g p e o m = given_less f.plates g p (drop_end e (sign_at g p)) sound.plates o m (drop_within e (sign_at g p))

  without_gone : (g : List Item) (p : ℕ) (e : End) → group_over f.plates g ≡ true → is_one_of f.plates p ≡ true → ends (sign_at (without g p e) p) e ≡ false
  without_gone g p e o m = ap (λ u. ends u e) (given_here f.plates g p (drop_end e (sign_at g p)) sound.plates o m) ∙ drop_gone e (sign_at g p)

  -- an end of the group cannot go
  abbrev pub Tight : List Item → ℕ → End → Type 0
  Tight g p e = ends (sign_at g p) e ≡ true → Excluded f.lines (without g p e) → ⊥

  -- then it cannot go from a group that covers it
  tight_less : (h g : List Item) (p : ℕ) (e : End) → group_over f.plates h ≡ true → group_over f.plates g ≡ true → is_one_of f.plates p ≡ true → covers h g ≡ true → Tight g p e → Tight h p e
  tight_less h g p e oh og m c tight n x =
      tight (covers_has h g c p e n)
      (excluded_covered f.lines (without h p e) (without g p e) (over_parts f.plates (without h p e) (without_over h p e)).rises
      (has_covers (without h p e) (without g p e) (over_parts f.plates (without h p e) (without_over h p e)).rises
      (within_without (without h p e) g p e og m (λ q d z. covers_has h g c q d (without_less h p e oh m q d z)) (without_gone h p e oh m)))
      x)

  -- ## Shortening

  -- a forbidden group that covers g, of which an end of these plates cannot go
  record Shorter (g : List Item) (Plate : ℕ → End → Type 0) : Type 0 where
    group : List Item
    forbidden : Forbidden f group
    covering : covers group g ≡ true
    tight : (p : ℕ) (e : End) → Plate p e → Tight group p e

  -- one end goes if it can
  shorten_end : (g : List Item) → Forbidden f g → (p : ℕ) → is_one_of f.plates p ≡ true → (e : End) → Shorter g (λ q d. (q ≡ p) × (d ≡ e))
  shorten_end g forb p m e =
      ⊎_elim
      (λ h. taken ((excluded_tried f.plates f.lines (without g p e) sound.lines (without_over g p e)).0 h))
      (λ h. left (λ x. both_ways (every_setting f.plates (excludes f.lines (without g p e))) h ((excluded_tried f.plates f.lines (without g p e) sound.lines (without_over g p e)).1 x)))
      (cases_Bool (every_setting f.plates (excludes f.lines (without g p e))))
    where
      taken : Excluded f.lines (without g p e) → Shorter g (λ q d. (q ≡ p) × (d ≡ e))
      taken x =
          record {
            group = without g p e;
            forbidden = excluded_forbidden f (without g p e) (without_over g p e) (manageable_within f sound (without g p e) g (without_over g p e) forb.fitted (without_less g p e forb.fitted m) forb.managed) x;
            covering = has_covers (without g p e) g (over_parts f.plates (without g p e) (without_over g p e)).rises (without_less g p e forb.fitted m);
            tight = λ q d same n y. false≢true (sym (without_gone g p e forb.fitted m) ∙ (λ i. ends (sign_at (without g p e) (sym same.0 i)) (sym same.1 i)) ∙ n);
          }

      left : (Excluded f.lines (without g p e) → ⊥) → Shorter g (λ q d. (q ≡ p) × (d ≡ e))
      left no_way =
          record {
            group = g;
            forbidden = forb;
            covering = covers_itself g (over_parts f.plates g forb.fitted).rises;
            tight = λ q d same n y. no_way (subst (Excluded f.lines) (λ i. without g (same.0 i) (same.1 i)) y);
          }

  -- one end after the other, of each of the plates
  shorten : (todo : List ℕ) → ((p : ℕ) → is_one_of todo p ≡ true → is_one_of f.plates p ≡ true) → (g : List Item) → Forbidden f g → Shorter g (λ q d. is_one_of todo q ≡ true)
  shorten [] sub g forb =
      record {
        group = g;
        forbidden = forb;
        covering = covers_itself g (over_parts f.plates g forb.fitted).rises;
        tight = λ q d h. absurd (false≢true h);
      }
  shorten (p ∷ todo) sub g forb =
      let r = shorten todo (λ q h. sub q (or_right (eqb p q) (is_one_of todo q) h)) g forb in
      let m = sub p (or_left (eqb p p) (is_one_of todo p) (eq-eqb p p refl)) in
      let u = shorten_end r.group r.forbidden p m upper in
      let l = shorten_end u.group u.forbidden p m lower in
      joined r u l
    where
      joined : (r : Shorter g (λ q d. is_one_of todo q ≡ true)) (u : Shorter r.group (λ q d. (q ≡ p) × (d ≡ upper))) (l : Shorter u.group (λ q d. (q ≡ p) × (d ≡ lower))) → Shorter g (λ q d. is_one_of (p ∷ todo) q ≡ true)
      joined r u l =
          let o = l.forbidden.fitted in
          let rl = covers_trans l.group u.group r.group (over_parts f.plates l.group o).rises l.covering u.covering in
          record {
            group = l.group;
            forbidden = l.forbidden;
            covering = covers_trans l.group r.group g (over_parts f.plates l.group o).rises rl r.covering;
            tight = λ q d h.
                ⊎_elim
                (λ e. at_plate r u l q (sym (eqb-true p q e)) (sub q h) d)
                (λ t. tight_less l.group r.group q d o r.forbidden.fitted (sub q h) rl (r.tight q d t))
                (or_cases (eqb p q) (is_one_of todo q) h);
          }
        where
          at_plate : (r' : Shorter g (λ q d. is_one_of todo q ≡ true)) (u' : Shorter r'.group (λ q d. (q ≡ p) × (d ≡ upper))) (l' : Shorter u'.group (λ q d. (q ≡ p) × (d ≡ lower))) → (q : ℕ) → q ≡ p → is_one_of f.plates q ≡ true → (d : End) → Tight l'.group q d
          at_plate r' u' l' q e m upper = tight_less l'.group u'.group q upper l'.forbidden.fitted u'.forbidden.fitted m l'.covering (u'.tight q upper (e, refl))
          at_plate r' u' l' q e m lower = l'.tight q lower (e, refl)

  -- a forbidden group of which no end can go is shortest
  tight_shortest : (h : List Item) → Forbidden f h → ((p : ℕ) (e : End) → is_one_of f.plates p ≡ true → Tight h p e) → Shortest f h
  tight_shortest h forb tight =
      record {
        forbidden = forb;
        alone = λ k fk c.
            covers_same k h (over_parts f.plates k fk.fitted).rises (over_parts f.plates h forb.fitted).rises c
            (has_covers h k (over_parts f.plates h forb.fitted).rises (λ p e n.
            ⊎_elim
            (λ y. y)
            (λ y.
            let m = fitted_names f.plates h (over_parts f.plates h forb.fitted).fitted p (has_named h p e n) in
            absurd (tight p e m n
            (excluded_covered f.lines k (without h p e) (over_parts f.plates k fk.fitted).rises
            (has_covers k (without h p e) (over_parts f.plates k fk.fitted).rises (within_without k h p e forb.fitted m (covers_has k h c) y))
            (forbidden_excluded f sound k fk))))
            (cases_Bool (ends (sign_at k p) e))));
      }

pub table_covers : TableCovers
table_covers f sound t table g forb =
    let r = shorten f sound f.plates (λ p h. h) g forb in
    cover_covered t g r.group (table.every r.group (tight_shortest f sound r.group r.forbidden (λ p e m. r.tight p e m))) r.covering
