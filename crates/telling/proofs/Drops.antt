-- One end less of a group by its places. Assumes nothing.
use Rattle.std.proofs.Common.{◌≡◌, ℕ, zero, suc, ◌+◌, ◌<◌, true, false, cond, eqb, ◌⊎◌, List, [], ◌∷◌, length, get_or, is_some, Option, sym, refl, ap, ◌∙◌, subst, inl, inr, ⊎_elim, arith}
use Rattle.std.specs.List.{AllByRecursion}
use Rattle.std.proofs.ByRecursion.{All-map}
use Rattle.std.proofs.lemmas.Bool.{eq-eqb, ne_eqb, cond-true, cond-false, cases_eq, cases_Bool, cases_lt, both_ways, false≢true, and_from, or_left, or_right}
use Rattle.groups.specs.declared.items.Item.{Item}
use Rattle.groups.specs.declared.items.Sign.{Sign}
use Rattle.groups.specs.Items.{sign_at, names, covers}
use Rattle.groups.specs.Rises.{climbing}
use Rattle.groups.proofs.Climbing.{place_cases}
use Rattle.meaning.specs.Frames.{is_one_of, group_over}
use Rattle.meaning.specs.Laws.{read_off}
use Rattle.meaning.proofs.Ends.{upper, lower, ends, Within as EndsWithin, covers_has, has_covers, covers_trans, covers_itself}
use Rattle.meaning.proofs.Combining.{within_all}
use Rattle.meaning.proofs.Fitted.{over_parts, names_fitted}
use Rattle.meaning.proofs.Monotone.{read_more}
use Rattle.meaning.proofs.SomeTable.{all_of}
use Rattle.placed.specs.declared.Placed.{Placed}
use Rattle.placed.specs.declared.End.{End}
use Rattle.placed.specs.declared.End.TheVariants.{Upper, Lower}
use Rattle.placed.specs.Signs.{Within, sign_on, has_end, without_end}
use Rattle.placed.specs.Spelling.{spell}
use Rattle.placed.proofs.Spelled.{spelled_sign, spelled_none, spelled_rises}
use Rattle.rows.specs.Rows.{spell_all}
use Rattle.telling.specs.Told.{Holds}
use Rattle.telling.specs.Shortened.{FirmAt, FirmBelow, Shorter, EndTried, PlaceTried}

-- ## What a group spells over the plates of a frame

-- a plate that stands at a place is one of them
pub one_of : (ps : List ℕ) (j : ℕ) → j < length ps → is_one_of ps (get_or ps j 0) ≡ true
one_of [] j l = absurd (omega arith)
one_of (p ∷ ps) zero l = or_left (eqb p p) (is_one_of ps p) (eq-eqb p p refl)
one_of (p ∷ ps) (suc j) l = or_right (eqb p (get_or ps j 0)) (is_one_of ps (get_or ps j 0)) (one_of ps j (omega arith))

pub spell_over : (ps : List ℕ) (g : Placed) → climbing 0 ps ≡ true → group_over ps (spell ps g) ≡ true
spell_over ps g c = and_from _ _ (spelled_rises ps g c) (names_fitted ps (spell ps g) (λ q n. at_plate q n (place_cases ps q)))
  where
    at_plate : (q : ℕ) → names (spell ps g) q ≡ true → ((j : ℕ) × (j < length ps) × (get_or ps j 0 ≡ q)) ⊎ ((j : ℕ) → j < length ps → get_or ps j 0 ≡ q → ⊥) → is_one_of ps q ≡ true
    at_plate q n (inl f) = ap (is_one_of ps) (sym f.2) ∙ one_of ps f.0 f.1
    at_plate q n (inr f) = absurd (false≢true (sym (ap is_some (spelled_none ps g q f)) ∙ n))

pub spell_all_over : (ps : List ℕ) (gs : List Placed) → climbing 0 ps ≡ true → AllByRecursion (λ g. group_over ps g ≡ true) (spell_all ps gs)
spell_all_over ps gs c = All-map (λ g. group_over ps g ≡ true) (spell ps) gs (all_of (λ g. group_over ps (spell ps g) ≡ true) (λ g. spell_over ps g c) gs)

-- ends by places are ends by plates
pub spell_within : (ps : List ℕ) (a b : Placed) → climbing 0 ps ≡ true → ((j : ℕ) → EndsWithin (sign_on a j) (sign_on b j)) → (q : ℕ) → EndsWithin (sign_at (spell ps a) q) (sign_at (spell ps b) q)
spell_within ps a b c w q = at_plate (place_cases ps q)
  where
    at_plate : ((j : ℕ) × (j < length ps) × (get_or ps j 0 ≡ q)) ⊎ ((j : ℕ) → j < length ps → get_or ps j 0 ≡ q → ⊥) → EndsWithin (sign_at (spell ps a) q) (sign_at (spell ps b) q)
    at_plate (inl f) = subst (λ n. EndsWithin (sign_at (spell ps a) n) (sign_at (spell ps b) n)) f.2 (λ e h. ap (λ o. ends o e) (spelled_sign ps b f.0 c f.1) ∙ w f.0 e (ap (λ o. ends o e) (sym (spelled_sign ps a f.0 c f.1)) ∙ h))
    at_plate (inr n) = λ e h. absurd (false≢true (sym (ap (λ o. ends o e) (spelled_none ps a q n)) ∙ h))

-- ## One end

-- what is left of a sign without an end
gone : (e : End) (o : Option Sign) → has_end e (without_end e o) ≡ false
gone e o = grind arith

part : (e : End) (o : Option Sign) → EndsWithin (without_end e o) o
part e o d h = grind arith

keeps : (e : End) (k o : Option Sign) → EndsWithin k o → has_end e k ≡ false → EndsWithin k (without_end e o)
keeps e k o w n d h = let a = w d in grind arith

more : (e : End) (o u : Option Sign) → EndsWithin o u → has_end e o ≡ true → has_end e u ≡ true
more e o u w h = let a = w upper in let b = w lower in grind arith

pub shorter_itself : (ps : List ℕ) (t : List (List Item)) (l : List Item) (g : Placed) → climbing 0 ps ≡ true → Within (length ps) g → read_off t l (spell ps g) ≡ true → Shorter ps t l g g
shorter_itself ps t l g c w r = record { within = w; told = r; covering = covers_itself (spell ps g) (spelled_rises ps g c) }

pub shorter_trans : (ps : List ℕ) (t : List (List Item)) (l : List Item) (g r s : Placed) → climbing 0 ps ≡ true → Shorter ps t l g r → Shorter ps t l r s → Shorter ps t l g s
shorter_trans ps t l g r s c a b = record { within = b.within; told = b.told; covering = covers_trans (spell ps s) (spell ps r) (spell ps g) (spelled_rises ps s c) b.covering a.covering }

-- an end that can't go can't go from a shorter group
pub firm_less : (ps : List ℕ) (t : List (List Item)) (l : List Item) (e : End) (p : ℕ) (r s : List Item) → covers s r ≡ true → FirmAt ps t l e p r → FirmAt ps t l e p s
firm_less ps t l e p r s c firm x o k q h =
    firm x o (covers_trans x s r (over_parts ps x o).rises k c) q (more e (sign_at s p) (sign_at r p) (covers_has s r c p) h)

module _ (e : End) (ps : List ℕ) (table : List Placed) (line g : Placed) (place : ℕ) (holds : Holds ps table) (l : place < length ps) (w : Within (length ps) g) (told : read_off (spell_all ps table) (spell ps line) (spell ps g) ≡ true) where
  abbrev c : climbing 0 ps ≡ true
  c = holds.climbs

  here : sign_at (spell ps g) (get_or ps place 0) ≡ sign_on g place
  here = spelled_sign ps g place c l

  -- the group has not the end
  pub end_missing : has_end e (sign_on g place) ≡ false → EndTried e place g g ps (spell_all ps table) (spell ps line)
  end_missing n =
      record {
        shorter = shorter_itself ps (spell_all ps table) (spell ps line) g c w told;
        firm = λ x o k q h. absurd (both_ways (has_end e (sign_at (spell ps g) (get_or ps place 0))) (ap (has_end e) here ∙ n) h);
      }

  module _ (less : Placed) (signs : (k : ℕ) → sign_on less k ≡ cond (eqb k place) (without_end e (sign_on g k)) (sign_on g k)) where
    at_place : sign_on less place ≡ without_end e (sign_on g place)
    at_place = signs place ∙ cond-true (eqb place place) (without_end e (sign_on g place)) (sign_on g place) (eq-eqb place place refl)

    elsewhere : (k : ℕ) → (k ≡ place → ⊥) → sign_on less k ≡ sign_on g k
    elsewhere k ne = signs k ∙ cond-false (eqb k place) (without_end e (sign_on g k)) (sign_on g k) (ne_eqb k place ne)

    less_within : Within (length ps) less
    less_within k h = elsewhere k (λ e. omega arith) ∙ w k h

    less_ends : (k : ℕ) → EndsWithin (sign_on less k) (sign_on g k)
    less_ends k =
        ⊎_elim
        (λ q. subst (λ n. EndsWithin (sign_on less n) (sign_on g n)) (sym q) (λ d h. part e (sign_on g place) d (ap (λ o. ends o d) (sym at_place) ∙ h)))
        (λ ne d h. ap (λ o. ends o d) (sym (elsewhere k ne)) ∙ h)
        (cases_eq k place)

    less_covers : covers (spell ps less) (spell ps g) ≡ true
    less_covers = has_covers (spell ps less) (spell ps g) (spelled_rises ps less c) (spell_within ps less g c less_ends)

    less_here : sign_at (spell ps less) (get_or ps place 0) ≡ without_end e (sign_at (spell ps g) (get_or ps place 0))
    less_here = spelled_sign ps less place c l ∙ at_place ∙ ap (without_end e) (sym here)

    less_other : (q : ℕ) → (q ≡ get_or ps place 0 → ⊥) → sign_at (spell ps less) q ≡ sign_at (spell ps g) q
    less_other q ne = at_plate (place_cases ps q)
      where
        at_plate : ((j : ℕ) × (j < length ps) × (get_or ps j 0 ≡ q)) ⊎ ((j : ℕ) → j < length ps → get_or ps j 0 ≡ q → ⊥) → sign_at (spell ps less) q ≡ sign_at (spell ps g) q
        at_plate (inl f) = ap (sign_at (spell ps less)) (sym f.2) ∙ spelled_sign ps less f.0 c f.1 ∙ elsewhere f.0 (λ e. ne (sym f.2 ∙ ap (λ n. get_or ps n 0) e)) ∙ sym (spelled_sign ps g f.0 c f.1) ∙ ap (sign_at (spell ps g)) f.2
        at_plate (inr n) = spelled_none ps less q n ∙ sym (spelled_none ps g q n)

    -- a group that covers g and has not the end covers what is left of g without it
    covers_less : (x : List Item) → group_over ps x ≡ true → covers x (spell ps g) ≡ true → has_end e (sign_at x (get_or ps place 0)) ≡ false → covers x (spell ps less) ≡ true
    covers_less x o k n =
        has_covers x (spell ps less) (over_parts ps x o).rises
        (within_all x (sign_at (spell ps less)) (get_or ps place 0)
        (λ d h. ap (λ u. ends u d) less_here ∙ keeps e (sign_at x (get_or ps place 0)) (sign_at (spell ps g) (get_or ps place 0)) (covers_has x (spell ps g) k (get_or ps place 0)) n d h)
        (λ q ne d h. ap (λ u. ends u d) (less_other q ne) ∙ covers_has x (spell ps g) k q d h))

    end_firm : read_off (spell_all ps table) (spell ps line) (spell ps less) ≡ false → FirmAt ps (spell_all ps table) (spell ps line) e (get_or ps place 0) (spell ps g)
    end_firm n x o k q h =
        ⊎_elim
        (λ y. y)
        (λ y.
        absurd (both_ways (read_off (spell_all ps table) (spell ps line) (spell ps less)) n
        (read_more ps (spell_all ps table) (spell_all_over ps table c) (spell ps line) (spelled_rises ps line c) x (spell ps less) o (spell_over ps less c) (covers_less x o k y) q)))
        (cases_Bool (has_end e (sign_at x (get_or ps place 0))))

    -- the end goes where the table tells of the rest, and else it can't go
    pub end_gone : read_off (spell_all ps table) (spell ps line) (spell ps less) ≡ true → EndTried e place g less ps (spell_all ps table) (spell ps line)
    end_gone y =
        record {
          shorter = record { within = less_within; told = y; covering = less_covers };
          firm = λ x o k q h. absurd (both_ways (has_end e (sign_at (spell ps less) (get_or ps place 0))) (ap (has_end e) less_here ∙ gone e (sign_at (spell ps g) (get_or ps place 0))) h);
        }

    pub end_stays : read_off (spell_all ps table) (spell ps line) (spell ps less) ≡ false → EndTried e place g g ps (spell_all ps table) (spell ps line)
    end_stays n = record { shorter = shorter_itself ps (spell_all ps table) (spell ps line) g c w told; firm = end_firm n }

-- ## Both ends of a place, and place after place

pub place_tried : (ps : List ℕ) (t : List (List Item)) (l : List Item) (place : ℕ) (g r s : Placed) → climbing 0 ps ≡ true → EndTried Upper place g r ps t l → EndTried Lower place r s ps t l → PlaceTried place g s ps t l
place_tried ps t l place g r s c a b = record { shorter = shorter_trans ps t l g r s c a.shorter b.shorter; firm = firm }
  where
    firm : (e : End) → FirmAt ps t l e (get_or ps place 0) (spell ps s)
    firm Upper = firm_less ps t l Upper (get_or ps place 0) (spell ps r) (spell ps s) b.shorter.covering a.firm
    firm Lower = b.firm

-- what is known before a place is tried
pub record Upto (place : ℕ) (g r : Placed) (ps : List ℕ) (t : List (List Item)) (l : List Item) : Type 0 where
  pub shorter : Shorter ps t l g r
  pub firm : FirmBelow ps t l place (spell ps r)

pub upto_none : (ps : List ℕ) (t : List (List Item)) (l : List Item) (g : Placed) → climbing 0 ps ≡ true → Within (length ps) g → read_off t l (spell ps g) ≡ true → Upto 0 g g ps t l
upto_none ps t l g c w r = record { shorter = shorter_itself ps t l g c w r; firm = λ j h. absurd (omega arith) }

pub upto_more : (ps : List ℕ) (t : List (List Item)) (l : List Item) (place : ℕ) (g r s : Placed) → climbing 0 ps ≡ true → Upto place g r ps t l → PlaceTried place r s ps t l → Upto (place + 1) g s ps t l
upto_more ps t l place g r s c a b =
    record {
      shorter = shorter_trans ps t l g r s c a.shorter b.shorter;
      firm = λ j h e.
          ⊎_elim
          (λ m. firm_less ps t l e (get_or ps j 0) (spell ps r) (spell ps s) b.shorter.covering (a.firm j m e))
          (λ m. let q : place ≡ j = omega arith in subst (λ n. FirmAt ps t l e (get_or ps n 0) (spell ps s)) q (b.firm e))
          (cases_lt j place);
    }
