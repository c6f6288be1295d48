-- The ten small frames: a trial of all groups and settings finds their tables. Assumes nothing.
use Rattle.std.proofs.Common.{◌≡◌, ℕ, Bool, true, not, ◌&&◌, ◌||◌, List, [], ◌∷◌, refl, subst, ⊎_elim}
use Rattle.std.specs.List.{ContainsAt as Has, AllByRecursion}
use Rattle.std.proofs.ByRecursion.{all-has}
use Rattle.std.proofs.lemmas.Bool.{and_parts, or_cases, not-true, both_ways}
use Rattle.groups.specs.declared.items.Item.{Item}
use Rattle.groups.specs.Items.{covers}
use Rattle.groups.specs.Rises.{climbing}
use Rattle.meaning.specs.Crews.{Lawful}
use Rattle.meaning.specs.Frames.{Frame, Sound, group_over, Forbidden, Shortest}
use Rattle.meaning.specs.Tables.{IsTable, in_order, covered_by}
use Rattle.meaning.specs.SmallFrames.{Example, small_frames, neither_end, SmallFrames}
use Rattle.meaning.proofs.Ends.{covers_same}
use Rattle.meaning.proofs.Fitted.{over_parts}
use Rattle.meaning.proofs.Covered.{covered_cover}
use Rattle.meaning.proofs.Lawful.{hands_lawful, free_lawful}
use Rattle.meaning.proofs.Plain.{nothing_possible}
use Rattle.meaning.proofs.Trial.{every_group, group_tried, is_forbidden, forbidden_tried}

-- a group covers none of these but those that cover it
abbrev covers_no_other : List (List Item) → List Item → Bool
covers_no_other [] h = true
covers_no_other (g ∷ t) h = (not (covers h g) || covers g h) && covers_no_other t h

-- a forbidden group is covered, and covers none of the table but itself
abbrev right_for : Frame → List (List Item) → List Item → Bool
right_for f t h = not (is_forbidden f h) || (covered_by t h && covers_no_other t h)

-- all of these are groups over the plates, and forbidden
abbrev all_forbidden : Frame → List (List Item) → Bool
all_forbidden f [] = true
all_forbidden f (g ∷ t) = (group_over f.plates g && is_forbidden f g) && all_forbidden f t

abbrev all_over : List ℕ → List (List Item) → Bool
all_over ps [] = true
all_over ps (l ∷ lines) = group_over ps l && all_over ps lines

all_over_lem : (ps : List ℕ) (lines : List (List Item)) → all_over ps lines ≡ true → AllByRecursion (λ l. group_over ps l ≡ true) lines
all_over_lem ps [] h = tt
all_over_lem ps (l ∷ lines) h = let parts = and_parts (group_over ps l) (all_over ps lines) h in (parts.0, all_over_lem ps lines parts.1)

no_other : (t : List (List Item)) (h : List Item) → covers_no_other t h ≡ true → AllByRecursion (λ g. covers h g ≡ true → covers g h ≡ true) t
no_other [] h k = tt
no_other (g ∷ t) h k =
    let parts = and_parts (not (covers h g) || covers g h) (covers_no_other t h) k in
    ((λ c. ⊎_elim (λ n. absurd (both_ways (covers h g) (not-true (covers h g) n) c)) (λ d. d) (or_cases (not (covers h g)) (covers g h) parts.0)), no_other t h parts.1)

-- what the trial of a frame's table asks
abbrev right_table : Frame → List (List Item) → Bool
right_table f t = every_group f.plates (right_for f t) && (all_forbidden f t && in_order t)

module _ (f : Frame) (t : List (List Item)) (sound : Sound f) (tried : every_group f.plates (right_for f t) ≡ true) where
  forbidden_right : (h : List Item) → Forbidden f h → (covered_by t h && covers_no_other t h) ≡ true
  forbidden_right h forb =
      ⊎_elim
      (λ n. absurd (both_ways (is_forbidden f h) (not-true (is_forbidden f h) n) ((forbidden_tried f sound h forb.fitted).1 forb)))
      (λ r. r)
      (or_cases (not (is_forbidden f h)) (covered_by t h && covers_no_other t h) (group_tried f.plates (right_for f t) tried sound.plates h forb.fitted))

  -- the groups of a part of the table, each of which is forbidden and covered by no other
  all_shortest : (u : List (List Item)) → all_forbidden f u ≡ true → ((h : List Item) → Forbidden f h → AllByRecursion (λ g. covers h g ≡ true → covers g h ≡ true) u) → AllByRecursion (Shortest f) u
  all_shortest [] a k = tt
  all_shortest (g ∷ u) a k =
      let parts = and_parts (group_over f.plates g && is_forbidden f g) (all_forbidden f u) a in
      let own = and_parts (group_over f.plates g) (is_forbidden f g) parts.0 in
      let forb = (forbidden_tried f sound g own.0).0 own.1 in (
        record {
          forbidden = forb;
          alone = λ h fh c. covers_same h g (over_parts f.plates h fh.fitted).rises (over_parts f.plates g own.0).rises c ((k h fh).0 c);
        },
        all_shortest u parts.1 (λ h fh. (k h fh).1),
      )

pub right_table_lem : (f : Frame) (t : List (List Item)) → Sound f → right_table f t ≡ true → IsTable f t
right_table_lem f t sound h =
    let parts = and_parts (every_group f.plates (right_for f t)) (all_forbidden f t && in_order t) h in
    let rest = and_parts (all_forbidden f t) (in_order t) parts.1 in
    let right = forbidden_right f t sound parts.0 in
    let only = all_shortest f t sound parts.0 t rest.0 (λ k fk. no_other t k (and_parts (covered_by t k) (covers_no_other t k) (right k fk)).1) in
    record {
      every = λ g s.
          let c = covered_cover t g (and_parts (covered_by t g) (covers_no_other t g) (right g s.forbidden)).0 in
          subst (Has t) (s.alone c.group (all-has (Shortest f) t c.group only c.member).forbidden c.over) c.member;
      only = only;
      order = rest.1;
    }

-- the trial of an example: its frame is sound but for its crew, and the table is right
abbrev right_example : Example → Bool
right_example e = (climbing 0 e.frame.plates && all_over e.frame.plates e.frame.lines) && right_table e.frame e.table

abbrev all_right : List Example → Bool
all_right [] = true
all_right (e ∷ es) = right_example e && all_right es

all_tables : (es : List Example) → AllByRecursion (λ e. Lawful e.frame.crew) es → all_right es ≡ true → AllByRecursion (λ e. IsTable e.frame e.table) es
all_tables [] laws h = tt
all_tables (e ∷ es) laws h =
    let parts = and_parts (right_example e) (all_right es) h in
    let own = and_parts (climbing 0 e.frame.plates && all_over e.frame.plates e.frame.lines) (right_table e.frame e.table) parts.0 in
    let made = and_parts (climbing 0 e.frame.plates) (all_over e.frame.plates e.frame.lines) own.0 in
    (right_table_lem e.frame e.table (record { crew = laws.0; plates = made.0; lines = all_over_lem e.frame.plates e.frame.lines made.1 }) own.1, all_tables es laws.1 parts.1)

all_right_lem : all_right small_frames ≡ true
all_right_lem = refl

-- each crew of the small frames keeps the laws
all_lawful : AllByRecursion (λ e. Lawful e.frame.crew) small_frames
all_lawful = (free_lawful, (free_lawful, (free_lawful, (hands_lawful 0, (free_lawful, (free_lawful, (free_lawful, (hands_lawful 1, (free_lawful, (free_lawful, tt))))))))))

pub small_frames_lem : SmallFrames
small_frames_lem =
    let tables = all_tables small_frames all_lawful all_right_lem in
    record {
      tables = tables;
      stuck = (nothing_possible neither_end.frame (record { crew = free_lawful; plates = refl; lines = (refl, (refl, tt)) })).1 tables.1.1.1.1.1.1.1.1.1.0;
    }
