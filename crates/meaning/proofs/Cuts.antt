-- What a cut list takes and permits, and that a frame has one. Assumes nothing.
use Rattle.std.proofs.Common.{◌≡◌, Bool, true, false, not, ◌&&◌, ◌||◌, List, [], ◌∷◌, ◌++◌, length, Some, sym, refl, ap, ◌∙◌, arith}
use mathlib.Core.List.{Sublistᴰ}
use Rattle.std.proofs.lemmas.Bool.Decides.{nat_tests}
use Rattle.std.proofs.lemmas.Bool.{both_ways, and_parts, and_right}
use Rattle.std.proofs.lemmas.List.{append_assoc, length-append}
use Rattle.std.specs.List.{AllByRecursion}
use Rattle.groups.specs.declared.items.Item.{Item}
use Rattle.groups.specs.declared.items.Sign.TheVariants.{Star}
use Rattle.groups.specs.Items.{sign_at}
use Rattle.meaning.specs.States.{State, holds, Setting, shows, shows_any}
use Rattle.meaning.specs.Frames.{Frame, Sound, group_over, moving, manageable, permits, starred}
use Rattle.meaning.specs.CutLists.{Superfluous, Needed, CutFrom, end, leave, keep}
use Rattle.meaning.specs.Laws.{CutListIsRight, CutListIsManageable, OneCutList}
use Rattle.meaning.specs.Shown.{sign_for}
use Rattle.meaning.proofs.Ends.{states_of, shows_has}
use Rattle.meaning.proofs.Managed.{starred_within, stars_over, fewer_kept}

or_assoc : (x y z : Bool) → (x || (y || z)) ≡ ((x || y) || z)
or_assoc true y z = refl
or_assoc false y z = refl

-- a setting shows one of the groups of two lists just when it shows one of either
pub shows_append : (s : Setting) (xs ys : List (List Item)) → shows_any s (xs ++ ys) ≡ (shows_any s xs || shows_any s ys)
shows_append s [] ys = refl
shows_append s (x ∷ xs) ys = ap (λ b. shows s x || b) (shows_append s xs ys) ∙ or_assoc (shows s x) (shows_any s xs) (shows_any s ys)

-- a line that stands last before others may as well stand first of them
pub permits_next : (f : Frame) (front : List (List Item)) (line : List Item) (rest : List (List Item)) (s : Setting) → permits f (front ++ (line ∷ []) ++ rest) s ≡ permits f (front ++ (line ∷ rest)) s
permits_next f front line rest s = ap (λ ls. permits f ls s) (append_assoc front (line ∷ []) rest)

-- what lines permit, a line among them apart
pub permits_line : (f : Frame) (front : List (List Item)) (line : List Item) (rest : List (List Item)) (s : Setting) → permits f (front ++ (line ∷ rest)) s ≡ (permits f (front ++ rest) s && not (shows s line))
permits_line f front line rest s =
    let a = shows_append s front (line ∷ rest) in
    let b = shows_append s front rest in
    grind (arith, nat_tests)

-- the list takes lines of the rest, in their order
cut_taken : (f : Frame) {front rest kept : List (List Item)} → CutFrom f front rest kept → Sublistᴰ kept rest
cut_taken f end = Sublistᴰ.slnil
cut_taken f (leave d u) = Sublistᴰ.cons (cut_taken f d)
cut_taken f (keep d n) = Sublistᴰ.cons-cons refl (cut_taken f d)

-- what is kept permits what all permit
cut_same : (f : Frame) {front rest kept : List (List Item)} → CutFrom f front rest kept → (s : Setting) → permits f (front ++ rest) s ≡ permits f (front ++ kept) s
cut_same f end s = refl
cut_same f (leave {front = front} {rest = rest} {kept = kept} {line = line} d u) s =
    let v = u s in
    let a = sym (permits_next f front line rest s) ∙ cut_same f d s ∙ permits_next f front line kept s ∙ permits_line f front line kept s in
    grind (arith, nat_tests)
cut_same f (keep {front = front} {rest = rest} {kept = kept} {line = line} d n) s =
    sym (permits_next f front line rest s) ∙ cut_same f d s ∙ permits_next f front line kept s

-- a setting that the one list of lines permits and the other does not
record Gap (f : Frame) (these those : List (List Item)) : Type 0 where
  setting : Setting
  permitted : permits f these setting ≡ true
  refused : permits f those setting ≡ false

-- with any one of the kept lines left out a setting is permitted that was not
cut_needed : (f : Frame) {front rest kept : List (List Item)} → CutFrom f front rest kept → (a : List (List Item)) (x : List Item) (b : List (List Item)) → kept ≡ a ++ (x ∷ b) → Gap f (front ++ (a ++ b)) (front ++ rest)
cut_needed f end a x b e = absurd (omega (arith, ap length e, length-append a (x ∷ b)))
cut_needed f (leave {front = front} {rest = rest} {kept = kept} {line = line} d u) a x b e =
    let g = cut_needed f d a x b e in
    let s = g.setting in
    let p = sym (permits_next f front line (a ++ b) s ∙ permits_line f front line (a ++ b) s) ∙ g.permitted in
    record {
      setting = s;
      permitted = (and_parts (permits f (front ++ (a ++ b)) s) (not (shows s line)) p).0;
      refused = sym (permits_next f front line rest s) ∙ g.refused;
    }
cut_needed f (keep {front = front} {rest = rest} {kept = kept} {line = line} d n) [] x b e =
    let s = n.setting in
    let q : kept ≡ b = cc in
    record {
      setting = s;
      permitted = ap (λ ls. permits f (front ++ ls) s) (sym q) ∙ n.permitted;
      refused = permits_line f front line rest s ∙ and_right (permits f (front ++ rest) s) (not (shows s line)) (ap not n.shown);
    }
cut_needed f (keep {front = front} {rest = rest} {kept = kept} {line = line} d n) (y ∷ a) x b e =
    let q : kept ≡ a ++ (x ∷ b) = cc in
    let r : line ≡ y = cc in
    let g = cut_needed f d a x b q in
    let s = g.setting in
    record {
      setting = s;
      permitted = ap (λ l. permits f (front ++ (l ∷ (a ++ b))) s) (sym r) ∙ sym (permits_next f front line (a ++ b) s) ∙ g.permitted;
      refused = sym (permits_next f front line rest s) ∙ g.refused;
    }

-- a line is not both left out and kept
not_both : (f : Frame) (front c d : List (List Item)) (line : List Item) → c ≡ d → Superfluous f (front ++ c) line → Needed f (front ++ d) line → ⊥
not_both f front c d line e u n = both_ways _ (u n.setting (ap (λ ls. permits f (front ++ ls) n.setting) e ∙ n.permitted)) n.shown

-- two ways to go through the same lines keep the same
cut_one : (f : Frame) {front rest c d : List (List Item)} → CutFrom f front rest c → CutFrom f front rest d → c ≡ d
cut_one f end end = refl
cut_one f (leave p u) (leave q v) = cut_one f p q
cut_one f (leave {front = front} {kept = c} {line = line} p u) (keep {kept = d} q n) = absurd (not_both f front c d line (cut_one f p q) u n)
cut_one f (keep {front = front} {kept = c} {line = line} p m) (leave {kept = d} q v) = absurd (not_both f front d c line (sym (cut_one f p q)) v m)
cut_one f (keep {line = line} p m) (keep q n) = ap (λ ls. line ∷ ls) (cut_one f p q)

pub cut_list_is_right : CutListIsRight
cut_list_is_right f cut h =
    record {
      taken = cut_taken f h;
      same = λ s. sym (cut_same f h s);
      needed = λ a x b e. let g = cut_needed f h a x b e in record { setting = g.setting; permitted = g.permitted; impossible = g.refused };
    }

-- what a setting that is permitted shows can be managed
between_starred : (x : State) → starred (Some (sign_for x)) ≡ holds Star x
between_starred x = grind arith

needed_manageable : (f : Frame) → Sound f → (others : List (List Item)) (line : List Item) → group_over f.plates line ≡ true → Needed f others line → manageable f line ≡ true
needed_manageable f sound others line o n =
    let s = n.setting in
    ap f.crew (stars_over f.plates line sound.plates o)
    ∙ fewer_kept f.crew sound.crew (λ p. starred (sign_at line p)) (λ p. holds Star (s p))
    (λ p h. sym (between_starred (s p)) ∙ starred_within (sign_at line p) (states_of s p) (shows_has s line n.shown p) h)
    f.plates []
    (and_parts (f.crew (moving f s)) (not (shows_any s others)) n.permitted).0

cut_manageable : (f : Frame) → Sound f → {front rest kept : List (List Item)} → AllByRecursion (λ l. group_over f.plates l ≡ true) rest → CutFrom f front rest kept → AllByRecursion (λ l. manageable f l ≡ true) kept
cut_manageable f sound over end = tt
cut_manageable f sound over (leave d u) = cut_manageable f sound over.1 d
cut_manageable f sound over (keep {front = front} {kept = kept} {line = line} d n) = (needed_manageable f sound (front ++ kept) line over.0 n, cut_manageable f sound over.1 d)

pub cut_list_is_manageable : CutListIsManageable
cut_list_is_manageable f sound cut h = cut_manageable f sound sound.lines h

pub one_cut_list : OneCutList
one_cut_list f c d h k = cut_one f h k
