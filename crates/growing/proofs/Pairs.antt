-- Two groups combined, lever by lever. Assumes nothing.
use Rattle.std.proofs.Common.{◌≡◌, ℕ, ◌+◌, ◌<◌, ◌≤◌, Bool, true, cond, eqb, ◌⊎◌, List, ◌++◌, length, get_or, take, Some, None, Option, sym, refl, ap, ◌∙◌, subst, inl, inr, ⊎_elim, arith}
use Rattle.std.specs.List.{AllByRecursion}
use Rattle.std.proofs.ByRecursion.{All-weaker, All-more}
use Rattle.std.proofs.lemmas.List.{append_assoc, get_or_append_left, get_or_default, length-append}
use Rattle.std.proofs.lemmas.Bool.{cases_eq, cases_lt, false≢true}
use Rattle.groups.specs.declared.items.Item.{Item}
use Rattle.groups.specs.declared.items.Sign.{Sign}
use Rattle.groups.specs.declared.items.Sign.TheVariants.{Plus, Minus, Star}
use Rattle.groups.specs.Items.{sign_at, joint}
use Rattle.groups.specs.Rises.{climbing}
use Rattle.groups.proofs.Climbing.{place_cases}
use Rattle.groups.proofs.Rising.{same_signs}
use Rattle.placed.specs.declared.Placed.{Placed}
use Rattle.placed.specs.Signs.{sign_on, opposed_signs}
use Rattle.placed.specs.Spelling.{spell}
use Rattle.placed.proofs.Spelled.{spelled_sign, spelled_none, joined_over}
use Rattle.growing.specs.Gathered.{Asked, Gathered, Met, Joined, Paired, PairedAt, PairedOne, ClosedBelow, Grew, Step}
use Rattle.growing.proofs.Taken.{met_grew}

-- ## Steps one after the other

pub grew_trans : (old mid new : List Placed) → Grew old mid → Grew mid new → Grew old new
grew_trans old mid new g h = record { more = g.more ++ h.more; is = h.is ∙ ap (λ l. l ++ h.more) g.is ∙ append_assoc old g.more h.more }

-- what stood at a place stands there still
pub grew_at : (old new : List Placed) (i : ℕ) (d : Placed) → Grew old new → i < length old → get_or new i d ≡ get_or old i d
grew_at old new i d g l = ap (λ gs. get_or gs i d) g.is ∙ get_or_append_left old g.more d i l

pub grew_length : (old new : List Placed) → Grew old new → length old ≤ length new
grew_length old new g = omega (arith, ap length g.is, length-append old g.more)

pub paired_grew : (a : Asked) (old new : List Placed) (g h : Placed) → Grew old new → Paired a old g h → Paired a new g h
paired_grew a old new g h more p x c j = met_grew a old new c more (p x c j)

-- ## One lever

joint_turned : (o u : Option Sign) → joint o u ≡ joint u o
joint_turned o u = grind arith

-- a combination is fixed by its groups and its lever
joined_one : (x : ℕ) (g h c d : List Item) → Joined x g h c → Joined x g h d → c ≡ d
joined_one x g h c d (inl k) (inl m) = same_signs 0 c d k.spelled m.spelled (λ p. ⊎_elim (λ e. ap (sign_at c) e ∙ k.dropped ∙ sym m.dropped ∙ ap (sign_at d) (sym e)) (λ ne. k.others p ne ∙ sym (m.others p ne)) (cases_eq p x))
joined_one x g h c d (inl k) (inr m) = absurd (plus_minus (sym k.plus ∙ m.minus))
  where
    plus_minus : Some Plus ≡ Some Minus → ⊥
    plus_minus e = let z : ◌≡◌ {A = ℕ} 0 1 = cc in omega arith
joined_one x g h c d (inr k) (inl m) = absurd (plus_minus (sym m.plus ∙ k.minus))
  where
    plus_minus : Some Plus ≡ Some Minus → ⊥
    plus_minus e = let z : ◌≡◌ {A = ℕ} 0 1 = cc in omega arith
joined_one x g h c d (inr k) (inr m) = same_signs 0 c d k.spelled m.spelled (λ p. ⊎_elim (λ e. ap (sign_at c) e ∙ k.dropped ∙ sym m.dropped ∙ ap (sign_at d) (sym e)) (λ ne. k.others p ne ∙ sym (m.others p ne)) (cases_eq p x))

opposed_either : (o u : Option Sign) → opposed_signs o u ≡ true → ((o ≡ Some Plus) × (u ≡ Some Minus)) ⊎ ((o ≡ Some Minus) × (u ≡ Some Plus))
opposed_either None u h = absurd (false≢true h)
opposed_either (Some Plus) None h = absurd (false≢true h)
opposed_either (Some Minus) None h = absurd (false≢true h)
opposed_either (Some Star) None h = absurd (false≢true h)
opposed_either (Some Plus) (Some Plus) h = absurd (false≢true h)
opposed_either (Some Plus) (Some Minus) h = inl (refl, refl)
opposed_either (Some Plus) (Some Star) h = absurd (false≢true h)
opposed_either (Some Minus) (Some Plus) h = inr (refl, refl)
opposed_either (Some Minus) (Some Minus) h = absurd (false≢true h)
opposed_either (Some Minus) (Some Star) h = absurd (false≢true h)
opposed_either (Some Star) (Some Plus) h = absurd (false≢true h)
opposed_either (Some Star) (Some Minus) h = absurd (false≢true h)
opposed_either (Some Star) (Some Star) h = absurd (false≢true h)

module _ (ps : List ℕ) (g h : Placed) (k : ℕ) (climbs : climbing 0 ps ≡ true) (l : k < length ps) where
  -- groups that have a combination on the lever at a place oppose each other there
  pub joined_opposed : (c : List Item) → Joined (get_or ps k 0) (spell ps g) (spell ps h) c → opposed_signs (sign_on g k) (sign_on h k) ≡ true
  joined_opposed c (inl m) = (λ i. opposed_signs ((sym (spelled_sign ps g k climbs l) ∙ m.plus) i) ((sym (spelled_sign ps h k climbs l) ∙ m.minus) i))
  joined_opposed c (inr m) = (λ i. opposed_signs ((sym (spelled_sign ps g k climbs l) ∙ m.minus) i) ((sym (spelled_sign ps h k climbs l) ∙ m.plus) i))

  module _ (j : Placed) (signs : (i : ℕ) → sign_on j i ≡ cond (eqb i k) None (joint (sign_on g i) (sign_on h i))) where
    -- where they oppose each other, both together without the lever are the combination
    pub joined_is : opposed_signs (sign_on g k) (sign_on h k) ≡ true → Joined (get_or ps k 0) (spell ps g) (spell ps h) (spell ps j)
    joined_is o =
        ⊎_elim
        (λ e. inl (joined_over ps g h j k climbs l signs (spelled_sign ps g k climbs l ∙ e.0) (spelled_sign ps h k climbs l ∙ e.1)))
        (λ e. inr (joined_over ps h g j k climbs l (λ i. signs i ∙ ap (cond (eqb i k) None) (joint_turned (sign_on g i) (sign_on h i))) (spelled_sign ps h k climbs l ∙ e.1) (spelled_sign ps g k climbs l ∙ e.0)))
        (opposed_either (sign_on g k) (sign_on h k) o)

-- what meets the combination that was made meets each
pub met_joined : (a : Asked) (new : List Placed) (g h j : Placed) (k : ℕ) → Joined (get_or a.plates k 0) (spell a.plates g) (spell a.plates h) (spell a.plates j) → Met a new (spell a.plates j) → PairedAt a new g h k
met_joined a new g h j k is m c joined = subst (Met a new) (joined_one (get_or a.plates k 0) (spell a.plates g) (spell a.plates h) (spell a.plates j) c is joined) m

-- ## All levers

-- the combinations on the levers at all places are all there are
pub paired_all : (a : Asked) (new : List Placed) (g h : Placed) → ((k : ℕ) → k < length a.plates → PairedAt a new g h k) → Paired a new g h
paired_all a new g h p x c j = at_plate (place_cases a.plates x)
  where
    named : (sign_at (spell a.plates g) x ≡ None) → ⊥
    named e = go j
      where
        differ : (s : Sign) → Some s ≡ None → ⊥
        differ s q = let z : ◌≡◌ {A = ℕ} 0 1 = cc in omega arith

        go : Joined x (spell a.plates g) (spell a.plates h) c → ⊥
        go (inl k) = differ Plus (sym k.plus ∙ e)
        go (inr k) = differ Minus (sym k.minus ∙ e)

    at_plate : ((k : ℕ) × (k < length a.plates) × (get_or a.plates k 0 ≡ x)) ⊎ ((k : ℕ) → k < length a.plates → get_or a.plates k 0 ≡ x → ⊥) → Met a new c
    at_plate (inl f) = p f.0 f.1 c (subst (λ n. Joined n (spell a.plates g) (spell a.plates h) c) (sym f.2) j)
    at_plate (inr n) = absurd (named (spelled_none a.plates g x n))

-- ## What steps are for

pub step_goal : (a : Asked) (old new : List Placed) (ok : Bool) (G H : List Placed → Type 0) → (G new → H new) → Step a old new ok G → Step a old new ok H
step_goal a old new ok G H f s = record { gathered = s.gathered; grew = s.grew; done = λ e. f (s.done e); full = s.full }

-- a step after others
pub step_after : (a : Asked) (old mid new : List Placed) (ok : Bool) (G : List Placed → Type 0) → Grew old mid → Step a mid new ok G → Step a old new ok G
step_after a old mid new ok G g s = record { gathered = s.gathered; grew = grew_trans old mid new g s.grew; done = s.done; full = s.full }

-- what is known on the way of a loop: what was gathered, and that it grew
pub record OnTheWay (a : Asked) (old new : List Placed) (Goal : List Placed → Type 0) : Type 0 where
  pub gathered : Gathered a new
  pub grew : Grew old new
  pub goal : Goal new

pub way_more : (a : Asked) (old mid new : List Placed) (ok : Bool) (G H K : List Placed → Type 0) → ok ≡ true → OnTheWay a old mid G → Step a mid new ok H → (Grew mid new → G mid → H new → K new) → OnTheWay a old new K
way_more a old mid new ok G H K e w s f = record { gathered = s.gathered; grew = grew_trans old mid new w.grew s.grew; goal = f s.grew w.goal (s.done e) }

pub way_end : (a : Asked) (old new : List Placed) (G H : List Placed → Type 0) → OnTheWay a old new G → (G new → H new) → Step a old new true H
way_end a old new G H w f = record { gathered = w.gathered; grew = w.grew; done = λ _. f w.goal; full = λ e. absurd (false≢true (sym e)) }

-- one place more
pub paired_more : (a : Asked) (mid new : List Placed) (g h : Placed) (k : ℕ) → Grew mid new → ((j : ℕ) → j < k → PairedAt a mid g h j) → PairedAt a new g h k → (j : ℕ) → j < k + 1 → PairedAt a new g h j
paired_more a mid new g h k more below here j l =
    ⊎_elim
    (λ m c joined. met_grew a mid new c more (below j m c joined))
    (λ m. subst (PairedAt a new g h) (let e : k ≡ j = omega arith in e) here)
    (cases_lt j k)

-- ## A group with a list of others

pub all_grew : (a : Asked) (old new : List Placed) (g : Placed) (hs : List Placed) → Grew old new → AllByRecursion (Paired a old g) hs → AllByRecursion (Paired a new g) hs
all_grew a old new g hs more p = All-weaker (Paired a old g) (Paired a new g) (λ h. paired_grew a old new g h more) hs p

-- one group of the table more
pub table_more : (a : Asked) (mid new : List Placed) (g : Placed) (hs : List Placed) (i : ℕ) (d : Placed) → i < length hs → Grew mid new → AllByRecursion (Paired a mid g) (take i hs) → Paired a new g (get_or hs i d) → AllByRecursion (Paired a new g) (take (i + 1) hs)
table_more a mid new g hs i d l more below here = All-more (Paired a new g) hs i d l (all_grew a mid new g (take i hs) more below) here

-- one new group more: those before it stand where they stood
pub before_more : (a : Asked) (mid new : List Placed) (g : Placed) (k : ℕ) → k < length mid → Grew mid new → ((d : Placed) (j : ℕ) → j < k → Paired a mid g (get_or mid j d)) → ((d : Placed) → Paired a new g (get_or mid k d)) → (d : Placed) (j : ℕ) → j < k + 1 → Paired a new g (get_or new j d)
before_more a mid new g k l more below here d j m =
    ⊎_elim
    (λ n. subst (Paired a new g) (sym (grew_at mid new j d more (omega arith))) (paired_grew a mid new g (get_or mid j d) more (below d j n)))
    (λ n. subst (λ i. Paired a new g (get_or new i d)) (let e : k ≡ j = omega arith in e) (subst (Paired a new g) (sym (grew_at mid new k d more l)) (here d)))
    (cases_lt j k)

-- what was read at a place stands there, whatever stands past the end
pub read_at : (xs old new : List Placed) (i : ℕ) (d e : Placed) → xs ≡ old → Grew old new → i < length old → get_or xs i e ≡ get_or new i d
read_at xs old new i d e is g l = ap (λ gs. get_or gs i e) is ∙ get_or_default old i e d l ∙ sym (grew_at old new i d g l)

-- ## One new group after the other

pub one_grew : (a : Asked) (i : ℕ) (old new : List Placed) → Grew old new → i < length old → PairedOne a i old → PairedOne a i new
one_grew a i old new more l p =
    record {
      table = λ d. subst (λ z. AllByRecursion (Paired a new z) a.table) (sym (grew_at old new i d more l)) (all_grew a old new (get_or old i d) a.table more (p.table d));
      before = λ d j m. subst (λ z. Paired a new z (get_or new j d)) (sym (grew_at old new i d more l)) (subst (Paired a new (get_or old i d)) (sym (grew_at old new j d more (omega arith))) (paired_grew a old new (get_or old i d) (get_or old j d) more (p.before d j m)));
    }

pub closed_more : (a : Asked) (k : ℕ) (mid new : List Placed) → k < length mid → Grew mid new → ClosedBelow a k mid → PairedOne a k new → ClosedBelow a (k + 1) new
closed_more a k mid new l more below here i m =
    ⊎_elim
    (λ n. one_grew a i mid new more (omega arith) (below i n))
    (λ n. subst (λ j. PairedOne a j new) (let e : k ≡ i = omega arith in e) here)
    (cases_lt i k)
