-- Each frame has a table: of all groups over its plates the shortest, put in order. Assumes nothing.
use Rattle.std.proofs.Common.{◌≡◌, ℕ, Bool, true, cond, not, ◌&&◌, ◌||◌, List, [], ◌∷◌, ◌++◌, map, Some, None, Decides, filter, Option, sym, refl, ap, ◌∙◌, subst, ⊎_elim}
use Rattle.std.specs.List.{ContainsAt as Has, AllByRecursion}
use Rattle.std.proofs.ByRecursion.{all-has, All-weaker, has_append_left, has_append_right, kept_by_passes, Decides-by_and}
use Rattle.std.proofs.lemmas.Bool.{and_parts, and_from, or_cases, or_left, or_right, cond_both, cases_Bool, both_ways, not-true, not_from_false}
use Rattle.std.proofs.lemmas.Bool.Decides.{Decides-and, Decides-like}
use Rattle.groups.specs.declared.items.Item.{Item}
use Rattle.groups.specs.declared.items.Sign.{Sign}
use Rattle.groups.specs.declared.items.Sign.TheVariants.{Plus, Minus, Star}
use Rattle.groups.specs.Items.{sign_at, covers}
use Rattle.groups.specs.Rises.{climbing, item_if, items_on}
use Rattle.meaning.specs.Frames.{Frame, Sound, group_over, Forbidden, Shortest}
use Rattle.meaning.specs.Tables.{IsTable, before, before_all, in_order, put_in_order}
use Rattle.meaning.specs.Laws.{SomeTable}
use Rattle.meaning.specs.SmallFrames.{plus, minus, star}
use Rattle.meaning.proofs.Ends.{covers_same, covers_itself}
use Rattle.meaning.proofs.Fitted.{over_parts, items_again}
use Rattle.meaning.proofs.Members.{has_none, has_first, has_later, has_cases}
use Rattle.meaning.proofs.Order.{order_is_strict}
use Rattle.meaning.proofs.Trial.{is_forbidden, forbidden_tried}

-- ## Lists

pub has_map : {X Y : Type 0} (f : X → Y) (xs : List X) (x : X) → Has xs x → Has (map f xs) (f x)
has_map f [] x h = absurd (has_none x h)
has_map f (y ∷ xs) x h =
    ⊎_elim
    (λ e. subst (λ z. Has (map f (y ∷ xs)) (f z)) e (has_first (f y) (map f xs)))
    (λ k. has_later (f y) (f x) (map f xs) (has_map f xs x k))
    (has_cases y x xs h)

-- a test keeps each element that passes
pub has_kept : {X : Type 0} (test : X → Bool) (xs : List X) (x : X) → Has xs x → test x ≡ true → Has (filter test xs) x
has_kept test [] x h p = absurd (has_none x h)
has_kept test (y ∷ xs) x h p =
    cond_both (test y) (y ∷ filter test xs) (filter test xs) (λ l. Has l x)
    (λ q. ⊎_elim (λ e. subst (Has (y ∷ filter test xs)) e (has_first y (filter test xs))) (λ k. has_later y x (filter test xs) (has_kept test xs x k p)) (has_cases y x xs h))
    (λ q. ⊎_elim (λ e. absurd (both_ways (test x) (ap test (sym e) ∙ q) p)) (λ k. has_kept test xs x k p) (has_cases y x xs h))

-- what holds of everything holds of each element
pub all_of : {X : Type 0} (P : X → Type 0) → ((x : X) → P x) → (xs : List X) → AllByRecursion P xs
all_of P h [] = tt
all_of P h (x ∷ xs) = (h x, all_of P h xs)

-- ## All groups

-- the groups over these plates
pub all_groups : List ℕ → List (List Item)
all_groups [] = [] ∷ []
all_groups (p ∷ ps) = all_groups ps ++ (map (λ g. plus p ∷ g) (all_groups ps) ++ (map (λ g. minus p ∷ g) (all_groups ps) ++ map (λ g. star p ∷ g) (all_groups ps)))

-- whatever signs the plates are given, their items are listed
items_listed : (ps : List ℕ) (sign : ℕ → Option Sign) → Has (all_groups ps) (items_on sign ps)
unfolding all_groups
items_listed [] sign = has_first [] []
items_listed (p ∷ ps) sign = go (items_listed ps sign) (sign p)
  where
    go : Has (all_groups ps) (items_on sign ps) → (o : Option Sign) → Has (all_groups (p ∷ ps)) (item_if p o ++ items_on sign ps)
    go h None = has_append_left (all_groups ps) _ _ h
    go h (Some Plus) = has_append_right (all_groups ps) _ _ (has_append_left (map (λ g. plus p ∷ g) (all_groups ps)) _ _ (has_map (λ g. plus p ∷ g) (all_groups ps) _ h))
    go h (Some Minus) = has_append_right (all_groups ps) _ _ (has_append_right (map (λ g. plus p ∷ g) (all_groups ps)) _ _ (has_append_left (map (λ g. minus p ∷ g) (all_groups ps)) _ _ (has_map (λ g. minus p ∷ g) (all_groups ps) _ h)))
    go h (Some Star) = has_append_right (all_groups ps) _ _ (has_append_right (map (λ g. plus p ∷ g) (all_groups ps)) _ _ (has_append_right (map (λ g. minus p ∷ g) (all_groups ps)) _ _ (has_map (λ g. star p ∷ g) (all_groups ps) _ h)))

-- so each group over the plates is listed
pub group_listed : (ps : List ℕ) → climbing 0 ps ≡ true → (g : List Item) → group_over ps g ≡ true → Has (all_groups ps) g
group_listed ps c g o = subst (Has (all_groups ps)) (items_again ps g c o) (items_listed ps (sign_at g))

-- ## The shortest

-- the items are a group over the plates, and forbidden
pub tells_forbidden : Frame → List Item → Bool
tells_forbidden f g = group_over f.plates g && is_forbidden f g

pub forbidden_told : (f : Frame) → Sound f → (g : List Item) → Decides (tells_forbidden f g) (Forbidden f g)
unfolding tells_forbidden
forbidden_told f sound g = (
  (λ h. let parts = and_parts (group_over f.plates g) (is_forbidden f g) h in (forbidden_tried f sound g parts.0).0 parts.1),
  (λ forb. and_from (group_over f.plates g) (is_forbidden f g) forb.fitted ((forbidden_tried f sound g forb.fitted).1 forb)),
)

-- one test, where another holds
decides_if : {P Q : Type 0} (x y : Bool) → Decides x P → Decides y Q → Decides (not x || y) (P → Q)
decides_if x y a b = (
  (λ h p. ⊎_elim (λ n. absurd (both_ways x (not-true x n) (a.1 p))) b.0 (or_cases (not x) y h)),
  (λ k. ⊎_elim (λ t. or_right (not x) y (b.1 (k (a.0 t)))) (λ t. or_left (not x) y (not_from_false x t)) (cases_Bool x)),
)

-- the group h, if it is forbidden and covers the group g, is covered by it
abbrev Yields : Frame → List Item → List Item → Type 0
Yields f g h = Forbidden f h → covers h g ≡ true → covers g h ≡ true

abbrev yields : Frame → List Item → List Item → Bool
yields f g h = not (tells_forbidden f h) || (not (covers h g) || covers g h)

-- the test tells whether it does
yields_told : (f : Frame) → Sound f → (g h : List Item) → Decides (yields f g h) (Yields f g h)
yields_told f sound g h = decides_if (tells_forbidden f h) (not (covers h g) || covers g h) (forbidden_told f sound h) (decides_if (covers h g) (covers g h) (λ e. e, λ e. e) (λ e. e, λ e. e))

-- all of these yield to the group
abbrev all_yield : Frame → List Item → List (List Item) → Bool
all_yield f g [] = true
all_yield f g (h ∷ us) = yields f g h && all_yield f g us

all_yield_told : (f : Frame) → Sound f → (g : List Item) (us : List (List Item)) → Decides (all_yield f g us) (AllByRecursion (Yields f g) us)
all_yield_told f sound g us = Decides-by_and (yields f g) (Yields f g) (all_yield f g) (yields_told f sound g) refl (λ _ _. refl) us

-- a group is forbidden, and each forbidden group that covers it is covered by it
pub tells_shortest : Frame → List Item → Bool
tells_shortest f g = tells_forbidden f g && all_yield f g (all_groups f.plates)

-- the test tells whether a group is shortest
pub shortest_told : (f : Frame) → Sound f → (g : List Item) → Decides (tells_shortest f g) (Shortest f g)
unfolding tells_shortest
shortest_told f sound g =
    Decides-like (tells_forbidden f g && all_yield f g (all_groups f.plates)) to from
    (Decides-and (tells_forbidden f g) (all_yield f g (all_groups f.plates)) (forbidden_told f sound g) (all_yield_told f sound g (all_groups f.plates)))
  where
    to : Forbidden f g × AllByRecursion (Yields f g) (all_groups f.plates) → Shortest f g
    to r =
        record {
          forbidden = r.0;
          alone = λ h forb c.
              covers_same h g (over_parts f.plates h forb.fitted).rises (over_parts f.plates g r.0.fitted).rises c
              (all-has (Yields f g) (all_groups f.plates) h r.1 (group_listed f.plates sound.plates h forb.fitted) forb c);
        }

    from : Shortest f g → Forbidden f g × AllByRecursion (Yields f g) (all_groups f.plates)
    from s = (s.forbidden, all_of (Yields f g) (λ h forb c. ap (covers g) (s.alone h forb c) ∙ covers_itself g (over_parts f.plates g s.forbidden.fitted).rises) (all_groups f.plates))

-- ## In order

-- the group is there then
pub place_new : (g : List Item) (t : List (List Item)) → Has (put_in_order g t) g
unfolding put_in_order
place_new g [] = has_first g []
place_new g (h ∷ t) =
    cond_both (before g h) (g ∷ h ∷ t) (cond (before h g) (h ∷ put_in_order g t) (h ∷ t)) (λ l. Has l g)
    (λ a. has_first g (h ∷ t))
    (λ a. cond_both (before h g) (h ∷ put_in_order g t) (h ∷ t) (λ l. Has l g)
    (λ b. has_later h g (put_in_order g t) (place_new g t))
    (λ b. subst (Has (h ∷ t)) (order_is_strict.total h g b a) (has_first h t)))

-- and so are the others
pub place_old : (g : List Item) (t : List (List Item)) (k : List Item) → Has t k → Has (put_in_order g t) k
unfolding put_in_order
place_old g [] k m = absurd (has_none k m)
place_old g (h ∷ t) k m =
    cond_both (before g h) (g ∷ h ∷ t) (cond (before h g) (h ∷ put_in_order g t) (h ∷ t)) (λ l. Has l k)
    (λ a. has_later g k (h ∷ t) m)
    (λ a. cond_both (before h g) (h ∷ put_in_order g t) (h ∷ t) (λ l. Has l k)
    (λ b. ⊎_elim (λ e. subst (Has (h ∷ put_in_order g t)) e (has_first h (put_in_order g t))) (λ n. has_later h k (put_in_order g t) (place_old g t k n)) (has_cases h k t m))
    (λ b. m))

-- and nothing else
pub place_all : (P : List Item → Type 0) (g : List Item) (t : List (List Item)) → P g → AllByRecursion P t → AllByRecursion P (put_in_order g t)
unfolding put_in_order
place_all P g [] p a = (p, tt)
place_all P g (h ∷ t) p a =
    cond_both (before g h) (g ∷ h ∷ t) (cond (before h g) (h ∷ put_in_order g t) (h ∷ t)) (AllByRecursion P)
    (λ _. (p, a))
    (λ _. cond_both (before h g) (h ∷ put_in_order g t) (h ∷ t) (AllByRecursion P) (λ _. (a.0, place_all P g t p a.1)) (λ _. a))

-- a group comes before all of these just when it comes before each
pub before_all_lem : (g : List Item) (t : List (List Item)) → Decides (before_all g t) (AllByRecursion (λ h. before g h ≡ true) t)
before_all_lem g t = Decides-by_and (before g) (λ h. before g h ≡ true) (before_all g) (λ h. (λ e. e, λ e. e)) refl (λ _ _. refl) t

-- groups in order stay in order
pub place_order : (g : List Item) (t : List (List Item)) → in_order t ≡ true → in_order (put_in_order g t) ≡ true
unfolding put_in_order
place_order g [] o = refl
place_order g (h ∷ t) o =
    let parts = and_parts (before_all h t) (in_order t) o in
    let behind = (before_all_lem h t).0 parts.0 in
    cond_both (before g h) (g ∷ h ∷ t) (cond (before h g) (h ∷ put_in_order g t) (h ∷ t)) (λ l. in_order l ≡ true)
    (λ a. and_from _ _ (and_from _ _ a ((before_all_lem g t).1 (All-weaker (λ k. before h k ≡ true) (λ k. before g k ≡ true) (λ k b. order_is_strict.onwards g h k a b) t behind))) o)
    (λ _. cond_both (before h g) (h ∷ put_in_order g t) (h ∷ t) (λ l. in_order l ≡ true)
    (λ b. and_from _ _ ((before_all_lem h (put_in_order g t)).1 (place_all (λ k. before h k ≡ true) g t b behind)) (place_order g t parts.1))
    (λ _. o))

-- the groups put in order, each once
pub arranged : List (List Item) → List (List Item)
arranged [] = []
arranged (g ∷ us) = put_in_order g (arranged us)

pub arranged_has : (us : List (List Item)) (g : List Item) → Has us g → Has (arranged us) g
unfolding arranged
arranged_has [] g m = m
arranged_has (h ∷ us) g m =
    ⊎_elim
    (λ e. subst (Has (put_in_order h (arranged us))) e (place_new h (arranged us)))
    (λ n. place_old h (arranged us) g (arranged_has us g n))
    (has_cases h g us m)

pub arranged_all : (P : List Item → Type 0) (us : List (List Item)) → AllByRecursion P us → AllByRecursion P (arranged us)
unfolding arranged
arranged_all P [] a = tt
arranged_all P (g ∷ us) a = place_all P g (arranged us) a.0 (arranged_all P us a.1)

pub arranged_order : (us : List (List Item)) → in_order (arranged us) ≡ true
unfolding arranged
arranged_order [] = refl
arranged_order (g ∷ us) = place_order g (arranged us) (arranged_order us)

-- ## The table

-- the shortest groups of the frame, in order
pub table_of : Frame → List (List Item)
table_of f = arranged (filter (tells_shortest f) (all_groups f.plates))

pub table_is : (f : Frame) → Sound f → IsTable f (table_of f)
unfolding table_of
table_is f sound =
    let us = all_groups f.plates in
    record {
      every = λ g s. arranged_has (filter (tells_shortest f) us) g (has_kept (tells_shortest f) us g (group_listed f.plates sound.plates g s.forbidden.fitted) ((shortest_told f sound g).1 s));
      only = arranged_all (Shortest f) (filter (tells_shortest f) us) (All-weaker (λ g. tells_shortest f g ≡ true) (Shortest f) (λ g h. (shortest_told f sound g).0 h) (filter (tells_shortest f) us) (kept_by_passes (tells_shortest f) us));
      order = arranged_order (filter (tells_shortest f) us);
    }

pub some_table : SomeTable
some_table f sound = (table_of f, table_is f sound)
