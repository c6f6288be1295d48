-- The table's order as a function of two groups is the order over any frame that has their levers. Assumes nothing.
use Rattle.std.proofs.Common.{◌≡◌, ℕ, zero, suc, ◌+◌, ◌^◌, ◌<◌, ◌≤◌, Bool, true, false, cond, ◌&&◌, ◌||◌, eqb, nat_lt, List, [], ◌∷◌, ◌++◌, length, Some, None, Option, Ordering, Less, Equal, Greater, sym, refl, ap, subst, ◌∙◌, pow-suc, arith}
use Rattle.std.proofs.lemmas.Bool.Decides.{nat_tests}
use Rattle.std.proofs.lemmas.Bool.{false≢true}
use Rattle.std.proofs.lemmas.List.FromFn.{length-range_with_len}
use Rattle.std.specs.List.{range_with_len}
use Rattle.std.specs.Ordering.{MatchOrdering, ordering_then}
use Rattle.std.specs.Cmp.{tied_itself}
use Rattle.groups.specs.declared.items.Item.{Item}
use Rattle.groups.specs.declared.items.Sign.{Sign}
use Rattle.groups.specs.Rises.{climbing, item_if}
use Rattle.groups.proofs.Climbing.{climbing_step}
use Rattle.levers.specs.Sets.{has}
use Rattle.std.proofs.lemmas.Nat.Bits.{bit_at_above}
use Rattle.meaning.specs.Tables.{earlier, before}
use Rattle.meaning.proofs.Order.{order_is_strict}
use Rattle.placed.specs.declared.Placed.{Placed}
use Rattle.placed.specs.Laws.{CountsOver, OrdersOver}
use Rattle.placed.specs.Order.{in_table, own_items, by_ends, order, answers, by_ends_total, order_total}
use Rattle.placed.specs.Signs.{sign_of, sign_on, Within}
use Rattle.placed.specs.Spelling.{spell_from, spell}
use Rattle.placed.proofs.Spelled.{same_spelled}

-- a number has fewer digits than it says
size_pow : (n : ℕ) → n < 2 ^ n
size_pow zero = omega arith
size_pow (suc n) = let h = size_pow n in omega (arith, pow-suc 2 n)

pub own_within : (g : Placed) → Within (g.up.bits + g.down.bits) g
own_within g k l =
    let u : has g.up k ≡ false = ap (λ d. eqb d 1) (bit_at_above g.up.bits g.up.bits k (size_pow g.up.bits) (omega arith)) in
    let d : has g.down k ≡ false = ap (λ d. eqb d 1) (bit_at_above g.down.bits g.down.bits k (size_pow g.down.bits) (omega arith)) in
    λ i. sign_of (u i) (d i)

-- with no sign from a place on, nothing is spelled
none_past : (k p n : ℕ) (g : Placed) → ((j : ℕ) → k ≤ j → sign_on g j ≡ None) → spell_from k (range_with_len p n) g ≡ []
none_past k p zero g w = refl
none_past k p (suc n) g w =
    ap (λ o. item_if p o ++ spell_from (suc k) (range_with_len (p + 1) n) g) (w k (omega arith))
    ∙ none_past (suc k) (p + 1) n g (λ j h. w j (omega arith))

longer : (k p n m : ℕ) (g : Placed) → n ≤ m → ((j : ℕ) → k + n ≤ j → sign_on g j ≡ None) → spell_from k (range_with_len p m) g ≡ spell_from k (range_with_len p n) g
longer k p zero m g l w = none_past k p m g (λ j h. w j (omega arith))
longer k p (suc n) zero g l w = absurd (omega arith)
longer k p (suc n) (suc m) g l w =
    ap (λ xs. item_if p (sign_on g k) ++ xs) (longer (suc k) (p + 1) n m g (omega arith) (λ j h. w j (omega arith)))

-- over as many plates as a frame has that has its levers, the items are the same
pub own_spelled : (g : Placed) (n : ℕ) → Within n g → own_items g ≡ spell (range_with_len 1 n) g
unfolding own_items
own_spelled g n w =
    let m = g.up.bits + g.down.bits in
    sym (longer 0 1 m (m + n) g (omega arith) (λ j h. own_within g j (omega arith)))
    ∙ longer 0 1 n (m + n) g (omega arith) (λ j h. w j (omega arith))

-- the plates rise from above `low` on
abbrev pub Ups : ℕ → List ℕ → Type 0
Ups low [] = Unit
Ups low (p ∷ ps) = (low < p) × Ups p ps

pub ups_climbing : (low : ℕ) (ps : List ℕ) → climbing low ps ≡ true → Ups low ps
ups_climbing low [] r = tt
ups_climbing low (p ∷ ps) r = let s = climbing_step low p ps r in (s.above, ups_climbing p ps s.rest)

pub ups_range : (low p n : ℕ) → low < p → Ups low (range_with_len p n)
ups_range low p zero l = tt
ups_range low p (suc n) l = (l, ups_range p (p + 1) n (omega arith))

-- the first item, if there is one, stands above a plate
abbrev pub Above : ℕ → List Item → Type 0
Above low [] = Unit
Above low (x ∷ xs) = low < x.plate

lower : (low p : ℕ) (xs : List Item) → low < p → Above p xs → Above low xs
lower low p [] l a = tt
lower low p (x ∷ xs) l a = omega arith

one_above : (o : Option Sign) (low p : ℕ) (xs : List Item) → low < p → Above p xs → Above low (item_if p o ++ xs)
one_above None low p xs l a = lower low p xs l a
one_above (Some s) low p xs l a = l

pub above_from : (k low : ℕ) (ps : List ℕ) (g : Placed) → Ups low ps → Above low (spell_from k ps g)
above_from k low [] g u = tt
above_from k low (p ∷ ps) g u = one_above (sign_on g k) low p _ u.0 (above_from (suc k) p ps g u.1)

-- which group comes first does not turn on the plates that stand at the places
step : (o t : Option Sign) (p q : ℕ) (xs ys us vs : List Item) → length xs ≡ length us → length ys ≡ length vs → Above p xs → Above p ys → Above q us → Above q vs → earlier xs ys ≡ earlier us vs → earlier (item_if p o ++ xs) (item_if p t ++ ys) ≡ earlier (item_if q o ++ us) (item_if q t ++ vs)
step None None p q xs ys us vs a b c d f g e = e
step (Some s) (Some t) p q xs ys us vs a b c d f g e = grind (arith, nat_tests)
step (Some s) None p q xs [] us [] a b c d f g e = refl
step (Some s) None p q xs [] us (v ∷ vs) a b c d f g e = absurd (omega arith)
step (Some s) None p q xs (y ∷ ys) us [] a b c d f g e = absurd (omega arith)
step (Some s) None p q xs (y ∷ ys) us (v ∷ vs) a b c d f g e = grind (arith, nat_tests)
step None (Some t) p q [] ys [] vs a b c d f g e = refl
step None (Some t) p q [] ys (u ∷ us) vs a b c d f g e = absurd (omega arith)
step None (Some t) p q (x ∷ xs) ys [] vs a b c d f g e = absurd (omega arith)
step None (Some t) p q (x ∷ xs) ys (u ∷ us) vs a b c d f g e = grind (arith, nat_tests)

item_alike : (o : Option Sign) (p q : ℕ) (xs us : List Item) → length xs ≡ length us → length (item_if p o ++ xs) ≡ length (item_if q o ++ us)
item_alike None p q xs us e = e
item_alike (Some s) p q xs us e = omega arith

length_alike : (k : ℕ) (ps qs : List ℕ) (g : Placed) → length ps ≡ length qs → length (spell_from k ps g) ≡ length (spell_from k qs g)
length_alike k [] [] g e = refl
length_alike k [] (q ∷ qs) g e = absurd (omega arith)
length_alike k (p ∷ ps) [] g e = absurd (omega arith)
length_alike k (p ∷ ps) (q ∷ qs) g e = item_alike (sign_on g k) p q _ _ (length_alike (suc k) ps qs g (omega arith))

earlier_alike : (k low lowest : ℕ) (ps qs : List ℕ) (g h : Placed) → Ups low ps → Ups lowest qs → length ps ≡ length qs → earlier (spell_from k ps g) (spell_from k ps h) ≡ earlier (spell_from k qs g) (spell_from k qs h)
earlier_alike k low lowest [] [] g h u v e = refl
earlier_alike k low lowest [] (q ∷ qs) g h u v e = absurd (omega arith)
earlier_alike k low lowest (p ∷ ps) [] g h u v e = absurd (omega arith)
earlier_alike k low lowest (p ∷ ps) (q ∷ qs) g h u v e =
    let s : length ps ≡ length qs = omega arith in
    step (sign_on g k) (sign_on h k) p q _ _ _ _
    (length_alike (suc k) ps qs g s)
    (length_alike (suc k) ps qs h s)
    (above_from (suc k) p ps g u.1)
    (above_from (suc k) p ps h u.1)
    (above_from (suc k) q qs g v.1)
    (above_from (suc k) q qs h v.1)
    (earlier_alike (suc k) p q ps qs g h u.1 v.1 s)

before_alike : (ps : List ℕ) (g h : Placed) → climbing 0 ps ≡ true → Within (length ps) g → Within (length ps) h → before (own_items g) (own_items h) ≡ before (spell ps g) (spell ps h)
before_alike ps g h r v w =
    let qs = range_with_len 1 (length ps) in
    let e : length qs ≡ length ps = length-range_with_len 1 (length ps) in
    let a = length_alike 0 qs ps g e in
    let b = length_alike 0 qs ps h e in
    let c = earlier_alike 0 0 0 qs ps g h (ups_range 0 1 (length ps) (omega arith)) (ups_climbing 0 ps r) e in
    (λ i. before (own_spelled g (length ps) v i) (own_spelled h (length ps) w i))
    ∙ (λ i. nat_lt (a i) (b i) || (eqb (a i) (b i) && c i))

-- where the items say it, the ends are not asked
first_answers : (a : Ordering) (g h : Placed) (P Q : Type 0) → MatchOrdering a P (g ≡ h) Q → MatchOrdering (ordering_then a (by_ends g h)) P (g ≡ h) Q
first_answers Less g h P Q m = m
first_answers Equal g h P Q m = subst (λ o. MatchOrdering o P (g ≡ h) Q) (sym (ap (λ x. by_ends x h) m ∙ tied_itself by_ends_total h)) m
first_answers Greater g h P Q m = m

-- the order is that over any frame that has the levers of both
pub orders_over : (g h : Placed) → OrdersOver g h (order g h)
orders_over g h ps r v w =
    first_answers (in_table (own_items g) (own_items h)) g h (before (spell ps g) (spell ps h) ≡ true) (before (spell ps h) (spell ps g) ≡ true)
    (answers (before (own_items g) (own_items h)) (before (own_items h) (own_items g)) (before (spell ps g) (spell ps h)) (before (spell ps h) (spell ps g)) (g ≡ h)
    (before_alike ps g h r v w)
    (before_alike ps h g r w v)
    (λ a b. same_spelled ps g h r v w (order_is_strict.total (spell ps g) (spell ps h) a b)))

-- ## What the code answers

less_is : (b c : Bool) (o : Ordering) → b ≡ true → Less ≡ ordering_then (cond b Less (cond c Greater Equal)) o
less_is true c o e = refl
less_is false c o e = absurd (false≢true e)

greater_is : (b c : Bool) (o : Ordering) → (b ≡ true → ⊥) → c ≡ true → Greater ≡ ordering_then (cond b Less (cond c Greater Equal)) o
greater_is true c o n e = absurd (n refl)
greater_is false true o n e = refl
greater_is false false o n e = absurd (false≢true e)

pub answers_less : (g h : Placed) → before (own_items g) (own_items h) ≡ true → Less ≡ order g h
answers_less g h b = less_is (before (own_items g) (own_items h)) (before (own_items h) (own_items g)) (by_ends g h) b

pub answers_greater : (g h : Placed) → before (own_items h) (own_items g) ≡ true → Greater ≡ order g h
answers_greater g h b =
    greater_is (before (own_items g) (own_items h)) (before (own_items h) (own_items g)) (by_ends g h) (order_is_strict.one_way (own_items h) (own_items g) b) b

pub answers_equal : (g h : Placed) → g ≡ h → Equal ≡ order g h
answers_equal g h e = sym (ap (λ x. order x h) e ∙ tied_itself order_total h)

-- the number of its own items, by that over any frame
pub own_count : (g : Placed) (n : ℕ) → CountsOver g n → n ≡ length (own_items g)
unfolding own_items
own_count g n c =
    let m = g.up.bits + g.down.bits in
    c (range_with_len 1 m) (λ k l. own_within g k (let e = length-range_with_len 1 m in omega arith))
