-- Which of two groups comes first in a table, read off their signs. Assumes nothing.
use Rattle.std.proofs.Common.{◌≡◌, ℕ, zero, suc, ◌+◌, ◌<◌, ◌≤◌, Bool, true, false, cond, not, ◌&&◌, ◌||◌, List, [], ◌∷◌, ◌++◌, length, is_some, Some, None, Option, Ordering, Less, Equal, Greater, sym, refl, ap, ◌∙◌, ⊎_elim, arith}
use Rattle.std.specs.List.{range_with_len}
use Rattle.std.specs.Ordering.{MatchOrdering, is_lt}
use Rattle.std.proofs.lemmas.List.FromFn.{length-range_with_len}
use Rattle.std.proofs.lemmas.Bool.{and_from, or_left, or_right, lt-ltb, eq-eqb, cases_lt, cases_Bool}
use Rattle.std.proofs.lemmas.Bool.Decides.{nat_tests}
use Rattle.groups.specs.declared.items.Item.{Item}
use Rattle.groups.specs.declared.items.Sign.{Sign}
use Rattle.groups.specs.declared.items.Sign.TheVariants.{Plus, Minus, Star}
use Rattle.groups.specs.Rises.{climbing, item_if}
use Rattle.levers.specs.declared.Levers.{Levers}
use Rattle.levers.specs.Sets.{has, tally, Lowest}
use Rattle.levers.proofs.Counts.{tally_same}
use Rattle.meaning.specs.Tables.{rank_of, earlier, before}
use Rattle.meaning.proofs.Order.{order_is_strict}
use Rattle.placed.specs.declared.Placed.{Placed}
use Rattle.placed.specs.Laws.{DiffersFirst, OrdersOver}
use Rattle.placed.specs.Signs.{sign_of, sign_on, Within, rank_if}
use Rattle.placed.specs.Spelling.{spell_from, spell}
use Rattle.placed.specs.Order.{own_items, order}
use Rattle.placed.proofs.Own.{Above, Ups, ups_climbing, ups_range, above_from, own_within, own_spelled, orders_over, answers_less, answers_greater}

-- a sign, where one end or both are there
named_ends : (u d : Bool) → (u || d) ≡ is_some (sign_of u d)
named_ends u d = grind arith

item_length : (o : Option Sign) (p : ℕ) (xs : List Item) → length (item_if p o ++ xs) ≡ cond (is_some o) 1 0 + length xs
item_length None p xs = omega arith
item_length (Some s) p xs = omega arith

-- a group spells one item for each place with a sign
length_from : (k : ℕ) (ps : List ℕ) (g : Placed) → length (spell_from k ps g) ≡ tally (λ j. is_some (sign_on g j)) k (length ps)
length_from k [] g = refl
length_from k (p ∷ ps) g = item_length (sign_on g k) p (spell_from (suc k) ps g) ∙ ap (λ n. cond (is_some (sign_on g k)) 1 0 + n) (length_from (suc k) ps g)

-- the places of both ends together, counted, are the items
pub counted : (ps : List ℕ) (g : Placed) (s : Levers) (n : ℕ) → ((k : ℕ) → has s k ≡ (has g.up k || has g.down k)) → ((m : ℕ) → ((k : ℕ) → m ≤ k → has s k ≡ false) → n ≡ tally (has s) 0 m) → Within (length ps) g → n ≡ length (spell ps g)
counted ps g s n e c w =
    c (length ps) (λ k l. named k ∙ ap is_some (w k l))
    ∙ tally_same (has s) (λ j. is_some (sign_on g j)) 0 0 (length ps) (λ j l. named (0 + j))
    ∙ sym (length_from 0 ps g)
  where
    named : (k : ℕ) → has s k ≡ is_some (sign_on g k)
    named k = e k ∙ named_ends (has g.up k) (has g.down k)

-- one end is there and the other not
abbrev unlike : Bool → Bool → Bool
unlike u v = (u && not v) || (v && not u)

-- ends that differ are signs that differ
differ_ends : (u d v e : Bool) → (unlike u v || unlike d e) ≡ true → sign_of u d ≡ sign_of v e → ⊥
differ_ends u d v e t s = grind arith

agree_ends : (u d v e : Bool) → (unlike u v || unlike d e) ≡ false → sign_of u d ≡ sign_of v e
agree_ends u d v e t = grind arith

-- the lowest place at which an end differs is the lowest at which the signs do
first_of : (g h : Placed) (f : ℕ → Bool) (o : Option ℕ) → ((k : ℕ) → f k ≡ (unlike (has g.up k) (has h.up k) || unlike (has g.down k) (has h.down k))) → Lowest f o → DiffersFirst g h o
first_of g h f None e l = λ k. agree_ends (has g.up k) (has g.down k) (has h.up k) (has h.down k) (sym (e k) ∙ l k)
first_of g h f (Some p) e l = (
  (λ q. differ_ends (has g.up p) (has g.down p) (has h.up p) (has h.down p) (sym (e p) ∙ l.0) q),
  (λ k m. agree_ends (has g.up k) (has g.down k) (has h.up k) (has h.down k) (sym (e k) ∙ l.1 k m)),
)

pub first_differs : (g h : Placed) (a b s : Levers) (o : Option ℕ) → ((k : ℕ) → has a k ≡ unlike (has g.up k) (has h.up k)) → ((k : ℕ) → has b k ≡ unlike (has g.down k) (has h.down k)) → ((k : ℕ) → has s k ≡ (has a k || has b k)) → Lowest (has s) o → DiffersFirst g h o
first_differs g h a b s o u d e l = first_of g h (has s) o (λ k. e k ∙ (λ i. u k i || d k i)) l

-- each sign comes before none
rank_last : (s : Sign) → rank_of s < 3
rank_last Plus = omega arith
rank_last Minus = omega arith
rank_last Star = omega arith

-- one more place at which both have the same sign
step_same : (o : Option Sign) (p : ℕ) (xs ys : List Item) → (length xs ≡ length ys → earlier xs ys ≡ true) → length (item_if p o ++ xs) ≡ length (item_if p o ++ ys) → earlier (item_if p o ++ xs) (item_if p o ++ ys) ≡ true
step_same None p xs ys f e = f e
step_same (Some s) p xs ys f e = let r = f (omega arith) in grind (arith, nat_tests)

-- the place that decides: the plates behind it are higher, and there is one where the other has no sign here
step_here : (o t : Option Sign) (p : ℕ) (xs ys : List Item) → rank_if o < rank_if t → Above p ys → length (item_if p o ++ xs) ≡ length (item_if p t ++ ys) → earlier (item_if p o ++ xs) (item_if p t ++ ys) ≡ true
step_here None None p xs ys h r e = absurd (omega arith)
step_here None (Some t) p xs ys h r e = let l = rank_last t in absurd (omega arith)
step_here (Some s) (Some t) p xs ys h r e = or_left _ _ (or_right _ _ (and_from _ _ (eq-eqb p p refl) (lt-ltb _ _ h)))
step_here (Some s) None p xs [] h r e = absurd (omega arith)
step_here (Some s) None p xs (y ∷ ys) h r e = or_left _ _ (or_left _ _ (lt-ltb _ _ r))

earlier_from : (k low : ℕ) (ps : List ℕ) (g h : Placed) (j : ℕ) → Ups low ps → j < length ps → ((i : ℕ) → i < j → sign_on g (k + i) ≡ sign_on h (k + i)) → rank_if (sign_on g (k + j)) < rank_if (sign_on h (k + j)) → length (spell_from k ps g) ≡ length (spell_from k ps h) → earlier (spell_from k ps g) (spell_from k ps h) ≡ true
earlier_from k low [] g h j r l s d e = absurd (omega arith)
earlier_from k low (p ∷ ps) g h zero r l s d e =
    let z : k + 0 ≡ k = omega arith in
    step_here (sign_on g k) (sign_on h k) p (spell_from (suc k) ps g) (spell_from (suc k) ps h) (rw z at d) (above_from (suc k) p ps h r.1) e
earlier_from k low (p ∷ ps) g h (suc j) r l s d e =
    let z : k + 0 ≡ k = omega arith in
    let n : k + suc j ≡ suc k + j = omega arith in
    let same : sign_on g k ≡ sign_on h k = ap (sign_on g) (sym z) ∙ s 0 (omega arith) ∙ ap (sign_on h) z in
    let rest = earlier_from (suc k) p ps g h j r.1 (omega arith) (λ i m. let w : suc k + i ≡ k + suc i = omega arith in ap (sign_on g) w ∙ s (suc i) (omega arith) ∙ ap (sign_on h) (sym w)) (rw n at d) in
    here (sign_on g k) (sign_on h k) p (spell_from (suc k) ps g) (spell_from (suc k) ps h) same rest e
  where
    here : (o t : Option Sign) (p : ℕ) (xs ys : List Item) → o ≡ t → (length xs ≡ length ys → earlier xs ys ≡ true) → length (item_if p o ++ xs) ≡ length (item_if p t ++ ys) → earlier (item_if p o ++ xs) (item_if p t ++ ys) ≡ true
    here o t p xs ys q f e = ap (λ v. earlier (item_if p o ++ xs) (item_if p v ++ ys)) (sym q) ∙ step_same o p xs ys f (e ∙ ap (λ v. length (item_if p v ++ ys)) (sym q))

-- of two groups of equal number that one comes first which has the lower rank at the lowest place at which they differ
earlier_ups : (ps : List ℕ) (g h : Placed) (p : ℕ) → Ups 0 ps → Within (length ps) g → Within (length ps) h → ((k : ℕ) → k < p → sign_on g k ≡ sign_on h k) → rank_if (sign_on g p) < rank_if (sign_on h p) → length (spell ps g) ≡ length (spell ps h) → earlier (spell ps g) (spell ps h) ≡ true
earlier_ups ps g h p r v w s d e =
    ⊎_elim
    (λ l.
    let z : 0 + p ≡ p = omega arith in
    earlier_from 0 0 ps g h p r l (λ i m. let y : 0 + i ≡ i = omega arith in ap (sign_on g) y ∙ s i m ∙ ap (sign_on h) (sym y)) (rw z d) e)
    (λ l. let a = ap rank_if (v p l) in let b = ap rank_if (w p l) in absurd (omega arith))
    (cases_lt p (length ps))

-- which of two signs comes first
abbrev Ranked : Placed → Placed → ℕ → Ordering → Type 0
Ranked g h p o = MatchOrdering o (rank_if (sign_on g p) < rank_if (sign_on h p)) (sign_on g p ≡ sign_on h p) (rank_if (sign_on h p) < rank_if (sign_on g p))

-- so the signs at that place say which comes first
pub signs_over : (ps : List ℕ) (g h : Placed) (p : ℕ) (o : Ordering) → climbing 0 ps ≡ true → Within (length ps) g → Within (length ps) h → (sign_on g p ≡ sign_on h p → ⊥) → ((k : ℕ) → k < p → sign_on g k ≡ sign_on h k) → Ranked g h p o → length (spell ps g) ≡ length (spell ps h) → MatchOrdering o (earlier (spell ps g) (spell ps h) ≡ true) (g ≡ h) (earlier (spell ps h) (spell ps g) ≡ true)
signs_over ps g h p Less r v w ne s d e = earlier_ups ps g h p (ups_climbing 0 ps r) v w s d e
signs_over ps g h p Equal r v w ne s d e = absurd (ne d)
signs_over ps g h p Greater r v w ne s d e = earlier_ups ps h g p (ups_climbing 0 ps r) w v (λ k m. sym (s k m)) d (sym e)

-- the same of the items of their own
first_own : (g h : Placed) (p : ℕ) → ((k : ℕ) → k < p → sign_on g k ≡ sign_on h k) → rank_if (sign_on g p) < rank_if (sign_on h p) → length (own_items g) ≡ length (own_items h) → before (own_items g) (own_items h) ≡ true
first_own g h p s d e =
    let n = g.up.bits + g.down.bits + (h.up.bits + h.down.bits) in
    let m = length-range_with_len 1 n in
    let v : Within n g = (λ k l. own_within g k (omega arith)) in
    let w : Within n h = (λ k l. own_within h k (omega arith)) in
    let a = own_spelled g n v in
    let b = own_spelled h n w in
    let f = earlier_ups (range_with_len 1 n) g h p (ups_range 0 1 n (omega arith)) (λ k l. v k (omega arith)) (λ k l. w k (omega arith)) s d (sym (ap length a) ∙ e ∙ ap length b) in
    or_right _ _ (and_from _ _ (eq-eqb _ _ e) ((λ i. earlier (a i) (b i)) ∙ f))

pub signs_own : (g h : Placed) (p : ℕ) (o : Ordering) → (sign_on g p ≡ sign_on h p → ⊥) → ((k : ℕ) → k < p → sign_on g k ≡ sign_on h k) → Ranked g h p o → length (own_items g) ≡ length (own_items h) → o ≡ order g h
signs_own g h p Less ne s d e = answers_less g h (first_own g h p s d e)
signs_own g h p Equal ne s d e = absurd (ne d)
signs_own g h p Greater ne s d e = answers_greater g h (first_own h g p (λ k m. sym (s k m)) d (sym e))

-- what `cmp` answers, as a test: it says less just where the one comes before the other in a table
pub ordered_before : (ps : List ℕ) (g h : Placed) (o : Ordering) → climbing 0 ps ≡ true → Within (length ps) g → Within (length ps) h → OrdersOver g h o → is_lt o ≡ before (spell ps g) (spell ps h)
ordered_before ps g h Less r v w t = sym (t ps r v w)
ordered_before ps g h Equal r v w t =
    let same = t ps r v w in
    ⊎_elim
    (λ b. absurd (order_is_strict.one_way (spell ps g) (spell ps h) b ((λ i. before (spell ps (sym same i)) (spell ps (same i))) ∙ b)))
    (λ b. sym b)
    (cases_Bool (before (spell ps g) (spell ps h)))
ordered_before ps g h Greater r v w t =
    ⊎_elim (λ b. absurd (order_is_strict.one_way (spell ps g) (spell ps h) b (t ps r v w))) (λ b. sym b) (cases_Bool (before (spell ps g) (spell ps h)))

-- the same of `<`
pub less_before : (ps : List ℕ) (g h : Placed) (r : Bool) → climbing 0 ps ≡ true → Within (length ps) g → Within (length ps) h → r ≡ is_lt (order g h) → r ≡ before (spell ps g) (spell ps h)
less_before ps g h r c v w e = e ∙ ordered_before ps g h (order g h) c v w (orders_over g h)
