-- What is written of a group spells that group. Assumes nothing.
use Rattle.std.proofs.Common.{◌≡◌, ℕ, ◌≤◌, true, List, [], ◌∷◌, ◌++◌, length, is_some, Ok, decimal, sym, refl, ap, ◌∙◌, subst, append_assoc, append-nil, arith}
use Rattle.std.proofs.lemmas.List.{length_push}
use Rattle.groups.specs.declared.items.Item.{Item}
use Rattle.groups.specs.declared.items.Sign.{Sign}
use Rattle.groups.specs.Items.{rising, sign_at}
use Rattle.groups.proofs.Rising.{rising_step, unnamed_below}
use Rattle.reading.specs.Grammar.{mark_of, item, Items, none, more, Once, Spells}
use Rattle.reading.specs.Numbers.{Numeral}
use Rattle.reading.specs.Reading.{read_group}
use Rattle.reading.proofs.Laws.{spelled_read}
use Rattle.lines.specs.Texts.{item_text, row_text, group_text}

-- a row of items with its last item apart
record LastApart (text : List ℕ) (is : List Item) : Type 0 where
  front : List ℕ
  its : List Item
  p : ℕ
  s : Sign
  items : Items front its
  number : Numeral (decimal p) p
  text_is : text ++ (41 ∷ []) ≡ front ++ (decimal p ++ (mark_of s ∷ 41 ∷ []))
  items_are : its ++ (item p s ∷ []) ≡ is

number_of : (low : ℕ) (i : Item) (is : List Item) → rising low (i ∷ is) ≡ true → Numeral (decimal i.plate) i.plate
number_of low i is r = let s = rising_step low i is r in let a = s.above in record { written = refl; low = omega arith; high = s.upto }

last_apart : (low : ℕ) (i : Item) (is : List Item) → rising low (i ∷ is) ≡ true → LastApart (row_text (i ∷ is)) (i ∷ is)
last_apart low i [] r = record {
  front = [];
  its = [];
  p = i.plate;
  s = i.sign;
  items = none;
  number = number_of low i [] r;
  text_is = ap (λ l. l ++ (41 ∷ [])) (append-nil (item_text i)) ∙ append_assoc (decimal i.plate) (mark_of i.sign ∷ []) (41 ∷ []);
  items_are = refl;
}
last_apart low i (j ∷ is) r =
    let rest = last_apart i.plate j is (rising_step low i (j ∷ is) r).rest in
    record {
      front = decimal i.plate ++ (mark_of i.sign ∷ 32 ∷ rest.front);
      its = i ∷ rest.its;
      p = rest.p;
      s = rest.s;
      items = more i.sign (number_of low i (j ∷ is) r) rest.items;
      number = rest.number;
      text_is =
          append_assoc (item_text i) (32 ∷ row_text (j ∷ is)) (41 ∷ [])
          ∙ append_assoc (decimal i.plate) (mark_of i.sign ∷ []) (32 ∷ (row_text (j ∷ is) ++ (41 ∷ [])))
          ∙ ap (λ l. decimal i.plate ++ (mark_of i.sign ∷ 32 ∷ l)) rest.text_is
          ∙ sym (append_assoc (decimal i.plate) (mark_of i.sign ∷ 32 ∷ rest.front) (decimal rest.p ++ (mark_of rest.s ∷ 41 ∷ [])));
      items_are = ap (λ l. i ∷ l) rest.items_are;
    }

once : (low : ℕ) (is : List Item) → rising low is ≡ true → Once is
once low [] r = tt
once low (i ∷ is) r =
    let s = rising_step low i is r in
    (ap is_some (unnamed_below i.plate i.plate is (omega arith) s.rest), once i.plate is s.rest)

spells : (i : Item) (is : List Item) → rising 0 (i ∷ is) ≡ true → length (i ∷ is) ≤ 8 → Spells (group_text (i ∷ is)) (i ∷ is)
spells i is r few =
    let a = last_apart 0 i is r in
    record {
      front = a.front;
      its = a.its;
      ds = decimal a.p;
      p = a.p;
      s = a.s;
      items = a.items;
      number = a.number;
      whole = ap (λ l. 40 ∷ l) a.text_is;
      few = omega (arith, ap length a.items_are, length_push a.its (item a.p a.s));
      once = subst Once (sym a.items_are) (once 0 (i ∷ is) r);
      rises = r;
      same = λ q. ap (λ l. sign_at l q) (sym a.items_are);
    }

-- so it is read as that group
pub read_back : (is : List Item) → rising 0 is ≡ true → (start : ℕ) → 1 ≤ length is → length is ≤ 8 → read_group start (group_text is) ≡ Ok is
read_back [] r start some few = absurd (omega arith)
read_back (i ∷ is) r start some few = spelled_read start (group_text (i ∷ is)) (i ∷ is) (spells i is r few)
