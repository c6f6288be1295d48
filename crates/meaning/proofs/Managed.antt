-- What a crew admits: the levers that a group has with *, and those that a setting has between. Assumes nothing.
use Rattle.std.proofs.Common.{◌≡◌, ℕ, Bool, true, false, cond, List, [], ◌∷◌, ◌++◌, Some, None, filter, Option, sym, refl, ap, ◌∙◌, append_assoc, arith}
use Rattle.std.proofs.lemmas.Bool.{false≢true}
use Rattle.groups.specs.declared.items.Item.{Item}
use Rattle.groups.specs.declared.items.Sign.{Sign}
use Rattle.groups.specs.declared.items.Sign.TheVariants.{Plus, Minus, Star}
use Rattle.groups.specs.Items.{sign_at}
use Rattle.groups.specs.Rises.{climbing, item_if, items_on}
use Rattle.meaning.specs.Crews.{Admits, Lawful}
use Rattle.meaning.specs.Frames.{Frame, Sound, group_over, starred, stars, manageable}
use Rattle.meaning.proofs.Ends.{upper, lower, Within}
use Rattle.meaning.proofs.Fitted.{items_again}

pub starred_within : (o u : Option Sign) → Within o u → starred o ≡ true → starred u ≡ true
starred_within o u w h = let a = w upper in let b = w lower in grind arith

-- the plates that are given *
stars_items : (sign : ℕ → Option Sign) (ps : List ℕ) → stars (items_on sign ps) ≡ filter (λ p. starred (sign p)) ps
stars_items sign [] = refl
stars_items sign (p ∷ ps) = first (sign p) ∙ ap (λ l. cond (starred (sign p)) (p ∷ l) l) (stars_items sign ps)
  where
    first : (o : Option Sign) → stars (item_if p o ++ items_on sign ps) ≡ cond (starred o) (p ∷ stars (items_on sign ps)) (stars (items_on sign ps))
    first None = refl
    first (Some Plus) = refl
    first (Some Minus) = refl
    first (Some Star) = refl

pub stars_over : (ps : List ℕ) (g : List Item) → climbing 0 ps ≡ true → group_over ps g ≡ true → stars g ≡ filter (λ p. starred (sign_at g p)) ps
stars_over ps g c h = ap stars (sym (items_again ps g c h)) ∙ stars_items (sign_at g) ps

-- tests that agree keep the same
pub kept_same : (t u : ℕ → Bool) → ((p : ℕ) → t p ≡ u p) → (ps : List ℕ) → filter t ps ≡ filter u ps
kept_same t u h [] = refl
kept_same t u h (p ∷ ps) = λ i. cond (h p i) (p ∷ kept_same t u h ps i) (kept_same t u h ps i)

-- a crew that admits what one test keeps admits what a stricter test keeps
pub fewer_kept : (crew : Admits) → Lawful crew → (t u : ℕ → Bool) → ((p : ℕ) → t p ≡ true → u p ≡ true) → (ps front : List ℕ) → crew (front ++ filter u ps) ≡ true → crew (front ++ filter t ps) ≡ true
fewer_kept crew laws t u h [] front a = a
fewer_kept crew laws t u h (p ∷ ps) front a = go (fewer_kept crew laws t u h ps) (t p) (u p) (h p) a
  where
    go : ((front' : List ℕ) → crew (front' ++ filter u ps) ≡ true → crew (front' ++ filter t ps) ≡ true) → (x y : Bool) → (x ≡ true → y ≡ true) → crew (front ++ cond y (p ∷ filter u ps) (filter u ps)) ≡ true → crew (front ++ cond x (p ∷ filter t ps) (filter t ps)) ≡ true
    go below true true q b = ap crew (sym (append_assoc front (p ∷ []) (filter t ps))) ∙ below (front ++ (p ∷ [])) (ap crew (append_assoc front (p ∷ []) (filter u ps)) ∙ b)
    go below true false q b = absurd (false≢true (q refl))
    go below false true q b = below front (laws.fewer front p (filter u ps) b)
    go below false false q b = below front b

-- a group that has * only where a manageable group has it is manageable
pub manageable_stars : (f : Frame) → Sound f → (g h : List Item) → group_over f.plates g ≡ true → group_over f.plates h ≡ true → ((p : ℕ) → starred (sign_at g p) ≡ true → starred (sign_at h p) ≡ true) → manageable f h ≡ true → manageable f g ≡ true
manageable_stars f s g h o u w m =
    let c = s.plates in
    ap f.crew (stars_over f.plates g c o)
    ∙ fewer_kept f.crew s.crew (λ p. starred (sign_at g p)) (λ p. starred (sign_at h p)) w f.plates [] (ap f.crew (sym (stars_over f.plates h c u)) ∙ m)

-- so is one whose ends are among those of a manageable group
pub manageable_within : (f : Frame) → Sound f → (g h : List Item) → group_over f.plates g ≡ true → group_over f.plates h ≡ true → ((p : ℕ) → Within (sign_at g p) (sign_at h p)) → manageable f h ≡ true → manageable f g ≡ true
manageable_within f s g h o u w m = manageable_stars f s g h o u (λ p. starred_within (sign_at g p) (sign_at h p) (w p)) m
