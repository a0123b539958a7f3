-- A veil is the position without its deal, and the cards at the places that are not buried.
-- Assumes nothing.
use mathlib.Core.Bool.{Bool, true, false, cond, true≢false}
use mathlib.Core.Path.{◌≡◌, refl, sym, ap}
use mathlib.Core.List.{[]}
use Prim.Native.Nat.{ℕ, ◌<◌}
use Rattle.rules.specs.declared.Position.{Position}
use Rattle.rules.specs.Bits.{table}
use Rattle.rules.specs.Fields.{with_deal}
use Rattle.rules.specs.Places.{card_at, place_buried}
use Rattle.rules.proofs.PileField.{table_ext}
use Rattle.rules.specs.Hidden.{buried_at}

-- what a player may know of a position: the deal with the cards at buried places wiped, and all the rest
unfoldable pub veil : Position → Position
veil p = with_deal p (table 52 (λ k. cond (place_buried p k) 255 (card_at p k)))

-- the position without its deal
unfoldable pub bare : Position → Position
bare p = with_deal p []

pub veil_bare : (p q : Position) → veil p ≡ veil q → bare p ≡ bare q
unfolding veil bare
veil_bare p q e = ap bare e

-- two choices between the same things
pub cond_same : {A B : Type 0} (f : A → B) (a b : Bool) (x y u v : A) → a ≡ b → (a ≡ true → f x ≡ f u) → (a ≡ false → f y ≡ f v) → f (cond a x y) ≡ f (cond b u v)
cond_same f true true x y u v e h k = h refl
cond_same f true false x y u v e h k = absurd (true≢false e)
cond_same f false true x y u v e h k = absurd (true≢false (sym e))
cond_same f false false x y u v e h k = k refl

-- whether a place is buried is a matter of the counts
pub buried_counts : (p q : Position) → p.counts ≡ q.counts → (k : ℕ) → place_buried p k ≡ place_buried q k
buried_counts p q e k = λ i. buried_at (e i) k

-- the deals of p and q agree at each place that is not buried in r
abbrev pub Agree : Position → Position → Position → Type 0
Agree r p q = (k : ℕ) → k < 52 → place_buried r k ≡ false → card_at p k ≡ card_at q k

pub veil_made : (p q : Position) → bare p ≡ bare q → Agree p p q → veil p ≡ veil q
unfolding veil bare
veil_made p q e h =
    λ i. with_deal (e i) (table_ext 52 (λ k. cond (place_buried p k) 255 (card_at p k)) (λ k. cond (place_buried q k) 255 (card_at q k)) one i)
  where
    one : (k : ℕ) → k < 52 → cond (place_buried p k) 255 (card_at p k) ≡ cond (place_buried q k) 255 (card_at q k)
    one k l =
        cond_same (λ (x : ℕ). x) (place_buried p k) (place_buried q k) 255 (card_at p k) 255 (card_at q k) (buried_counts p q (λ i. (e i).counts) k) (λ t. refl) (h k l)
