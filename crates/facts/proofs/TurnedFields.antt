-- The fields of a position whose pile i lost its head: `turned`. Assumes nothing.
use mathlib.Core.Bool.{Bool, true, false, ◌&&◌, ◌||◌, cond, or-false}
use mathlib.Core.List.{List}
use mathlib.Core.Path.{◌≡◌, refl, sym, ap, ◌∙◌}
use Prim.Native.Nat.{ℕ, ◌+◌, ◌-◌, ◌<◌, ◌^◌}
use native.Mathlib.Omega.{arith}
use lib.Dec.{eqb, ltb}
use lib.ListN.{length, get_or, set}
use lib.Seq.{get_or-set_same, get_or-set_other}
use Rattle.rules.specs.declared.Position.{Position}
use Rattle.rules.specs.Bits.{with}
use Rattle.rules.specs.Places.{pile_card, count, is_visible, is_buried}
use Rattle.rules.specs.Proper.{deal_right}
use Rattle.rules.specs.Play.{laid, uncovered}
use Rattle.rules.specs.Fields.{with_visible, with_counts}
use Rattle.bits.proofs.Searches.{and_left, and_right}
use borrow.Author.Tests.{eqb-true, lt-ltb, ltb-true}
use Rattle.rules.proofs.Placed.{pile_card_low, buried_at_lem}
use Rattle.facts.proofs.Shows.{laid_has, laid_low}
use Rattle.facts.proofs.Turned.{Fits, Fewer, is_under}

-- q is p but for its mask and its counts, which are n
pub record Stays (p q : Position) (n : List ℕ) : Type 0 where
  pub whole : q ≡ with_visible (with_counts p n) q.visible
  pub deal : q.deal ≡ p.deal
  pub step : q.step ≡ p.step
  pub counts : q.counts ≡ n
  pub heights : q.heights ≡ p.heights
  pub deck : q.deck ≡ p.deck
  pub left : q.left ≡ p.left
  pub offset : q.offset ≡ p.offset

-- other counts, and perhaps another mask
pub recounted : (p : Position) (n : List ℕ) (v : ℕ) (b : Bool) → Stays p (cond b (with_visible (with_counts p n) v) (with_counts p n)) n
recounted p n v true = record { whole = refl; deal = refl; step = refl; counts = refl; heights = refl; deck = refl; left = refl; offset = refl }
recounted p n v false = record { whole = refl; deal = refl; step = refl; counts = refl; heights = refl; deck = refl; left = refl; offset = refl }

pub uncovered_stays : (p : Position) (i : ℕ) → Stays p (uncovered p i) (set p.counts i (count p i - 1))
unfolding uncovered laid
uncovered_stays p i =
    recounted p (set p.counts i (count p i - 1)) (with (with_counts p (set p.counts i (count p i - 1))).visible (pile_card p i (count p i - 2))) (ltb 1 (count p i))

pub uncovered_fewer : (p : Position) (i : ℕ) → i < 7 → length p.counts ≡ 7 → Fewer p (uncovered p i) i
uncovered_fewer p i l e =
    record {
      deal = (uncovered_stays p i).deal;
      here = ap (λ (n : List ℕ). get_or n i 0) (uncovered_stays p i).counts ∙ get_or-set_same p.counts i (count p i - 1) 0 (omega arith);
      there = λ j h. ap (λ (n : List ℕ). get_or n j 0) (uncovered_stays p i).counts ∙ get_or-set_other p.counts i j (count p i - 1) 0 h;
    }

-- the card under the head shows
pub uncovered_has : (p : Position) (i x : ℕ) → x < 52 → is_visible (uncovered p i) x ≡ (is_visible p x || is_under p i x)
unfolding uncovered is_under is_visible
uncovered_has p i x l = go (ltb 1 (count p i))
  where
    m : Position
    m = with_counts p (set p.counts i (count p i - 1))

    go : (b : Bool) → is_visible (cond b (laid m (pile_card p i (count p i - 2))) m) x ≡ (is_visible p x || (b && eqb x (pile_card p i (count p i - 2))))
    go true = laid_has m (pile_card p i (count p i - 2)) x l
    go false = sym (or-false (is_visible p x))

pub uncovered_low : (p : Position) (i : ℕ) → deal_right p ≡ true → Fits p → i < 7 → p.visible < 2 ^ 52 → (uncovered p i).visible < 2 ^ 52
unfolding uncovered
uncovered_low p i d n l v = go (ltb 1 (count p i))
  where
    m : Position
    m = with_counts p (set p.counts i (count p i - 1))

    go : (b : Bool) → (cond b (laid m (pile_card p i (count p i - 2))) m).visible < 2 ^ 52
    go true = laid_low m (pile_card p i (count p i - 2)) v (pile_card_low p d i (count p i - 2) l (omega (arith, n i l)))
    go false = v

-- the card under the head was buried
pub under_buried : (p : Position) (i : ℕ) → deal_right p ≡ true → Fits p → i < 7 → (x : ℕ) → is_under p i x ≡ true → is_buried p x ≡ true
unfolding is_under
under_buried p i d n l x h =
    let two : 1 < count p i = ltb-true 1 (count p i) (and_left (ltb 1 (count p i)) (eqb x (pile_card p i (count p i - 2))) h) in
    ap (is_buried p) (eqb-true x (pile_card p i (count p i - 2)) (and_right (ltb 1 (count p i)) (eqb x (pile_card p i (count p i - 2))) h))
    ∙ buried_at_lem p d n i (count p i - 2) l (omega (arith, n i l))
    ∙ lt-ltb (count p i - 2 + 1) (count p i) (omega arith)
