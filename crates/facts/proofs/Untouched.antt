-- What a test of a card reads: positions that agree in those fields pass it alike. Assumes nothing.
use mathlib.Core.Path.{◌≡◌}
use Prim.Native.Nat.{ℕ}
use lib.ListN.{get_or}
use Rattle.rules.specs.declared.Position.{Position}
use Rattle.rules.specs.Bits.{bit}
use Rattle.rules.specs.Fields.{with_deal, with_counts, with_slots}
use Rattle.rules.specs.Foundations.{stacked_on}
use Rattle.rules.specs.Hidden.{head_in, buried_in}
use Rattle.rules.specs.Places.{count, height, is_head, is_buried, is_visible, in_deck, on_foundation}
use Rattle.rules.specs.Proper.{deal_right, deck_right}
use Rattle.rules.proofs.Facts.{head_count}

module _ (p q : Position) where
  pub head_same : q.deal ≡ p.deal → q.counts ≡ p.counts → (x : ℕ) → is_head q x ≡ is_head p x
  head_same d n x = λ i. head_in (d i) (n i) x

  pub buried_same : q.deal ≡ p.deal → q.counts ≡ p.counts → (x : ℕ) → is_buried q x ≡ is_buried p x
  buried_same d n x = λ i. buried_in (d i) (n i) x

  pub heads_same : q.counts ≡ p.counts → head_count q ≡ head_count p
  unfolding head_count
  heads_same n = λ i. head_count (with_counts p (n i))

  pub found_same : q.heights ≡ p.heights → (x : ℕ) → on_foundation q x ≡ on_foundation p x
  found_same h x = λ i. stacked_on (h i) x

  pub deck_same : q.deck ≡ p.deck → q.left ≡ p.left → (x : ℕ) → in_deck q x ≡ in_deck p x
  unfolding in_deck
  deck_same d l x = λ i. in_deck (with_slots p (d i) (l i)) x

  pub seen_same : q.visible ≡ p.visible → (x : ℕ) → is_visible q x ≡ is_visible p x
  unfolding is_visible
  seen_same v x = λ i. bit (v i) x

  pub order_same : q.deal ≡ p.deal → q.deck ≡ p.deck → q.left ≡ p.left → deck_right q ≡ deck_right p
  unfolding deck_right
  order_same d k l = λ i. deck_right (with_slots (with_deal p (d i)) (k i) (l i))

  pub deal_same : q.deal ≡ p.deal → deal_right q ≡ deal_right p
  unfolding deal_right
  deal_same d = λ i. deal_right (with_deal p (d i))

  pub count_same : q.counts ≡ p.counts → (j : ℕ) → count q j ≡ count p j
  count_same n j = λ i. get_or (n i) j 0

  pub height_same : q.heights ≡ p.heights → (j : ℕ) → height q j ≡ height p j
  height_same h j = λ i. get_or (h i) j 0
