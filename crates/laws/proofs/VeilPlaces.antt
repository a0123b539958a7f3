-- Two positions with one veil: the counts, the heads, the visible and the free cards, the deck. A part of demand 3.
-- Assumes nothing.
use mathlib.Core.Bool.{Bool, true, false, not, ◌&&◌, cond}
use mathlib.Core.Path.{◌≡◌, sym, ap, ap₂, ◌∙◌}
use Prim.Native.Nat.{ℕ, ◌+◌, ◌-◌, ◌*◌, ◌≤◌, ◌<◌}
use native.Mathlib.Omega.{arith}
use lib.Dec.{eqb}
use lib.ListN.{get_or}
use Rattle.rules.specs.declared.Position.{Position}
use Rattle.rules.specs.Cards.{card_of, flipped}
use Rattle.rules.specs.Places.{pile_start, card_at, stock_card, in_deck, count, has_head, head, is_head, is_visible, is_free, place_buried, visible_in, free_in, heads_and_kings}
use Rattle.facts.proofs.Veil.{veil}
use Rattle.rules.specs.Dealing.{available, place_available}
use Rattle.rules.specs.Legal.{is_next, is_top}
use Rattle.bits.proofs.Searches.{any_ext, count_ext, and_under}
use Rattle.rules.proofs.SameList.{get_d_table}
use Rattle.rules.proofs.ProperLaw.{Fits, Sound, count_fits, free_is}
use Rattle.rules.proofs.PilePlaces.{pile_place, head_place, stock_place_lem}
use Rattle.rules.specs.Hidden.{buried_at, head_in}

-- what reads no card of the deal, or one at a place that is not buried, is the same by the veil alone
module _ (p q : Position) (e : veil p ≡ veil q) where
  -- what reads no card of the deal is the same by the veil alone
  pub count_same : (i : ℕ) → count p i ≡ count q i
  unfolding veil
  count_same i = ap (λ (v : Position). count v i) e

  pub has_head_same : (i : ℕ) → has_head p i ≡ has_head q i
  unfolding veil
  has_head_same i = ap (λ (v : Position). has_head v i) e

  pub visible_same : (c : ℕ) → is_visible p c ≡ is_visible q c
  unfolding veil is_visible
  visible_same c = ap (λ (v : Position). is_visible v c) e

  pub next_same : (c : ℕ) → is_next p c ≡ is_next q c
  unfolding veil is_next
  next_same c = ap (λ (v : Position). is_next v c) e

  pub top_same : (c : ℕ) → is_top p c ≡ is_top q c
  unfolding veil is_top
  top_same c = ap (λ (v : Position). is_top v c) e

  pub available_same : (c : ℕ) → available p c ≡ available q c
  unfolding veil available place_available
  available_same c = ap (λ (v : Position). available v c) e

  pub place_same : (k : ℕ) → place_buried p k ≡ place_buried q k
  unfolding veil buried_at
  place_same k = ap (λ (v : Position). place_buried v k) e

  -- the card at a place that is not buried
  pub card_same : (k : ℕ) → k < 52 → place_buried p k ≡ false → card_at p k ≡ card_at q k
  unfolding veil
  card_same k l b =
      ap (λ (x : Bool). cond x 255 (card_at p k)) (sym b)
      ∙ sym (get_d_table 52 (λ j. cond (place_buried p j) 255 (card_at p j)) k l)
      ∙ ap (λ (v : Position). get_or v.deal k 0) e
      ∙ get_d_table 52 (λ j. cond (place_buried q j) 255 (card_at q j)) k l
      ∙ ap (λ (x : Bool). cond x 255 (card_at q k)) (sym (place_same k) ∙ b)

  pub in_deck_same : (c : ℕ) → in_deck p c ≡ in_deck q c
  unfolding veil in_deck
  in_deck_same c = ap (λ (v : Position). in_deck v c) e

-- the heads and the deck's cards, where no pile is locked beyond its cards
module _ (p q : Position) (e : veil p ≡ veil q) (fp : Fits p) where
  pub head_same : (i : ℕ) → i < 7 → has_head p i ≡ true → head p i ≡ head q i
  head_same i l t =
      let f : count p i ≤ i + 1 = fp i l in
      (card_same p q e) (pile_start i + (count p i - 1)) (pile_place i (count p i - 1) l (omega arith)) (head_place p fp i l t)
      ∙ ap (λ (n : ℕ). card_at q (pile_start i + (n - 1))) ((count_same p q e) i)

  pub is_head_same : (c : ℕ) → is_head p c ≡ is_head q c
  unfolding head_in
  is_head_same c =
      any_ext 7 (λ i. has_head p i && eqb (head p i) c) (λ i. has_head q i && eqb (head q i) c)
      (λ i l. and_under (has_head p i) (eqb (head p i) c) (eqb (head q i) c) (λ t. ap (λ (x : ℕ). eqb x c) (head_same i l t)) ∙ ap (λ (b : Bool). b && eqb (head q i) c) ((has_head_same p q e) i))

  pub stock_same : (k : ℕ) → k < 24 → stock_card p k ≡ stock_card q k
  stock_same k l = (card_same p q e) (28 + k) (omega arith) (stock_place_lem p fp k)

-- what rests on a right deal, right numbers and each card in one place
module _ (p q : Position) (e : veil p ≡ veil q) (pp : Sound p) (qq : Sound q) where
  fp : Fits p
  fp = count_fits p pp.numbers

  pub free_same : (c : ℕ) → c < 52 → is_free p c ≡ is_free q c
  free_same c l =
      free_is p pp.once c l ∙ ap₂ (λ (a b : Bool). a && not b) ((visible_same p q e) c) (is_head_same p q e fp c) ∙ sym (free_is q qq.once c l)

  pub visible_in_same : (k : ℕ) → visible_in p k ≡ visible_in q k
  unfolding visible_in
  visible_in_same k = count_ext 2 (λ j. is_visible p (2 * k + j)) (λ j. is_visible q (2 * k + j)) (λ j l. (visible_same p q e) (2 * k + j))

  pub free_in_same : (k : ℕ) → k < 26 → free_in p k ≡ free_in q k
  unfolding free_in
  free_in_same k h = count_ext 2 (λ j. is_free p (2 * k + j)) (λ j. is_free q (2 * k + j)) (λ j l. free_same (2 * k + j) (omega arith))

  pub kings_same : heads_and_kings p ≡ heads_and_kings q
  unfolding heads_and_kings card_of flipped
  kings_same =
      ap₂ ◌+◌ (count_ext 7 (has_head p) (has_head q) (λ i l. (has_head_same p q e) i))
      (count_ext 4 (λ s. is_free p (card_of 12 s)) (λ s. is_free q (card_of 12 s)) (λ s l. free_same (48 + s) (omega arith)))
