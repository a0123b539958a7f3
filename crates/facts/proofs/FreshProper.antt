-- A fresh position is proper, and its arrays have their lengths. Assumes nothing.
use mathlib.Core.Bool.{Bool, true, false, not, ◌&&◌}
use mathlib.Core.Logic.{◌⊎◌, inl, inr}
use mathlib.Core.List.{List}
use mathlib.Core.Path.{◌≡◌, refl, sym, ap, ap₂, ◌∙◌, subst}
use Prim.Native.Nat.{ℕ, ◌+◌, ◌*◌, ◌≤◌, ◌<◌, zero-le}
use native.Mathlib.Omega.{arith}
use lib.Dec.{eqb, ltb}
use lib.ListN.{length, get_or, take, drop, length-take, length-drop}
use lib.Seq.{get_or-take, get_or-drop}
use borrow.Author.Tests.{eqb-true, eqb-false, eq-eqb, ne_eqb, lt-ltb, le-ltb}
use Rattle.rules.specs.declared.Position.{Position}
use Rattle.rules.specs.Bits.{num, any_of, count_of}
use Rattle.rules.specs.Cards.{rank, suit}
use Rattle.rules.specs.Places.{pile_card, stock_card, deck_card, count, height, is_head, is_buried, is_visible, in_deck, on_foundation, free_in}
use Rattle.rules.specs.Proper.{are_cards, are_different, deal_right, in_order, deck_right, proper, Shaped}
use Rattle.rules.specs.Play.{slots}
use Rattle.rules.specs.Code.{table, fresh_parts, fresh}
use Rattle.rules.specs.Answers.{deal_refusal, deal_answer}
use Rattle.bits.proofs.Searches.{and_both, any_yes, yes_any, is_false}
use Rattle.rules.proofs.SameList.{get_d_table}
use Rattle.bits.proofs.Laws.{bit_mask, mask_lt}
use Rattle.rules.proofs.Placed.{InPile, InStock, pile_card_low, located, not_stock, head_at_lem, buried_at_lem, stock_head, stock_buried}
use Rattle.rules.proofs.Facts.{sets, head_count, is_proper_lem}
use Rattle.facts.proofs.Foundation.{suit_low}
use Rattle.facts.proofs.InOrder.{order_self}
use Rattle.facts.proofs.Deck.{slots_front, slots_length}
use Rattle.facts.proofs.PairCount.{in_pair}
use Rattle.facts.proofs.PairRule.{seen_no_head, free_pair, Once}
use Rattle.facts.proofs.Turned.{Fits}
use Rattle.bits.proofs.Tables.{true-T}
use Rattle.rules.specs.Demands.{FreshProper}
use Rattle.facts.proofs.Refusing.{begun}
use Rattle.rules.proofs.Refusing.{Dealt, deal_passed}
use Rattle.rules.specs.Hidden.{head_in}
use Rattle.rules.specs.Foundations.{stacked_on}

module _ (d : List ℕ) (step : ℕ) (ok : deal_refusal d step ≡ 0) where
  right : Dealt d step
  right = deal_passed d step ok

  abbrev p : Position
  p = fresh d step

  stock : List ℕ
  stock = take 24 (drop 28 d)

  stock_long : length stock ≡ 24
  unfolding stock
  stock_long = length-take 24 (drop 28 d) ∙ omega (arith, length-drop 28 d, right.long)

  pub fresh_shape : Shaped p
  unfolding fresh fresh_parts table
  fresh_shape = record { deal = right.long; counts = refl; heights = refl; deck = slots_length (take 24 (drop 28 d)) }

  whole : (i : ℕ) → i < 7 → count p i ≡ i + 1
  unfolding fresh fresh_parts
  whole i l = get_d_table 7 (λ j. j + 1) i l

  fits : Fits p
  fits i l = omega (arith, whole i l)

  none_up : (s : ℕ) → s < 4 → height p s ≡ 0
  unfolding fresh fresh_parts
  none_up s l = get_d_table 4 (λ j. 0) s l

  deal : deal_right p ≡ true
  unfolding deal_right fresh fresh_parts
  deal = and_both (are_cards d) (are_different d) right.cards right.different

  -- each card: visible where it is a head
  seen : (x : ℕ) → x < 52 → is_visible p x ≡ is_head p x
  unfolding is_visible head_in fresh fresh_parts
  seen x l = bit_mask 52 (is_head (fresh_parts d step)) x l

  found : (x : ℕ) → x < 52 → on_foundation p x ≡ false
  unfolding stacked_on
  found x l = le-ltb (rank x) (height p (suit x)) (omega (arith, none_up (suit x) (suit_low x l)))

  -- the deck holds the 24
  deck_at : (k : ℕ) → k < 24 → deck_card p k ≡ stock_card p k
  unfolding fresh fresh_parts stock
  deck_at k l =
      sym (get_or-take 24 (slots (take 24 (drop 28 d))) k 0 l) ∙ ap (λ (xs : List ℕ). get_or xs k 0) (slots_front (take 24 (drop 28 d)) 24 stock_long (omega arith))
      ∙ get_or-take 24 (drop 28 d) k 0 l ∙ get_or-drop 28 d k 0

  deck_has : (m : ℕ) → m < 24 → in_deck p (stock_card p m) ≡ true
  unfolding in_deck fresh fresh_parts
  deck_has m l = yes_any 24 (λ k. eqb (deck_card p k) (stock_card p m)) m l (eq-eqb (deck_card p m) (stock_card p m) (deck_at m l))

  deck_lacks : (i k : ℕ) → i < 7 → k ≤ i → in_deck p (pile_card p i k) ≡ false
  unfolding in_deck fresh fresh_parts
  deck_lacks i k hi hk = is_false (any_of 24 (λ j. eqb (deck_card p j) (pile_card p i k))) clash
    where
      clash : any_of 24 (λ j. eqb (deck_card p j) (pile_card p i k)) ≡ true → ⊥
      clash h =
          let u = any_yes 24 (λ j. eqb (deck_card p j) (pile_card p i k)) h in
          not_stock p deal i k u.0 hi hk u.1 (sym (eqb-true (deck_card p u.0) (pile_card p i k) u.2) ∙ deck_at u.0 u.1)

  once : Once p
  unfolding sets
  once x l = by (located p deal x l)
    where
      S : ℕ → Type 0
      S y = num (on_foundation p y) + num (in_deck p y) + num (is_buried p y) + num (is_visible p y) ≡ 1

      last : (i k : ℕ) → k ≤ i → num (ltb (k + 1) (i + 1)) + num (eqb (i + 1) (k + 1)) ≡ 1
      last i k h = go (eqb i k) refl
        where
          go : (b : Bool) → eqb i k ≡ b → num (ltb (k + 1) (i + 1)) + num (eqb (i + 1) (k + 1)) ≡ 1
          go true y = let e : i ≡ k = eqb-true i k y in rw (le-ltb (k + 1) (i + 1) (omega arith), eq-eqb (i + 1) (k + 1) (omega arith))
          go false y = let e : i ≡ k → ⊥ = eqb-false i k y in rw (lt-ltb (k + 1) (i + 1) (omega arith), ne_eqb (i + 1) (k + 1) (λ w. e (omega arith)))

      by : InPile p x ⊎ InStock p x → S x
      by (inl u) =
          let i : ℕ = u.pile in
          let k : ℕ = u.depth in
          let y : ℕ = pile_card p i k in
          let ly : y < 52 = pile_card_low p deal i k u.is_pile u.inside in
          let b : num (is_buried p y) ≡ num (ltb (k + 1) (i + 1)) = ap num (buried_at_lem p deal fits i k u.is_pile u.inside ∙ ap (ltb (k + 1)) (whole i u.is_pile)) in
          let v : num (is_visible p y) ≡ num (eqb (i + 1) (k + 1)) = ap num (seen y ly ∙ head_at_lem p deal fits i k u.is_pile u.inside ∙ ap (λ (n : ℕ). eqb n (k + 1)) (whole i u.is_pile)) in
          subst S u.there (omega (arith, ap num (found y ly), ap num (deck_lacks i k u.is_pile u.inside), last i k u.inside))
      by (inr u) =
          let y : ℕ = stock_card p u.place in
          let ly : y < 52 = subst (λ (z : ℕ). z < 52) (sym u.there) l in
          subst S u.there (omega (arith, ap num (found y ly), ap num (deck_has u.place u.inside), ap num (stock_buried p deal fits u.place u.inside), ap num (seen y ly ∙ stock_head p deal fits u.place u.inside)))

  none_free : (k : ℕ) → k < 26 → free_in p k ≡ 0
  unfolding in_pair seen_no_head
  none_free k l = free_pair p once k l ∙ ap₂ (λ (a b : Bool). num a + num b) (at (2 * k) (omega arith)) (at (2 * k + 1) (omega arith))
    where
      both : (b : Bool) → (b && not b) ≡ false
      both true = refl
      both false = refl

      at : (x : ℕ) → x < 52 → (is_visible p x && not (is_head p x)) ≡ false
      at x h = ap (λ (b : Bool). b && not (is_head p x)) (seen x h) ∙ both (is_head p x)

  seven_heads : head_count p ≡ 7
  unfolding head_count count_of fresh fresh_parts table
  seven_heads = refl

  is_right : proper p ≡ true
  unfolding deck_right fresh fresh_parts stock
  is_right =
      is_proper_lem p deal
      (record { step = right.fair; counts = fits; heights = λ s l. omega (arith, none_up s l); left = omega arith; offset = zero-le; visible = mask_lt 52 (is_head (fresh_parts d step)) })
      (ap (λ (xs : List ℕ). in_order xs stock) (slots_front stock 24 stock_long (omega arith)) ∙ order_self stock)
      once (λ x l h. seen x l ∙ h) (λ k l. omega (arith, none_free k (omega arith))) (omega (arith, seven_heads, none_free 24 (omega arith), none_free 25 (omega arith)))

-- a deal that is not refused gives a proper position
pub fresh_proper : FreshProper
unfolding deal_answer
fresh_proper d step h =
    let b = begun (deal_refusal d step) (fresh d step) h in
    rw b.1 (fresh_shape d step b.0, true-T _ (is_right d step b.0))
