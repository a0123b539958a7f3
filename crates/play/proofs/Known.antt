-- What a proper position, and a legal move there, give to the calls.
-- Assumes nothing.
use mathlib.Core.Bool.{Bool, true, false, ◌&&◌, ◌||◌}
use mathlib.Core.Path.{◌≡◌, refl, sym, ap, ◌∙◌, subst}
use mathlib.Core.List.{List}
use Prim.Native.Nat.{ℕ, ◌+◌, ◌≤◌, ◌<◌}
use native.Mathlib.Omega.{arith}
use lib.Dec.{T, eqb}
use lib.ListN.{length, get_or}
use borrow.Author.Tests.{ltb-true, ne_eqb}
use Rattle.bits.proofs.Tables.{T_true, true-T}
use Rattle.rules.specs.declared.Position.{Position}
use Rattle.rules.specs.Cards.{suit}
use Rattle.rules.specs.Bits.{first_of}
use Rattle.rules.specs.Places.{pile_start, deck_card, is_head, in_deck, pile_of}
use Rattle.rules.specs.Play.{deck_place}
use Rattle.rules.specs.Hidden.{CountsFit, head_pile, bare_pile}
use Rattle.rules.specs.Proper.{proper}
use Rattle.rules.specs.Dealing.{available}
use Rattle.rules.specs.Legal.{legal, deck_stack_legal, deck_pile_legal, reveal_legal, is_next, has_room}
use Rattle.bits.proofs.Searches.{and_left}
use Rattle.hidden_masks.proofs.Collected.{past_place}
use Rattle.rules.proofs.Suits.{suit_low}
use Rattle.rules.proofs.Facts.{facts}
use Rattle.rules.proofs.HiddenLaw.{head_pile_is, head_pile_none, bare_pile_found}
use Rattle.facts.proofs.Deck.{available_in, place_low}
use Rattle.facts.proofs.DealKept.{head_pile_lem}
use Rattle.play.specs.Made.{left_pile, has_way}

-- the place after a pile's locked cards is a place of the deal
pub pile_fits : (n : List ℕ) (i s : ℕ) → CountsFit n → i < 7 → s ≡ pile_start i → s + get_or n i 0 < 52
pile_fits n i s f l e = past_place i (get_or n i 0) s l (f i l) e

module _ (p : Position) (t : T (proper p)) where
  pub counts_fit : CountsFit p.counts
  counts_fit = (facts p t).counts

  pub deck_few : p.left ≤ 24
  deck_few = (facts p t).left

  pub offset_fits : p.offset ≤ p.left
  offset_fits = (facts p t).offset

  -- the foundation of c's suit
  pub low_height : (c : ℕ) → get_or p.heights (suit c) 0 < 255
  low_height c = omega (arith, (facts p t).heights (suit c) (suit_low c))

  -- ---- a head's pile

  pub head_some : (c : ℕ) → is_head p c ≡ true → head_pile p.deal p.counts c < 7
  head_some c h = subst (λ (i : ℕ). i < 7) (sym (head_pile_is p (facts p t) c h)) (head_pile_lem p (facts p t).counts c h)

  pub no_head : (c : ℕ) → 7 ≤ head_pile p.deal p.counts c → is_head p c ≡ false
  no_head c l = go (is_head p c) refl
    where
      go : (b : Bool) → is_head p c ≡ b → b ≡ false
      go true e = absurd (omega (arith, head_some c e))
      go false e = refl

  pub head_at : (c : ℕ) → head_pile p.deal p.counts c < 7 → (head_pile p.deal p.counts c ≡ pile_of p c) × (is_head p c ≡ true)
  head_at c l = go (is_head p c) refl
    where
      go : (b : Bool) → is_head p c ≡ b → (head_pile p.deal p.counts c ≡ pile_of p c) × (b ≡ true)
      go true e = (head_pile_is p (facts p t) c e, refl)
      go false e = absurd (omega (arith, head_pile_none p c e))

  -- ---- a pile that a head left

  pub bare_at : (c : ℕ) → bare_pile p.deal p.counts c < 7 → bare_pile p.deal p.counts c ≡ pile_of p c
  bare_at c l = bare_pile_found p (facts p t) c l

-- ---- a legal move

-- a card of the deck has its place there
pub drawn_low : (p : Position) (c : ℕ) → length p.deck ≡ 24 → p.left ≤ 24 → T (in_deck p c) → first_of p.left (λ k. eqb (deck_card p k) c) < p.left
unfolding deck_place
drawn_low p c long few there = place_low p c long few (T_true _ there)

module _ (p : Position) (c : ℕ) where
  pub deck_stack_in : T (legal p 0 c) → T (in_deck p c)
  unfolding legal deck_stack_legal
  deck_stack_in l = true-T _ (available_in p c (and_left (available p c) (is_next p c) (T_true _ l)))

  pub deck_pile_in : T (legal p 2 c) → T (in_deck p c)
  unfolding legal deck_pile_legal
  deck_pile_in l = true-T _ (available_in p c (and_left (available p c) (has_room p c) (T_true _ l)))

  pub reveal_head : T (legal p 4 c) → is_head p c ≡ true
  unfolding legal reveal_legal
  reveal_head l = and_left (is_head p c) (has_room p c) (and_left (is_head p c && has_room p c) _ (T_true _ l))

-- ---- a way back

module _ (p : Position) (byte c : ℕ) where
  pub deck_stack_way : T (has_way p byte 0 c) → p.left < 24
  unfolding has_way
  deck_stack_way h = ltb-true p.left 24 (T_true _ h)

  pub deck_pile_way : T (has_way p byte 2 c) → p.left < 24
  unfolding has_way
  deck_pile_way h = ltb-true p.left 24 (T_true _ h)

  bare_low : left_pile p c ≡ true → bare_pile p.deal p.counts c < 7
  unfolding left_pile
  bare_low h = ltb-true (bare_pile p.deal p.counts c) 7 h

  pub pile_stack_way : T (has_way p byte 1 c) → (byte ≡ 0 → ⊥) → bare_pile p.deal p.counts c < 7
  unfolding has_way
  pile_stack_way h n = bare_low (sym (ap (λ (b : Bool). b || left_pile p c) (ne_eqb byte 0 n)) ∙ T_true _ h)

  pub reveal_way : T (has_way p byte 4 c) → bare_pile p.deal p.counts c < 7
  unfolding has_way
  reveal_way h = bare_low (T_true _ h)
