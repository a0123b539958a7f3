-- Masks that a loop collects: by the byte, by a card of each pile, by the first cards of each pile. And the places that the loops read.
-- Assumes nothing.
use mathlib.Core.Bool.{Bool, true, false, ◌&&◌, ◌||◌}
use mathlib.Core.Path.{◌≡◌, refl, sym, ap, ap₂, ◌∙◌}
use mathlib.Core.List.{List}
use Prim.Native.Nat.{ℕ, ◌+◌, ◌*◌, ◌%◌, ◌^◌, ◌≤◌, ◌<◌}
use native.Mathlib.Omega.{arith}
use lib.Dec.{eqb, lit≤}
use lib.ListN.{get_or}
use lib.Bits.{bit_or}
use mir.Val.{bool_byte}
use borrow.Author.Tests.{ne_eqb}
use Rattle.bits.specs.Bit.{mask_of}
use Rattle.bits.proofs.Laws.{mask_is, mask_ext, mod_64}
use Rattle.bits.proofs.Algebra.{or_masks, mask_cut}
use Rattle.card.proofs.Gathering.{bit_shifted}
use Rattle.rules.specs.Bits.{any_of}
use Rattle.rules.specs.Places.{pile_start}
use Rattle.rules.specs.Hidden.{CardsFit, placed, cards_from}
use Rattle.bits.proofs.Searches.{any_ext}
use Rattle.bits.proofs.Steps.{any_more}
use Rattle.rules.proofs.ProperMade.{none_any}
use Rattle.rules.proofs.PilePlaces.{pile_low, pile_place}

-- a mask whose cards are below 52
pub low_mask : (f : ℕ → Bool) → ((c : ℕ) → 52 ≤ c → f c ≡ false) → mask_of 64 f ≡ mask_of 52 f
low_mask f h = sym (mask_cut 52 64 f (lit≤ tt) (λ k l m. h k l))

high_card : (x c : ℕ) → x < 52 → 52 ≤ c → eqb x c ≡ false
high_card x c h l = ne_eqb x c (λ e. omega arith)

-- ---- the bytes at some places

-- bytes that are cards
small_byte : (x c : ℕ) → x < 52 → eqb (x % 64) c ≡ eqb x c
small_byte x c h = let e : x % 64 ≡ x = omega arith in ap (λ (y : ℕ). eqb y c) e

pub cards_are : (d : List ℕ) (s n : ℕ) → ((k : ℕ) → k < n → get_or d (s + k) 0 < 52) → cards_from d s n ≡ mask_of 52 (λ c. any_of n (λ k. eqb (get_or d (s + k) 0) c))
unfolding cards_from
cards_are d s n low =
    mask_ext 64 _ (λ c. any_of n (λ k. eqb (get_or d (s + k) 0) c)) (λ c l. any_ext n (λ k. eqb (get_or d (s + k) 0 % 64) c) _ (λ k m. small_byte _ c (low k m)))
    ∙ low_mask (λ c. any_of n (λ k. eqb (get_or d (s + k) 0) c)) (λ c l. none_any n _ (λ k m. high_card _ c (low k m) l))

-- ---- of the first i piles, the card x of each that passes the test b

abbrev pub picked : (ℕ → Bool) → (ℕ → ℕ) → ℕ → ℕ
picked b x i = mask_of 52 (λ c. any_of i (λ j. b j && eqb (x j) c))

none : 0 ≡ mask_of 52 (λ k. false)
unfolding mask_of
none = refl

card_if : (b : Bool) (c : ℕ) → c < 52 → bool_byte b * 2 ^ c % 2 ^ 64 ≡ mask_of 52 (λ k. b && eqb c k)
card_if true c l = mask_is 64 (eqb c) _ (mod_64 (1 * 2 ^ c)) (bit_shifted c) ∙ low_mask (eqb c) (λ k h. high_card c k l h)
card_if false c l = let z : 0 * 2 ^ c ≡ 0 = omega arith in ap (λ (x : ℕ). x % 2 ^ 64) z ∙ none

pub picked_step : (b : ℕ → Bool) (x : ℕ → ℕ) (i y : ℕ) → y < 52 → (b i ≡ true → y ≡ x i) → bit_or (picked b x i) (bool_byte (b i) * 2 ^ y % 2 ^ 64) ≡ picked b x (i + 1)
picked_step b x i y l e =
    ap (bit_or (picked b x i)) (card_if (b i) y l) ∙ or_masks 52 _ _
    ∙ mask_ext 52 _ _ (λ c m. ap (λ (t : Bool). any_of i (λ j. b j && eqb (x j) c) || t) (same (b i) c e) ∙ sym (any_more i (λ j. b j && eqb (x j) c)))
  where
    same : (t : Bool) (c : ℕ) → (t ≡ true → y ≡ x i) → (t && eqb y c) ≡ (t && eqb (x i) c)
    same true c h = ap (λ (z : ℕ). eqb z c) (h refl)
    same false c h = refl

-- ---- of the first i piles, the first m cards of each

abbrev pub fronts : List ℕ → (ℕ → ℕ) → ℕ → ℕ
fronts d m i = mask_of 52 (λ c. any_of i (λ j. any_of (m j) (λ k. eqb (placed d j k) c)))

pub fronts_step : (d : List ℕ) (m : ℕ → ℕ) (i s y r : ℕ) → CardsFit d → i < 7 → m i ≤ i + 1 → s ≡ pile_start i → y ≡ m i → r ≡ cards_from d s y → bit_or (fronts d m i) r ≡ fronts d m (i + 1)
fronts_step d m i s y r low l h es ey er =
    ap (bit_or (fronts d m i)) (er ∙ ap₂ (cards_from d) es ey ∙ cards_are d (pile_start i) (m i) (λ k q. low _ (pile_place i k l (omega arith)))) ∙ or_masks 52 _ _
    ∙ mask_ext 52 _ _ (λ c q. sym (any_more i (λ j. any_of (m j) (λ k. eqb (placed d j k) c))))

-- ---- the places that the loops read

-- the place past a pile's first x cards, x not above its size; where s is the pile's start
pub past_place : (i x s : ℕ) → i < 7 → x ≤ i + 1 → s ≡ pile_start i → s + x < 52
past_place i x s l m e = omega (arith, pile_low i i l (omega arith))

-- so their places are places of the deal
pub in_deal : (i x s : ℕ) → i < 7 → x ≤ i + 1 → s ≡ pile_start i → s + x ≤ 52
in_deal i x s l m e = omega (arith, past_place i x s l m e)
