-- The tests of a deal by its mask, refusals 3 and 4.
-- Assumes nothing.
use mathlib.Core.Bool.{Bool, true, false, ◌&&◌, true≢false}
use mathlib.Core.Path.{◌≡◌, refl, sym, ap, ◌∙◌}
use mathlib.Core.List.{List}
use Prim.Native.Nat.{ℕ, ◌+◌, ◌-◌, ◌%◌, ◌^◌, ◌≤◌, ◌<◌}
use native.Mathlib.Nat.{zero-add}
use native.Mathlib.Omega.{arith}
use lib.Dec.{eqb, ltb}
use lib.ListN.{get_or}
use borrow.Author.Tests.{eq-eqb, ltb-true, ltb-false}
use Rattle.bits.proofs.Laws.{bit_mask, mask_lt, bit_high}
use Rattle.rules.specs.Bits.{any_of, all_of}
use Rattle.rules.specs.Proper.{are_cards, are_different}
use Rattle.bits.proofs.Searches.{all_yes, yes_all, yes_any, is_false}
use Rattle.rules.specs.Hidden.{cards_from}
use Rattle.proper.proofs.DealRight.{deal_is, small_of}
use Rattle.rules.proofs.DealLaw.{cards_low}
use Rattle.proper.proofs.Sets.{cards_are}

abbrev pub Small : List ℕ → Bool
Small d = all_of 52 (λ k. ltb (get_or d k 0) 64)

module _ (d : List ℕ) where
  -- 52 cards fill no bit above the 52
  pub cards_fill : are_cards d ≡ true → cards_from d 0 52 < 2 ^ 52
  cards_fill h = omega (arith, cards_are d 52 (cards_low d h), mask_lt 52 (λ c. any_of 52 (λ k. eqb (get_or d k 0) c)))

  -- and bytes below 64 that fill none are cards
  pub filled_cards : Small d ≡ true → cards_from d 0 52 < 2 ^ 52 → are_cards d ≡ true
  unfolding are_cards cards_from
  filled_cards s l = yes_all 52 (λ k. ltb (get_or d k 0) 52) (λ k h. at k h (ltb (get_or d k 0) 52) refl)
    where
      at : (k : ℕ) → k < 52 → (b : Bool) → ltb (get_or d k 0) 52 ≡ b → b ≡ true
      at k h true e = refl
      at k h false e =
          let small : get_or d k 0 < 64 = ltb-true (get_or d k 0) 64 (all_yes 52 (λ k. ltb (get_or d k 0) 64) s k h) in
          let same : get_or d (0 + k) 0 % 64 ≡ get_or d k 0 = ap (λ (j : ℕ). get_or d j 0 % 64) (zero-add k) ∙ omega arith in
          sym (bit_high 52 (cards_from d 0 52) (get_or d k 0) l (ltb-false (get_or d k 0) 52 e))
          ∙ bit_mask 64 (λ c. any_of 52 (λ j. eqb (get_or d (0 + j) 0 % 64) c)) (get_or d k 0) small
          ∙ yes_any 52 (λ j. eqb (get_or d (0 + j) 0 % 64) (get_or d k 0)) k h (eq-eqb (get_or d (0 + k) 0 % 64) (get_or d k 0) same)

  pub not_small : Small d ≡ false → are_cards d ≡ false
  not_small h = is_false (are_cards d) (λ t. true≢false (sym (small_of d t) ∙ h))

  pub not_filled : 2 ^ 52 ≤ cards_from d 0 52 → are_cards d ≡ false
  not_filled h = is_false (are_cards d) (λ t. omega (arith, cards_fill t))

  -- among cards, the full mask means that all are different
  pub different_is : Small d ≡ true → are_cards d ≡ true → eqb (cards_from d 0 52) (2 ^ 52 - 1) ≡ are_different d
  different_is s h = deal_is d s ∙ ap (λ (b : Bool). b && are_different d) h
