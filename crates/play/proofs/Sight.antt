-- A card more and a card less in the visible mask, as the code makes them.
-- Assumes nothing.
use mathlib.Core.Path.{◌≡◌, ap, ◌∙◌}
use Prim.Native.Nat.{ℕ, ◌-◌, ◌^◌, ◌<◌}
use lib.Bits.{bit_and, bit_or}
use native.Mathlib.Nat.{le_refl}
use lib.Dec.{eqb}
use Rattle.bits.specs.Bit.{bit, mask_of}
use Rattle.bits.proofs.Algebra.{mask_self, or_masks, and_not_masks}
use Rattle.rules.specs.Bits.{with, without}

module _ (m c : ℕ) (l : m < 2 ^ 64) where
  pub with_is : bit_or m (mask_of 64 (λ k. eqb k c)) ≡ with m c
  unfolding with
  with_is = ap (λ (x : ℕ). bit_or x (mask_of 64 (λ k. eqb k c))) (mask_self 64 m l) ∙ or_masks 64 (bit m) (λ k. eqb k c)

  pub without_is : bit_and m ((2 ^ 64 - 1) - mask_of 64 (λ k. eqb k c)) ≡ without m c
  unfolding without
  without_is = ap (λ (x : ℕ). bit_and x ((2 ^ 64 - 1) - mask_of 64 (λ k. eqb k c))) (mask_self 64 m l) ∙ and_not_masks 64 64 (bit m) (λ k. eqb k c) (le_refl 64) (le_refl 64)
