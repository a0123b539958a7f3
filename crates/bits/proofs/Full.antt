-- Masks that have every bit or none, and the test that one has.
-- Assumes nothing.
use Rattle.std.proofs.Common.{◌≡◌, ℕ, zero, suc, ◌-◌, ◌^◌, ◌<◌, ◌≤◌, Bool, true, false, ◌&&◌, eqb, ltb, sym, refl, ap, ◌∙◌, lt_of_not-le, arith, pow_pos, ltb-true, le-ltb, lt-ltb, eq-eqb, eqb-true}
use native.Mathlib.Decide.{dec_le}
use lib.Pow.{ones_lt}
use lib.Bits.{bit_or, or_lt, or_add_and, and_le_l, and_le_r}
use Rattle.bits.specs.Bit.{bit, mask_of, all_of}
use Rattle.bits.proofs.Laws.{bit_mask, mask_ext, bit_high}
use Rattle.bits.proofs.Searches.{all_yes, yes_all, and_both, and_left, and_right}
use Rattle.bits.proofs.Tables.{same_test}

pub ones_mask : (n : ℕ) → 2 ^ n - 1 ≡ mask_of n (λ j. true)
unfolding mask_of
ones_mask zero = refl
ones_mask (suc n) = omega (arith, ones_mask n, pow_pos n)

pub none_mask : (n : ℕ) → mask_of n (λ k. false) ≡ 0
unfolding mask_of
none_mask zero = refl
none_mask (suc n) = omega (arith, none_mask n)

-- two numbers are below 2 ^ n where their or is
pub or_ltb : (n a b : ℕ) → ltb (bit_or a b) (2 ^ n) ≡ (ltb a (2 ^ n) && ltb b (2 ^ n))
or_ltb n a b =
    same_test (ltb (bit_or a b) (2 ^ n)) (ltb a (2 ^ n) && ltb b (2 ^ n))
    (λ h. let l = ltb-true (bit_or a b) (2 ^ n) h in
    and_both _ _ (lt-ltb a (2 ^ n) (omega (arith, or_add_and a b, and_le_r a b))) (lt-ltb b (2 ^ n) (omega (arith, or_add_and a b, and_le_l a b))))
    (λ h. lt-ltb (bit_or a b) (2 ^ n) (or_lt n a b (ltb-true a (2 ^ n) (and_left _ (ltb b (2 ^ n)) h)) (ltb-true b (2 ^ n) (and_right (ltb a (2 ^ n)) _ h))))

-- the first n bits, and no others
pub bit_ones : (n k : ℕ) → bit (2 ^ n - 1) k ≡ ltb k n
bit_ones n k = go (dec_le n k)
  where
    go : Dec (n ≤ k) → bit (2 ^ n - 1) k ≡ ltb k n
    go (yes p) = bit_high n (2 ^ n - 1) k (ones_lt n) p ∙ sym (le-ltb k n p)
    go (no p) =
        let l : k < n = lt_of_not-le p in
        ap (λ (x : ℕ). bit x k) ones ∙ bit_mask n (λ j. true) k l ∙ sym (lt-ltb k n l)
      where
        ones : 2 ^ n - 1 ≡ mask_of n (λ j. true)
        ones = ones_mask n

-- a mask of n is full where its test holds of each below n
pub full_mask : (n : ℕ) (f : ℕ → Bool) → eqb (mask_of n f) (2 ^ n - 1) ≡ all_of n f
full_mask n f =
    same_test (eqb (mask_of n f) (2 ^ n - 1)) (all_of n f)
    (λ h. yes_all n f (λ k l. sym (bit_mask n f k l) ∙ ap (λ (x : ℕ). bit x k) (eqb-true (mask_of n f) (2 ^ n - 1) h) ∙ bit_ones n k ∙ lt-ltb k n l))
    (λ h. eq-eqb (mask_of n f) (2 ^ n - 1) (mask_ext n f (λ j. true) (all_yes n f h) ∙ sym (ones_mask n)))
