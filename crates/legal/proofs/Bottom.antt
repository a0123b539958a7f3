-- The open pairs, as the source's bit trick has them.
-- Assumes nothing.
use mathlib.Core.Bool.{Bool, true, false, not, ◌&&◌, ◌||◌, and-false}
use mathlib.Core.Path.{◌≡◌, refl, ap, ◌∙◌, subst}
use mathlib.Core.Logic.{⊎_elim}
use Prim.Native.Nat.{ℕ, ◌+◌, ◌-◌, ◌*◌, ◌/◌, ◌%◌, ◌^◌, ◌<◌, ◌≤◌}
use native.Mathlib.Omega.{arith}
use lib.Bits.{bit_and, bit_or, bit_xor, and_le_r}
use lib.Dec.{T, leb, ltb, le→leb, lit≤}
use borrow.Author.Tests.{le-leb, lt-leb}
use native.Mathlib.Decide.{dec_le}
use Rattle.bits.specs.Bit.{bit, num, mask_of}
use Rattle.bits.proofs.Laws.{differs, bit-and, bit-or, bit-xor, bit_shl, bit_shr, bit_not, bit_high, mod_64, bit_triple, mask_is, few_bits}
use Rattle.bits.proofs.Counts.{parity}
use Rattle.bits.proofs.Tables.{upto, T_true, T_false, table_if}
use Rattle.legal.specs.Pairs.{pair_of, lower}

-- what the code computes of `vis` and `free`
unfoldable pub part : ℕ → ℕ → ℕ
part vis free =
    bit_and (bit_or (bit_xor (bit_xor vis (vis / 2)) (bit_xor free (free / 2) * 16 % 2 ^ 64)) ((2 ^ 64 - 1) - bit_or free (free / 2) * 16 % 2 ^ 64)) (bit_or vis (vis / 2))

unfoldable pub bottom : ℕ → ℕ → ℕ
bottom vis free = bit_and (part vis free) 0x5555_5555_5555_5555

-- the mask
pub mask_even : (k : ℕ) → k < 32 → T (bit 0x5555_5555_5555_5555 (2 * k))
unfolding bit
mask_even = upto 32 (λ k. bit 0x5555_5555_5555_5555 (2 * k)) tt

pub mask_odd : (k : ℕ) → k < 32 → T (not (bit 0x5555_5555_5555_5555 (2 * k + 1)))
unfolding bit
mask_odd = upto 32 (λ k. not (bit 0x5555_5555_5555_5555 (2 * k + 1))) tt

-- four lower than the odd card of a pair
lower_odd : (f : ℕ → Bool) (k : ℕ) → lower f (2 * k + 1) ≡ (leb 4 (2 * k) && f (2 * k - 4 + 1))
lower_odd f k = go (dec_le 2 k)
  where
    go : Dec (2 ≤ k) → lower f (2 * k + 1) ≡ (leb 4 (2 * k) && f (2 * k - 4 + 1))
    go (yes p) = let e : 2 * k + 1 - 4 ≡ 2 * k - 4 + 1 = omega arith in rw (le-leb 4 (2 * k) (omega arith), le-leb 4 (2 * k + 1) (omega arith), e)
    go (no p) = rw (lt-leb 4 (2 * k) (omega arith), lt-leb 4 (2 * k + 1) (omega arith))

pub even_bit : (vis free k : ℕ) → k < 32 → pair_of (lower (bit free)) k ≤ pair_of (bit vis) k → bit (bottom vis free) (2 * k) ≡ ltb (pair_of (lower (bit free)) k) (pair_of (bit vis) k)
unfolding bottom part
even_bit vis free k l h =
    let l2 : 2 * k < 64 = omega arith in
    let t = le→leb (pair_of (lower (bit free)) k) (pair_of (bit vis) k) h in
    simp (bit-and, bit-or, bit-xor, bit_shl 4 64, bit_shr 1, bit_not, mod_64, T_true (bit 0x5555_5555_5555_5555 (2 * k)) (mask_even k l), lower_odd) (table_if 5
    (λ v w u f g. leb (num (u && f) + num (u && g)) (num v + num w))
    (λ v w u f g. (differs (differs v w) (u && differs f g) || not (u && (f || g))) && (v || w) && true)
    (λ v w u f g. ltb (num (u && f) + num (u && g)) (num v + num w)) tt
    (bit vis (2 * k)) (bit vis (2 * k + 1)) (leb 4 (2 * k)) (bit free (2 * k - 4)) (bit free (2 * k - 4 + 1)) (simp lower_odd at t))

pub odd_clear : (vis free j : ℕ) → j < 32 → bit (bottom vis free) (2 * j + 1) ≡ false
unfolding bottom
odd_clear vis free j l = rw (bit-and, T_false (bit 0x5555_5555_5555_5555 (2 * j + 1)) (mask_odd j l), and-false)

-- no bit past the visible cards
high_clear : (vis free k : ℕ) → vis < 2 ^ 52 → 26 ≤ k → bit (bottom vis free) (2 * k) ≡ false
unfolding bottom part
high_clear vis free k h l =
    simp (bit-and, bit-or, bit_shr 1, bit_high 52 vis (2 * k) h (omega arith), bit_high 52 vis (2 * k + 1) h (omega arith), and-false)

bottom_fits : (vis free : ℕ) → bottom vis free * 3 < 2 ^ 64
unfolding bottom
bottom_fits vis free = omega (arith, and_le_r (part vis free) 0x5555_5555_5555_5555)

-- of a number and its half
pub halves : (P : ℕ → Type 0) (c : ℕ) → ((k : ℕ) → k ≡ c / 2 → P (2 * k)) → ((k : ℕ) → k ≡ c / 2 → P (2 * k + 1)) → P c
halves P c f g =
    ⊎_elim
    (λ e. let x : 2 * (c / 2) ≡ c = omega arith in subst P x (f (c / 2) refl))
    (λ e. let x : 2 * (c / 2) + 1 ≡ c = omega arith in subst P x (g (c / 2) refl)) (parity c)

module _ (vis free : ℕ) (small : vis < 2 ^ 52) where
  both : (k : ℕ) → k < 32 → (bit (bottom vis free * 3) (2 * k) ≡ bit (bottom vis free) (2 * k)) × (bit (bottom vis free * 3) (2 * k + 1) ≡ bit (bottom vis free) (2 * k))
  both k l = bit_triple k (bottom vis free) (λ j m. odd_clear vis free j (omega arith))

  pub bottom_is : ((k : ℕ) → k < 26 → pair_of (lower (bit free)) k ≤ pair_of (bit vis) k)
      → bottom vis free * 3 ≡ mask_of 52 (λ c. ltb (pair_of (lower (bit free)) (c / 2)) (pair_of (bit vis) (c / 2)))
  bottom_is h =
      mask_is 52 (λ c. ltb (pair_of (lower (bit free)) (c / 2)) (pair_of (bit vis) (c / 2))) (bottom vis free * 3)
      (few_bits 64 52 (bottom vis free * 3) (bottom_fits vis free) (lit≤ tt) (λ c a b. halves (λ x. bit (bottom vis free * 3) x ≡ false) c (λ k e. (both k (omega arith)).0 ∙ high_clear vis free k small (omega arith)) (λ k e. (both k (omega arith)).1 ∙ high_clear vis free k small (omega arith))))
      (λ c l.
      halves (λ x. bit (bottom vis free * 3) x ≡ ltb (pair_of (lower (bit free)) (c / 2)) (pair_of (bit vis) (c / 2))) c
      (λ k e. (both k (omega arith)).0 ∙ even_bit vis free k (omega arith) (h k (omega arith)) ∙ ap (λ (x : ℕ). ltb (pair_of (lower (bit free)) x) (pair_of (bit vis) x)) e)
      (λ k e. (both k (omega arith)).1 ∙ even_bit vis free k (omega arith) (h k (omega arith)) ∙ ap (λ (x : ℕ). ltb (pair_of (lower (bit free)) x) (pair_of (bit vis) x)) e))
