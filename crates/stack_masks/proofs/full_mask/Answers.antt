-- `stack_masks::full_mask` meets its contract.
-- Assumes nothing.
use mathlib.Core.Bool.{true}
use mathlib.Core.Path.{◌≡◌, refl, sym, ap, ◌∙◌}
use Prim.Native.Nat.{ℕ, zero, suc, ◌-◌, ◌*◌, ◌%◌, ◌^◌, ◌<◌}
use native.Mathlib.Nat.{one-mul, mod-eq_of_lt}
use native.Mathlib.Omega.{arith}
use lib.Dec.{ltb}
use lib.Pow.{pow-lt, pow_pos}
use borrow.Author.Tests.{lt-ltb, le-ltb}
use Rattle.bits.specs.Bit.{mask_of}
use Rattle.bits.proofs.Laws.{mask_ext}
use Rattle.bits.proofs.Algebra.{mask_cut}
use Rattle.stack_masks.proofs.full_mask.Goals as goal

ones : (n : ℕ) → 2 ^ n - 1 ≡ mask_of n (λ k. true)
unfolding mask_of
ones zero = refl
ones (suc n) = omega (arith, ones n, pow_pos n)

small : (n : ℕ) → n < 64 → 1 * 2 ^ n % 2 ^ 64 ≡ 2 ^ n
small n l = ap (λ (x : ℕ). x % 2 ^ 64) (one-mul (2 ^ n)) ∙ mod-eq_of_lt (pow-lt l)

pub returns : goal.returns
returns c =
    let n = c.args.n in
    ap (λ (x : ℕ). x - 1) (small n c.requires) ∙ ones n ∙ mask_ext n (λ k. true) (λ k. ltb k n) (λ k l. sym (lt-ltb k n l))
    ∙ mask_cut n 64 (λ k. ltb k n) (omega arith) (λ k l m. le-ltb k n l)
