-- A sum with one more at the end, as a loop that goes up to n + 1 goes.
-- Assumes nothing.
use mathlib.Core.Path.{◌≡◌, ap, ◌∙◌}
use Prim.Native.Nat.{ℕ, zero, suc, ◌+◌}
use native.Mathlib.Numerals.{add-one}
use native.Mathlib.Omega.{arith}
use Rattle.rules.specs.Hidden.{sum_of}

sum_snoc : (n : ℕ) (f : ℕ → ℕ) → sum_of (suc n) f ≡ sum_of n f + f n
unfolding sum_of
sum_snoc zero f = omega arith
sum_snoc (suc n) f = ap (λ (x : ℕ). f 0 + x) (sum_snoc n (λ j. f (suc j))) ∙ omega arith

pub sum_more : (n : ℕ) (f : ℕ → ℕ) → sum_of (n + 1) f ≡ sum_of n f + f n
sum_more n f = ap (λ (j : ℕ). sum_of j f) (add-one n) ∙ sum_snoc n f
