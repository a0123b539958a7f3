-- Tests of all four heights: from 0 to a number, and from a number to itself.
-- Assumes nothing.
use mathlib.Core.Bool.{Bool, true, false, ◌&&◌}
use mathlib.Core.Path.{◌≡◌, refl, sym, ap}
use mathlib.Core.List.{List}
use Prim.Native.Nat.{ℕ}
use native.Mathlib.Omega.{arith}
use lib.Dec.{eqb, leb, leb-zero}
use lib.ListN.{get_or}
use borrow.Author.Tests.{leb-true, leb-false, eq-eqb, ne_eqb}
use Rattle.rules.specs.Bits.{all_of}
use Rattle.bits.proofs.Searches.{all_ext}

-- each height lies from low to high
abbrev pub within : List ℕ → ℕ → ℕ → Bool
within heights low high = all_of 4 (λ s. leb low (get_or heights s 0) && leb (get_or heights s 0) high)

pub from_zero : (heights : List ℕ) (high : ℕ) → within heights 0 high ≡ all_of 4 (λ s. leb (get_or heights s 0) high)
from_zero heights high = all_ext 4 _ _ (λ s l. ap (λ (b : Bool). b && leb (get_or heights s 0) high) (leb-zero (get_or heights s 0)))

-- from h to h is h
exact : (h x : ℕ) → (leb h x && leb x h) ≡ eqb x h
exact h x = go (leb h x) (leb x h) refl refl
  where
    go : (a b : Bool) → leb h x ≡ a → leb x h ≡ b → (a && b) ≡ eqb x h
    go true true e f = sym (eq-eqb x h (omega (arith, leb-true h x e, leb-true x h f)))
    go true false e f = sym (ne_eqb x h (λ q. omega (arith, leb-false x h f)))
    go false b e f = sym (ne_eqb x h (λ q. omega (arith, leb-false h x e)))

pub just : (heights : List ℕ) (h : ℕ) → within heights h h ≡ all_of 4 (λ s. eqb (get_or heights s 0) h)
just heights h = all_ext 4 _ _ (λ s l. exact h (get_or heights s 0))
