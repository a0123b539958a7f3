-- A count and its head: the head as a number, 1 or 0, and the count without it.
-- Assumes nothing.
use mathlib.Core.Bool.{Bool, true, false}
use mathlib.Core.Path.{◌≡◌, refl}
use Prim.Native.Nat.{ℕ, ◌-◌, ◌≤◌, ◌<◌}
use native.Mathlib.Omega.{arith}
use lib.Dec.{ltb}
use mir.Val.{bool_byte}
use borrow.Author.Tests.{ltb-true, ltb-false}
use Rattle.bits.specs.Bit.{num}

pub byte_num : (b : Bool) → bool_byte b ≡ num b
byte_num true = refl
byte_num false = refl

pub less_one : (x : ℕ) → x - bool_byte (ltb 0 x) ≡ x - 1
less_one x = go (ltb 0 x) refl
  where
    go : (b : Bool) → ltb 0 x ≡ b → x - bool_byte b ≡ x - 1
    go true e = refl
    go false e = omega (arith, ltb-false 0 x e)

pub some_le : (k x : ℕ) → bool_byte (ltb k x) ≤ x
some_le k x = go (ltb k x) refl
  where
    go : (b : Bool) → ltb k x ≡ b → bool_byte b ≤ x
    go true e = let l : k < x = ltb-true k x e in omega arith
    go false e = omega arith
