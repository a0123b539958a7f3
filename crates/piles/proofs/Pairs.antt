-- The two cards of a pair, and the card tried under a card, are low and of one rank.
-- Assumes nothing.
use mathlib.Core.Bool.{Bool, true, false, ◌||◌, cond}
use mathlib.Core.Path.{◌≡◌, refl}
use Prim.Native.Nat.{ℕ, ◌+◌, ◌-◌, ◌/◌, ◌%◌, ◌≤◌}
use native.Mathlib.Omega.{arith}
use lib.Dec.{eqb}
use borrow.Author.Tests.{eqb-true, eqb-false}
use Rattle.bits.specs.Bit.{bit}
use Rattle.rules.specs.Cards.{partner}
use Rattle.piles.specs.Run.{tried_of}

pub partner_half : (c : ℕ) → partner c / 2 ≡ c / 2
unfolding partner
partner_half c = go (eqb (c % 2) 0) refl
  where
    go : (b : Bool) → eqb (c % 2) 0 ≡ b → cond b (c + 1) (c - 1) / 2 ≡ c / 2
    go true e = omega (arith, eqb-true (c % 2) 0 e)
    go false e = let n : c % 2 ≡ 0 → ⊥ = eqb-false (c % 2) 0 e in omega arith

-- the card tried under c is of the rank below
pub tried_rank : (vis free c : ℕ) → 4 ≤ c → tried_of vis free c / 4 + 1 ≡ c / 4
unfolding tried_of
tried_rank vis free c l = go (bit vis (partner c) || bit free (c - 4))
  where
    go : (b : Bool) → cond b (c - 4) (partner (c - 4)) / 4 + 1 ≡ c / 4
    go true = omega arith
    go false = omega (arith, partner_half (c - 4))
