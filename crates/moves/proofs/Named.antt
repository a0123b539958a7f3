-- A kind and a card that name a move are in their ranges.
-- Assumes nothing.
use mathlib.Core.Bool.{true}
use mathlib.Core.Path.{◌≡◌}
use Prim.Native.Nat.{ℕ, ◌<◌}
use native.Mathlib.Omega.{arith}
use lib.Dec.{leb}
use borrow.Author.Tests.{leb-true}
use Rattle.bits.proofs.Searches.{and_left, and_right}
use Rattle.rules.specs.History.{is_kind_and_card}

pub in_ranges : (kind c : ℕ) → is_kind_and_card kind c ≡ true → (kind < 5) × (c < 52)
unfolding is_kind_and_card
in_ranges kind c h = (omega (arith, leb-true kind 4 (and_left (leb kind 4) (leb c 51) h)), omega (arith, leb-true c 51 (and_right (leb kind 4) (leb c 51) h)))
