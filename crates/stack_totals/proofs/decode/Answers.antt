-- `stack_totals::decode` meets its contract.
-- Assumes nothing.
use mathlib.Core.Path.{◌≡◌}
use mathlib.Core.List.{[], ◌∷◌}
use Prim.Native.Nat.{ℕ, ◌/◌, ◌%◌}
use native.Mathlib.Nat.{div-one}
use lib.Bits.{bit_and, and_mask}
use Rattle.rules.specs.Code.{table, code_height}
use Rattle.stack_totals.proofs.decode.Goals as goal

-- the lowest four bits of any number: a byte, so that the casts say nothing of the shifts
low-four : (x : ℕ) → bit_and x 15 ≡ x % 16
low-four x = and_mask x 4

four : (x a b c d : ℕ) → a ≡ x % 16 → b ≡ x / 16 % 16 → c ≡ x / 256 % 16 → d ≡ x / 4096 % 16 → a ∷ b ∷ c ∷ d ∷ [] ≡ table 4 (code_height x)
unfolding table code_height
four x a b c d e f g h = let z : x / 1 ≡ x = div-one x in cc

pub returns : goal.returns
returns c =
    let x = c.args.field in four x _ _ _ _ (low-four x) (low-four (x / 16)) (low-four (x / 256)) (low-four (x / 4096))
