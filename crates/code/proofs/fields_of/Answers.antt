-- `code::fields_of` meets its contract.
-- Assumes nothing.
use Rattle.std.proofs.Common.{◌^◌}
use mathlib.Core.Path.{◌≡◌}
use Prim.Native.Nat.{◌/◌}
use lib.Bits.{and_mask}
use Rattle.rules.specs.Code.{code_piles, code_offset}
use Rattle.code.specs.Resuming.{fields_of}
use Rattle.code.proofs.fields_of.Goals as goal

pub returns : goal.returns
unfolding fields_of code_piles code_offset
returns c =
    let x = c.args.code in
    λ i. record { heights = and_mask x 16 i; piles = and_mask (x / 2 ^ 16) 16 i; deck = and_mask (x / 2 ^ 32) 24 i; offset = code_offset x }
