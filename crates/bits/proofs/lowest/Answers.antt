-- `bits::lowest` meets its contract.
-- Assumes nothing.
use Rattle.std.proofs.Common.{◌&&◌, eqb}
use Rattle.bits.specs.Bit.{bit, first_of}
use Rattle.bits.proofs.Laws.{mask_is, small}
use Rattle.bits.proofs.Counts.{lowest_wraps}
use Rattle.bits.proofs.lowest.Goals as goal

pub returns : goal.returns
returns c =
    let m = c.args.m in
    mask_is 64 (λ k. bit m k && eqb k (first_of 64 (bit m))) _ (search small)
    (λ k l. lowest_wraps m c.wrapping_neg.result c.ranges.m.fits (search small) c.wrapping_neg.ensures k)
