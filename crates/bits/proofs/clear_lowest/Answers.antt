-- `bits::clear_lowest` meets its contract.
-- Assumes nothing.
use Rattle.std.proofs.Common.{not, ◌&&◌, ◌+◌, ◌%◌, eqb, arith}
use Rattle.bits.specs.Bit.{bit, first_of}
use Rattle.bits.proofs.Laws.{mask_is, small}
use Rattle.bits.proofs.Counts.{clear_wraps}
use Rattle.bits.proofs.clear_lowest.Goals as goal

pub returns : goal.returns
returns c =
    let m = c.args.m in
    mask_is 64 (λ k. bit m k && not (eqb k (first_of 64 (bit m)))) _ (search small)
    (λ k l. clear_wraps m ((m + 18446744073709551615) % 18446744073709551616) c.ranges.m.fits (omega arith) (omega arith) k)
