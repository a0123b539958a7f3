-- `stack_totals::all_within`: what the test says of the heights so far.
use Rattle.std.proofs.Common.{◌≡◌, ◌&&◌, leb, get_or}
use Rattle.rules.specs.Bits.{all_of}
use Rattle.stack_totals.proofs.all_within.Given as goal

abbrev pub invariant-loop-height : goal.invariant-loop-height
invariant-loop-height l = l.all ≡ all_of l.height-index (λ s. leb l.low (get_or l.height-items s 0) && leb (get_or l.height-items s 0) l.high)
