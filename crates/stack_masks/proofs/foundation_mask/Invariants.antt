-- `stack_masks::foundation_mask`: the cards on the foundations of the suits so far.
use Rattle.std.proofs.Common.{◌≡◌}
use Rattle.stack_masks.proofs.Stacked.{stacked_to}
use Rattle.stack_masks.proofs.foundation_mask.Given as goal

abbrev pub invariant-loop-suit : goal.invariant-loop-suit
invariant-loop-suit l = l.mask ≡ stacked_to l.heights l.suit
