-- `hidden_masks::buried_mask`: the buried cards of the piles so far.
use Rattle.std.proofs.Common.{◌≡◌, ◌-◌, get_or}
use Rattle.hidden_masks.proofs.Collected.{fronts}
use Rattle.hidden_masks.proofs.buried_mask.Given as goal

abbrev pub invariant-loop-i : goal.invariant-loop-i
invariant-loop-i l = l.mask ≡ fronts l.deal (λ j. get_or l.counts j 0 - 1) l.i
