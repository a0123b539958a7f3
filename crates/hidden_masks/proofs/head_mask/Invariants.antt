-- `hidden_masks::head_mask`: the heads of the piles so far.
use Rattle.std.proofs.Common.{◌≡◌, ◌-◌, get_or}
use lib.Dec.{ltb}
use Rattle.rules.specs.Hidden.{placed}
use Rattle.hidden_masks.proofs.Collected.{picked}
use Rattle.hidden_masks.proofs.head_mask.Given as goal

abbrev pub invariant-loop-i : goal.invariant-loop-i
invariant-loop-i l = l.mask ≡ picked (λ j. ltb 0 (get_or l.counts j 0)) (λ j. placed l.deal j (get_or l.counts j 0 - 1)) l.i
