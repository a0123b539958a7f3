-- The masks are those of the piles passed, where the deal is one.
use Rattle.std.proofs.Common.{◌≡◌, ◌-◌, ltb, get_or}
use Rattle.rules.specs.Hidden.{placed}
use Rattle.hidden_masks.proofs.Collected.{fronts, picked as tops}
use Rattle.proper.specs.Sets.{IsDeal}
use Rattle.proper.proofs.piles.Given as goal

abbrev pub invariant-loop-i : goal.invariant-loop-i
invariant-loop-i l =
    record {
      buried : IsDeal l.deal → l.buried ≡ fronts l.deal (λ j. get_or l.counts j 0 - 1) l.i;
      heads : IsDeal l.deal → l.heads ≡ tops (λ j. ltb 0 (get_or l.counts j 0)) (λ j. placed l.deal j (get_or l.counts j 0 - 1)) l.i;
    }
