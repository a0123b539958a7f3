-- The counts passed fit their piles.
use Rattle.std.proofs.Common.{◌≡◌, ◌+◌, true, leb, get_or}
use Rattle.rules.specs.Bits.{all_of}
use Rattle.proper.proofs.counts_right.Given as goal

abbrev pub invariant-loop-i : goal.invariant-loop-i
invariant-loop-i l = all_of l.i (λ j. leb (get_or l.counts j 0) (j + 1)) ≡ true
