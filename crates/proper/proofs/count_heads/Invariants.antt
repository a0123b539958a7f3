-- The heads of the piles passed are counted.
use Rattle.std.proofs.Common.{◌≡◌, ltb, get_or}
use Rattle.rules.specs.Bits.{count_of}
use Rattle.proper.proofs.count_heads.Given as goal

abbrev pub invariant-loop-n : goal.invariant-loop-n
invariant-loop-n l = l.heads ≡ count_of l.n-index (λ j. ltb 0 (get_or l.counts j 0))
