-- The bytes passed are below 64 where all their bits together are.
use Rattle.std.proofs.Common.{◌≡◌, ltb, get_or}
use Rattle.rules.specs.Bits.{all_of}
use Rattle.proper.proofs.all_small.Given as goal

abbrev pub invariant-loop-card : goal.invariant-loop-card
invariant-loop-card l = ltb l.any 64 ≡ all_of l.card-index (λ j. ltb (get_or l.cards j 0) 64)
