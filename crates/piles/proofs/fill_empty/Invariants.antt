-- From the suit s on there are the same kings as from the first suit on.
use Rattle.std.proofs.Common.{◌≡◌}
use Rattle.piles.specs.Run.{kings_of}
use Rattle.piles.proofs.fill_empty.Given as goal

abbrev pub invariant-loop-s : goal.invariant-loop-s
invariant-loop-s l = kings_of l.free l.from ≡ kings_of l.free l.s
