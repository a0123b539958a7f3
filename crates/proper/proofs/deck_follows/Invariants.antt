-- Something was wrong where a slot passed differs.
use Rattle.std.proofs.Common.{◌≡◌}
use Rattle.rules.specs.Bits.{any_of}
use Rattle.proper.proofs.Picking.{differ_at}
use Rattle.proper.proofs.deck_follows.Given as goal

abbrev pub invariant-loop-j : goal.invariant-loop-j
invariant-loop-j l = l.wrong ≡ any_of l.j (differ_at l.deck l.cards l.left)
