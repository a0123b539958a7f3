-- n cards of the run are written, and card is the next.
use Rattle.std.proofs.Common.{◌-◌}
use Rattle.piles.proofs.Row.{Written}
use Rattle.piles.proofs.fill_run.Given as goal

abbrev pub invariant-loop-card : goal.invariant-loop-card
invariant-loop-card l = Written l.vis l.free l.start l.part l.card l.n

abbrev pub decreases-loop-card : goal.decreases-loop-card
decreases-loop-card l = 13 - l.n
