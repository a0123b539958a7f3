-- `play::parts::lift` meets its contract.
-- Assumes nothing.
use native.Mathlib.Omega.{arith}
use Rattle.rules.specs.Play.{lifted}
use Rattle.play.proofs.Sight.{without_is}
use Rattle.play.proofs.parts.lift.Goals as goal

pub returns : goal.returns
unfolding lifted
returns c = rw (c.mask.ensures, without_is c.args.p.now.visible c.args.card (omega arith))
