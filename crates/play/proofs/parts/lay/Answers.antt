-- `play::parts::lay` meets its contract.
-- Assumes nothing.
use native.Mathlib.Omega.{arith}
use Rattle.rules.specs.Play.{laid}
use Rattle.play.proofs.Sight.{with_is}
use Rattle.play.proofs.parts.lay.Goals as goal

pub returns : goal.returns
unfolding laid
returns c = rw (c.mask.ensures, with_is c.args.p.now.visible c.args.card (omega arith))
