-- `prune::Weighed::chosen` meets its contract.
-- Assumes nothing.
use Rattle.prune.proofs.Ending.{code, code_is}
use Rattle.prune.proofs.Weighed.chosen.Goals as goal

pub returns : goal.returns
unfolding code
returns c = code_is c.args.self.now c.args.sp c.args.ps c.args.ds c.args.room
