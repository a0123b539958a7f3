-- `prune::Weighed::triple_stackable` meets its contract.
-- Assumes nothing.
use Rattle.prune.proofs.Least.{pot_is, triple_is}
use Rattle.prune.proofs.Weighed.triple_stackable.Goals as goal

pub returns : goal.returns
returns c =
    let w = c.args.self.now in
    rw (c.requires, w.vis_is, w.locked_is, w.sm_is, pot_is w.p.position w.p.good) (triple_is w.p.position w.p.good)
