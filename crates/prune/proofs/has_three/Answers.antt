-- `prune::has_three` meets its contract.
-- Assumes nothing.
use Rattle.std.proofs.Common.{ltb, ap, ◌∙◌}
use Rattle.prune.proofs.Three.{rest, three_left}
use Rattle.prune.proofs.has_three.Goals as goal

pub returns : goal.returns
returns c = ap (ltb 0) (c.clear_lowest-2.ensures ∙ ap rest c.clear_lowest.ensures) ∙ three_left c.args.m c.ranges.m.fits
