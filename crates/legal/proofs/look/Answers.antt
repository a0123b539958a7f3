-- `legal::look` meets its contract.
-- Assumes nothing.
use Rattle.rules.specs.Legal.{is_next}
use Rattle.rules.proofs.Facts.{facts}
use Rattle.rules.proofs.HeadsLaw.{vis_mask}
use Rattle.legal.specs.Sight.{sight}
use Rattle.legal.proofs.look.Goals as goal

pub mask-requires : goal.mask-requires
mask-requires c = (facts c.args.p.position c.args.p.good).heights

pub returns : goal.returns
unfolding sight is_next
returns c = cc (vis_mask c.args.p.position (facts c.args.p.position c.args.p.good), c.mask.ensures, c.open_mask.ensures, c.requires.0, c.requires.1)
