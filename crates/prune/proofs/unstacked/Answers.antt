-- `prune::unstacked` meets its contract.
-- Assumes nothing.
use Rattle.std.proofs.Common.{ℕ, eqb, bit_and, ap, ◌∙◌}
use Rattle.prune.proofs.Least.{unstacked_is}
use Rattle.prune.proofs.unstacked.Goals as goal

pub returns : goal.returns
returns c = ap (λ (m : ℕ). eqb (bit_and c.args.extra m) 0) c.suit_mask.ensures ∙ unstacked_is c.args.extra c.args.suit c.requires.1
