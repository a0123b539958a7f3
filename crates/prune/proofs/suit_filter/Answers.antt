-- `prune::suit_filter` meets its contract.
-- Assumes nothing.
use Rattle.std.proofs.Common.{bit_or, ap₂, ◌∙◌}
use Rattle.bits.proofs.Algebra.{or_masks}
use Rattle.prune.proofs.suit_filter.Goals as goal

pub returns : goal.returns
returns c = ap₂ bit_or (ap₂ bit_or (ap₂ bit_or c.side.ensures c.side-2.ensures) c.side-3.ensures) c.side-4.ensures ∙ simp or_masks
