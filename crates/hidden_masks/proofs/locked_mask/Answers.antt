-- `hidden_masks::locked_mask` meets its contract.
-- Assumes nothing.
use mathlib.Core.Path.{ap₂, ◌∙◌}
use lib.Bits.{bit_or}
use Rattle.bits.proofs.Algebra.{or_masks}
use Rattle.bits.proofs.Laws.{mask_ext}
use Rattle.rules.specs.Hidden.{buried_in, head_in}
use Rattle.hidden_masks.proofs.Locked.{locked_both}
use Rattle.hidden_masks.proofs.locked_mask.Goals as goal

pub returns : goal.returns
returns c =
    let a = c.args in
    ap₂ bit_or c.buried_mask.ensures c.head_mask.ensures
    ∙ or_masks 52 (buried_in a.deal.now a.counts.now) (head_in a.deal.now a.counts.now)
    ∙ mask_ext 52 _ _ (λ x l. locked_both a.deal.now a.counts.now x)
