-- `hidden_masks::buried_mask` meets its contract.
-- Assumes nothing.
use Rattle.std.proofs.Common.{◌≡◌, ◌-◌, refl, get_or, arith}
use Rattle.rules.specs.Bits.{mask_of, any_of}
use Rattle.rules.specs.Hidden.{buried_in}
use Rattle.hidden_masks.proofs.Collected.{fronts_step, in_deal}
use Rattle.hidden_masks.proofs.buried_mask.Goals as goal

pub loop-i-init : goal.loop-i-init
unfolding mask_of any_of
loop-i-init c = refl

pub cards_from-mask-requires : goal.cards_from-mask-requires
cards_from-mask-requires c =
    let i = c.loop-i.i in
    omega (arith, in_deal i (get_or c.args.counts.now i 0) c.pile_start.result (omega arith) (c.requires.counts_fit i (omega arith)) c.pile_start.ensures)

pub loop-i-preserved : goal.loop-i-preserved
loop-i-preserved c =
    let i = c.loop-i.i in
    rw c.loop-i.invariant
    (fronts_step c.args.deal.now (λ j. get_or c.args.counts.now j 0 - 1) i c.pile_start.result c.saturating_sub-buried.result c.cards_from-mask.result c.requires.cards_fit (omega arith)
    (omega (arith, c.requires.counts_fit i (omega arith))) c.pile_start.ensures c.saturating_sub-buried.ensures c.cards_from-mask.ensures)

pub returns : goal.returns
unfolding buried_in
returns c =
    let e : c.loop-i.i ≡ 7 = omega arith in
    rw e at c.loop-i.invariant
