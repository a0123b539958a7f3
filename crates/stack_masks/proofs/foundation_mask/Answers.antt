-- `stack_masks::foundation_mask` meets its contract.
-- Assumes nothing.
use Rattle.std.proofs.Common.{◌≡◌, get_or, ap, refl, ◌∙◌, arith}
use Rattle.stack_masks.proofs.Stacked.{stacked_to, stacked_none, stacked_more, stacked_are}
use Rattle.stack_masks.proofs.foundation_mask.Goals as goal

pub loop-suit-init : goal.loop-suit-init
loop-suit-init c = stacked_none _

pub loop-suit-preserved : goal.loop-suit-preserved
loop-suit-preserved c =
    let h = c.args.heights.now in
    let s = c.loop-suit.suit in
    rw (c.suit_mask.ensures, c.full_mask.ensures, c.loop-suit.invariant) (stacked_more h s (get_or h s 0) refl (c.requires s (omega arith)))

pub returns : goal.returns
returns c =
    let e : c.loop-suit.suit ≡ 4 = omega arith in
    c.loop-suit.invariant ∙ ap (stacked_to c.args.heights.now) e ∙ stacked_are c.args.heights.now
