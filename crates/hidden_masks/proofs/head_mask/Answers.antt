-- `hidden_masks::head_mask` meets its contract.
-- Assumes nothing.
use Rattle.std.proofs.Common.{◌≡◌, ◌+◌, ◌-◌, ◌<◌, ℕ, ap, refl, get_or, arith}
use lib.Dec.{ltb}
use mir.Val.{bool_byte}
use borrow.Author.Tests.{ltb-true}
use Rattle.rules.specs.Bits.{mask_of, any_of}
use Rattle.rules.specs.Hidden.{placed, head_in}
use Rattle.hidden_masks.proofs.Collected.{picked_step, past_place}
use Rattle.hidden_masks.proofs.head_mask.Goals as goal

pub loop-i-init : goal.loop-i-init
unfolding mask_of any_of
loop-i-init c = refl

pub bounds-deal-at : goal.bounds-deal-at
bounds-deal-at c =
    let i = c.loop-i.i in
    let n = get_or c.args.counts.now i 0 in
    omega (arith, past_place i n c.pile_start.result (omega arith) (c.requires.counts_fit i (omega arith)) c.pile_start.ensures)

pub loop-i-preserved : goal.loop-i-preserved
loop-i-preserved c =
    let d = c.args.deal.now in
    let i = c.loop-i.i in
    let n = get_or c.args.counts.now i 0 in
    let at = c.pile_start.result + n - bool_byte (ltb 0 n) in
    let l : at < 52 = omega (arith, past_place i n c.pile_start.result (omega arith) (c.requires.counts_fit i (omega arith)) c.pile_start.ensures) in
    rw c.loop-i.invariant
    (picked_step (λ j. ltb 0 (get_or c.args.counts.now j 0)) (λ j. placed d j (get_or c.args.counts.now j 0 - 1)) i (get_or d at 0) (c.requires.cards_fit at l)
    (λ t. ap (λ (k : ℕ). get_or d k 0) (omega (arith, ltb-true 0 n t, ap bool_byte t, c.pile_start.ensures))))

pub returns : goal.returns
unfolding head_in
returns c =
    let e : c.loop-i.i ≡ 7 = omega arith in
    rw e at c.loop-i.invariant
