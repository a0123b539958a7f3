-- The second walk goes as far as the first has not been.
use Rattle.std.proofs.Common.{bit_or, ap₂, ◌∙◌, arith}
use Rattle.rules.proofs.Facts.{facts}
use Rattle.rules.proofs.Held.{held_cards}
use Rattle.deck_masks.proofs.Stride.{find}
use Rattle.deck_masks.proofs.Reach.{Ends, ends_pure, ends_off, round}
use Rattle.deck_masks.proofs.any_mask.Goals as goal
use Rattle.deck_masks.proofs.any_mask.Goals.{then-offset-step-eq0, else-offset-step-eq0}

pub nonzero_rem-offset : goal.nonzero_rem-offset
nonzero_rem-offset c = (facts c.args.p.position c.args.p.good).step_pos

pub overflow_sub-step : goal.overflow_sub-step
overflow_sub-step c = (facts c.args.p.position c.args.p.good).step_pos

end : (c : goal.After-soon_mask) → Ends c.args.p.position c.saturating_sub-end.result
end c =
    let p = c.args.p.position in
    let f = facts p c.args.p.good in
    elim c.if-offset-step-eq0.branch [
      | then-offset-step-eq0 w ↦ ends_pure p c.saturating_sub-end.result f.offset w.if-offset-step-eq0.true (omega (arith, w.reach-is))
      | else-offset-step-eq0 w ↦ ends_off p c.saturating_sub-end.result (omega (arith, w.reach-is))
    ]

pub walk-requires : goal.walk-requires
walk-requires c =
    let p = c.args.p.position in
    let f = facts p c.args.p.good in
    let e = end c in
    (f.step_pos, f.step, omega (arith, f.step), omega (arith, e.within, f.left), λ k l. held_cards c.args.p _ c.well_formed.0 k (omega (arith, e.within)))

pub returns : goal.returns
unfolding find
returns c =
    let p = c.args.p.position in
    let f = facts p c.args.p.good in
    ap₂ bit_or c.soon_mask.ensures c.walk.ensures ∙ round p c.saturating_sub-end.result f.left f.step_pos f.offset (end c.before)
