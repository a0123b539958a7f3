-- `engine_lists::list_count` meets its contract.
-- Assumes nothing.
use Rattle.std.proofs.Common.{ap, refl, sym, ◌∙◌}
use borrow.Author.Tests.{le-ltb, lt-ltb}
use Rattle.rules.specs.Answers.{masks_for, listing_answer, listing_refusal}
use Rattle.rules.proofs.Shape.{shape}
use Rattle.engine_lists.proofs.HintCount.{hint_count}
use Rattle.proper.proofs.Judged.{held, holds, unjudged}
use Rattle.engine_lists.proofs.list_count.Goals as goal

pub returns-in_err-judged : goal.returns-in_err-judged
unfolding listing_answer listing_refusal
returns-in_err-judged c =
    let e = unjudged c.args.p c.from_residual.result c.from_residual.ensures.1 c.in_err-judged.ensures.err in
    rw (e.0, e.1) refl

pub returns-then-room-n : goal.returns-then-room-n
unfolding listing_answer listing_refusal
returns-then-room-n c =
    let p = c.args.p in
    let counted = hint_count p (shape p _ c.well_formed.0) (held c.in_ok-judged.judged c.in_ok-judged.ensures.ok) c.args.pruned (c.masks_for.ensures ∙ ap (masks_for c.args.pruned) c.in_ok-judged.ensures.ok) c.len-n.ensures in
    rw (holds c.in_ok-judged.judged c.in_ok-judged.ensures.ok, counted, lt-ltb _ _ c.if-room-n.true) refl

pub returns : goal.returns
unfolding listing_answer listing_refusal
returns c =
    let p = c.args.p in
    let counted = hint_count p (shape p _ c.well_formed.0) (held c.in_ok-judged.judged c.in_ok-judged.ensures.ok) c.args.pruned (c.masks_for.ensures ∙ ap (masks_for c.args.pruned) c.in_ok-judged.ensures.ok) c.len-n.ensures in
    rw (holds c.in_ok-judged.judged c.in_ok-judged.ensures.ok, counted, le-ltb _ _ c.if-room-n.false) refl
