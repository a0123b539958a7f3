-- `engine_lists::list_into` meets its contract.
-- Assumes nothing.
use Rattle.std.proofs.Common.{List, ap, drop, length, refl, sym, ℕ, ◌++◌, ◌∙◌, ◌≡◌}
use borrow.Author.Tests.{le-ltb, lt-ltb}
use Rattle.rules.specs.Moves.{listed_over}
use Rattle.rules.specs.Answers.{masks_for, listing_answer, listing_refusal, listing_into, listing_front}
use Rattle.rules.proofs.Shape.{shape}
use Rattle.engine_lists.proofs.HintCount.{hint_cards, hint_count, hint_fits}
use Rattle.proper.proofs.Judged.{held, holds, unjudged}
use Rattle.engine_lists.proofs.list_into.Goals as goal

pub returns-in_err-judged : goal.returns-in_err-judged
unfolding listing_answer listing_refusal listing_into listing_front
returns-in_err-judged c =
    let e = unjudged c.args.p c.from_residual.result c.from_residual.ensures.1 c.in_err-judged.ensures.err in
    rw (e.0, e.1) (refl, refl)

pub returns-then-out-len : goal.returns-then-out-len
unfolding listing_answer listing_refusal listing_into listing_front
returns-then-out-len c =
    let p = c.args.p in
    let counted = hint_count p (shape p _ c.well_formed.0) (held c.in_ok-judged.judged c.in_ok-judged.ensures.ok) c.args.pruned (c.masks_for-m.ensures ∙ ap (masks_for c.args.pruned) c.in_ok-judged.ensures.ok) c.len.ensures in
    rw (holds c.in_ok-judged.judged c.in_ok-judged.ensures.ok, counted, lt-ltb _ _ c.if-out-len.true) (refl, refl)

pub list_into-requires : goal.list_into-requires
list_into-requires c = let p = c.args.p in hint_cards p (shape p _ c.well_formed.0) (held c.in_ok-judged.judged c.in_ok-judged.ensures.ok) c.args.pruned (c.masks_for-m.ensures ∙ ap (masks_for c.args.pruned) c.in_ok-judged.ensures.ok)

pub returns : goal.returns
unfolding listing_answer listing_refusal listing_into listing_front listed_over
returns c =
    let p = c.args.p in
    let whole = shape p _ c.well_formed.0 in
    let fair = held c.in_ok-judged.judged c.in_ok-judged.ensures.ok in
    let l = c.list_into.ensures in
    let b : List ℕ = c.args.out.now in
    let counted = hint_count p whole fair c.args.pruned (c.masks_for-m.ensures ∙ ap (masks_for c.args.pruned) c.in_ok-judged.ensures.ok) c.len.ensures in
    let fits = hint_fits p whole fair c.args.pruned (c.masks_for-m.ensures ∙ ap (masks_for c.args.pruned) c.in_ok-judged.ensures.ok) c.len.ensures c.if-out-len.false in
    let written : c.list_into.result ≡ c.len.result = l.0 ∙ ap length fits ∙ counted in
    rw (holds c.in_ok-judged.judged c.in_ok-judged.ensures.ok, counted, le-ltb _ _ c.if-out-len.false)
    (λ k. record { refusal = 0; position = p; count = written k }, l.1 ∙ ap (λ (f : List ℕ). f ++ drop (length f) b) fits)
