-- `engine_history::undo_move` meets its contract.
-- Assumes nothing.
use Rattle.std.proofs.Common.{sym, refl}
use borrow.Author.Tests.{le-ltb, lt-ltb, eq-eqb, ne_eqb}
use Rattle.rules.specs.Answers.{undo_answer, undo_refusal, last_entry}
use Rattle.play.proofs.Ways.{not_back, back_to}
use Rattle.proper.proofs.Judged.{right, unjudged}
use Rattle.engine_history.proofs.undo_move.Goals as goal

pub returns-in_err-judged : goal.returns-in_err-judged
unfolding undo_answer undo_refusal
returns-in_err-judged c =
    let e = unjudged c.args.p c.from_residual.result c.from_residual.ensures.1 c.in_err-judged.ensures.err in
    rw (e.0, e.1) refl

pub returns-then-history-count : goal.returns-then-history-count
unfolding undo_answer undo_refusal
returns-then-history-count c = rw (sym c.in_ok-judged.ensures.ok, right c.in_ok-judged.judged, lt-ltb _ _ c.if-history-count.true) refl

pub returns-then-count-eq0 : goal.returns-then-count-eq0
unfolding undo_answer undo_refusal
returns-then-count-eq0 c = rw (sym c.in_ok-judged.ensures.ok, right c.in_ok-judged.judged, le-ltb _ _ c.if-history-count.false, eq-eqb _ _ c.if-count-eq0.true) refl

pub returns-in_default : goal.returns-in_default
unfolding undo_answer undo_refusal last_entry
returns-in_default c =
    rw (sym c.in_ok-judged.ensures.ok, right c.in_ok-judged.judged, le-ltb _ _ c.if-history-count.false, ne_eqb _ _ c.if-count-eq0.false, not_back c.in_ok-judged.judged.position _ c.in_default.ensures) refl

pub returns : goal.returns
unfolding undo_answer undo_refusal last_entry
returns c =
    let b = back_to c.in_ok-judged.judged.position _ c.in-Some.ensures in
    rw (sym c.in_ok-judged.ensures.ok, right c.in_ok-judged.judged, le-ltb _ _ c.if-history-count.false, ne_eqb _ _ c.if-count-eq0.false, b.0, b.1) refl
