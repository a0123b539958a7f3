-- `engine_table::is_sure_win` meets its contract.
-- Assumes nothing.
use Rattle.std.proofs.Common.{sym, refl}
use borrow.Author.Tests.{le-leb, lt-leb}
use Rattle.rules.specs.Answers.{sure_win_answer, improper, told, is_sure_win}
use Rattle.proper.proofs.Judged.{holds, unjudged}
use Rattle.engine_table.proofs.is_sure_win.Goals as goal

pub returns-in_err-judge : goal.returns-in_err-judge
unfolding sure_win_answer improper told
returns-in_err-judge c =
    let e = unjudged c.args.p c.from_residual.result c.from_residual.ensures.1 c.in_err-judge.ensures.err in
    rw (e.0, e.1) refl

pub returns-then-p-le1 : goal.returns-then-p-le1
unfolding sure_win_answer improper told is_sure_win
returns-then-p-le1 c = rw (holds c.in_ok-judge.field-0 c.in_ok-judge.ensures.ok, le-leb _ 1 c.if-p-le1.true, c.is_all_up.ensures) refl

pub returns-else-p-le1 : goal.returns-else-p-le1
unfolding sure_win_answer improper told is_sure_win
returns-else-p-le1 c = rw (holds c.in_ok-judge.field-0 c.in_ok-judge.ensures.ok, lt-leb _ 1 c.if-p-le1.false) refl
