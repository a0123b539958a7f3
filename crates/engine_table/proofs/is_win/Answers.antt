-- `engine_table::is_win` meets its contract.
-- Assumes nothing.
use Rattle.std.proofs.Common.{sym, refl}
use Rattle.rules.specs.Answers.{win_answer, improper, told, is_win}
use Rattle.proper.proofs.Judged.{holds, unjudged}
use Rattle.engine_table.proofs.is_win.Goals as goal

pub returns-in_err-judge : goal.returns-in_err-judge
unfolding win_answer improper told
returns-in_err-judge c =
    let e = unjudged c.args.p c.from_residual.result c.from_residual.ensures.1 c.in_err-judge.ensures.err in
    rw (e.0, e.1) refl

pub returns : goal.returns
unfolding win_answer improper told is_win
returns c = rw (holds c.in_ok-judge.field-0 c.in_ok-judge.ensures.ok, c.is_full.ensures) refl
