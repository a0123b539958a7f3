-- `engine_table::heights` meets its contract.
-- Assumes nothing.
use Rattle.std.proofs.Common.{sym, refl}
use Rattle.rules.specs.Answers.{heights_answer, improper}
use Rattle.proper.proofs.Judged.{holds, unjudged}
use Rattle.engine_table.proofs.heights.Goals as goal

pub returns-in_err-judge : goal.returns-in_err-judge
unfolding heights_answer improper
returns-in_err-judge c =
    let e = unjudged c.args.p c.from_residual.result c.from_residual.ensures.1 c.in_err-judge.ensures.err in
    rw (e.0, e.1) refl

pub returns : goal.returns
unfolding heights_answer improper
returns c = rw (holds c.in_ok-judge.field-0 c.in_ok-judge.ensures.ok) refl
