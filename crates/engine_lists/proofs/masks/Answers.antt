-- `engine_lists::masks` meets its contract.
-- Assumes nothing.
use Rattle.std.proofs.Common.{sym, refl}
use Rattle.rules.specs.Answers.{masks_answer, improper}
use Rattle.proper.proofs.Judged.{right, unjudged}
use Rattle.engine_lists.proofs.masks.Goals as goal

pub returns-in_err-judged : goal.returns-in_err-judged
unfolding masks_answer improper
returns-in_err-judged c =
    let e = unjudged c.args.p c.from_residual.result c.from_residual.ensures.1 c.in_err-judged.ensures.err in
    rw (e.0, e.1) refl

pub returns : goal.returns
unfolding masks_answer improper
returns c = rw (sym c.in_ok-judged.ensures.ok, right c.in_ok-judged.judged, c.masks_for.ensures) refl
