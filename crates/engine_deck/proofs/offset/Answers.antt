-- `engine_deck::offset` meets its contract.
-- Assumes nothing.
use Rattle.std.proofs.Common.{sym, refl}
use Rattle.rules.specs.Answers.{offset_answer, improper}
use Rattle.rules.proofs.Facts.{facts}
use Rattle.proper.proofs.Judged.{held, holds, unjudged}
use Rattle.engine_deck.proofs.offset.Goals as goal

pub returns-in_err-judge : goal.returns-in_err-judge
unfolding offset_answer improper
returns-in_err-judge c =
    let e = unjudged c.args.p c.from_residual.result c.from_residual.ensures.1 c.in_err-judge.ensures.err in
    rw (e.0, e.1) refl

pub offset-requires : goal.offset-requires
offset-requires c =
    let f = facts c.args.p (held c.in_ok-judge.field-0 c.in_ok-judge.ensures.ok) in
    (f.left, f.step_pos, f.step, f.offset)

pub returns : goal.returns
unfolding offset_answer improper
returns c = rw (holds c.in_ok-judge.field-0 c.in_ok-judge.ensures.ok, c.offset.ensures) refl
