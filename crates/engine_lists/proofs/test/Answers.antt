-- `engine_lists::test` meets its contract.
-- Assumes nothing.
use Rattle.std.proofs.Common.{sym, refl}
use Rattle.rules.specs.Answers.{test_answer, test_refusal, told}
use Rattle.moves.proofs.Named.{in_ranges}
use Rattle.rules.proofs.Passing.{passed, ended}
use Rattle.proper.proofs.Judged.{right, unjudged}
use Rattle.engine_lists.proofs.test.Goals as goal

pub returns-in_err-judged : goal.returns-in_err-judged
unfolding test_answer test_refusal told
returns-in_err-judged c =
    let e = unjudged c.args.p c.from_residual.result c.from_residual.ensures.1 c.in_err-judged.ensures.err in
    rw (e.0, e.1) refl

pub returns-in_err-admit : goal.returns-in_err-admit
unfolding test_answer test_refusal told
returns-in_err-admit c =
    let e = ended _ _ c.from_residual-in_err-admit.result c.from_residual-in_err-admit.ensures.1 c.in_err-admit.ensures in
    rw (e.0, sym c.in_ok-judged.ensures.ok, right c.in_ok-judged.judged, e.1) refl

pub is_valid_move-requires : goal.is_valid_move-requires
is_valid_move-requires c =
    let l = in_ranges _ _ (passed _ _ c.in_ok-admit.ensures) in
    (l.0, l.1)

pub returns : goal.returns
unfolding test_answer test_refusal told
returns c = rw (sym c.in_ok-judged.ensures.ok, right c.in_ok-judged.judged, passed _ _ c.in_ok-admit.ensures, c.is_valid_move.ensures) refl
