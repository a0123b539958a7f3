-- `deck_cursor::deal_once` meets its contract.
-- Assumes nothing.
use Rattle.std.proofs.Common.{sym}
use Rattle.std.proofs.lemmas.Result.{err_from_is_err_and}
use Rattle.rules.specs.Answers.{dealt_once}
use Rattle.deck_cursor.proofs.Cursors.{refused_is, accepted_is, in_range}
use Rattle.deck_cursor.proofs.deal_once.Goals as goal

pub returns-in_err-judge : goal.returns-in_err-judge
returns-in_err-judge c =
    let p = err_from_is_err_and c.from_residual.result c.from_residual.ensures.1 in
    rw (p.1, p.2) (refused_is c.args.c _ c.in_err-judge.ensures)

pub offset_once-requires : goal.offset_once-requires
offset_once-requires c = in_range c.args.c (sym c.in_ok-judge.ensures)

pub returns : goal.returns
unfolding dealt_once
returns c = rw c.offset_once.ensures (accepted_is c.args.c c.in_ok-judge.ensures)
