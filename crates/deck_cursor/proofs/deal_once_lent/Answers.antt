-- `deck_cursor::deal_once_lent` meets its contract: its number and its cursor are those of `deal_once`.
-- Assumes nothing.
use Rattle.std.proofs.Common.{ap, ◌∙◌}
use Rattle.std.proofs.lemmas.Result.{err_from_is_err_and}
use Rattle.rules.specs.declared.DealtOnce.{DealtOnce}
use Rattle.deck_cursor.proofs.Cursors.{refusal_is}
use Rattle.deck_cursor.proofs.deal_once_lent.Goals as goal

pub returns-in_err-c : goal.returns-in_err-c
returns-in_err-c c =
    let p = err_from_is_err_and c.from_residual.result c.from_residual.ensures.1 in
    let e = c.in_err-c.ensures in
    rw (p.1, p.2) (ap (λ (t : DealtOnce). t.refusal) e ∙ refusal_is c.args.c.now, ap (λ (t : DealtOnce). t.cursor) e)

pub returns : goal.returns
returns c =
    let e = c.in_ok-c.ensures in
    (ap (λ (t : DealtOnce). t.refusal) e ∙ refusal_is c.args.c.now, ap (λ (t : DealtOnce). t.cursor) e)
