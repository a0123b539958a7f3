-- `engine_deck::deck` meets its contract.
-- Assumes nothing.
use Rattle.std.proofs.Common.{sym, refl}
use Rattle.rules.specs.Answers.{deck_answer, improper}
use Rattle.rules.proofs.Facts.{facts}
use Rattle.proper.proofs.Judged.{held, holds, unjudged}
use Rattle.engine_deck.proofs.deck.Goals as goal

pub returns-in_err-judge : goal.returns-in_err-judge
unfolding deck_answer improper
returns-in_err-judge c =
    let e = unjudged c.args.p c.from_residual.result c.from_residual.ensures.1 c.in_err-judge.ensures.err in
    rw (e.0, e.1) refl

pub cards-cards-requires : goal.cards-cards-requires
cards-cards-requires c = (facts c.args.p (held c.in_ok-judge.field-0 c.in_ok-judge.ensures.ok)).left

pub returns : goal.returns
unfolding deck_answer improper
returns c = rw (holds c.in_ok-judge.field-0 c.in_ok-judge.ensures.ok, c.cards-cards.ensures) refl
