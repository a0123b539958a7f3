-- `engine_deck::find` meets its contract.
-- Assumes nothing.
use Rattle.std.proofs.Common.{sym, refl, ap₂, Bool, ℕ}
use borrow.Author.Tests.{le-ltb, lt-ltb}
use Rattle.rules.specs.declared.Located.{Located}
use Rattle.rules.specs.Answers.{find_answer, find_refusal}
use Rattle.proper.proofs.Judged.{right, unjudged}
use Rattle.engine_deck.proofs.find.Goals as goal

pub returns-in_err-judged : goal.returns-in_err-judged
unfolding find_answer find_refusal
returns-in_err-judged c =
    let e = unjudged c.args.p c.from_residual.result c.from_residual.ensures.1 c.in_err-judged.ensures.err in
    rw (e.0, e.1) refl

pub returns-then-card-gt-LAST_CARD : goal.returns-then-card-gt-LAST_CARD
unfolding find_answer find_refusal
returns-then-card-gt-LAST_CARD c = rw (sym c.in_ok-judged.ensures.ok, right c.in_ok-judged.judged, lt-ltb 51 _ c.if-card-gt-LAST_CARD.true) refl

pub returns : goal.returns
unfolding find_answer find_refusal
returns c =
    let p = c.in_ok-judged.judged.position in
    rw (sym c.in_ok-judged.ensures.ok, right c.in_ok-judged.judged, le-ltb 51 _ c.if-card-gt-LAST_CARD.false)
    (ap₂ {C = Located} (λ (f : Bool) (k : ℕ). record { refusal = 0; position = p; found = f; place = k }) c.find_card.ensures.0 c.find_card.ensures.1)
