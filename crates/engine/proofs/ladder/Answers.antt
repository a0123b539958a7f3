-- `engine::ladder` meets its contract.
-- Assumes nothing.
use Rattle.std.proofs.Common.{refl, sym}
use borrow.Author.Tests.{eq-eqb, ne_eqb}
use Rattle.rules.specs.Code.{ladder_same}
use Rattle.rules.specs.Answers.{ladder_answer, ladder_refusal}
use Rattle.proper.proofs.Judged.{holds, unjudged}
use Rattle.engine.proofs.ladder.Goals as goal
use Rattle.engine.proofs.ladder.Goals.{then-not-same_deal-via-then-not-same_deal, then-not-same_deal-via-else-not-same_deal+then-p-q}

pub returns-in_err-first : goal.returns-in_err-first
unfolding ladder_answer ladder_refusal
returns-in_err-first c =
    let e = unjudged c.args.p c.from_residual.result c.from_residual.ensures.1 c.in_err-first.ensures.err in
    rw (e.0, e.1) refl

pub returns-in_err-second : goal.returns-in_err-second
unfolding ladder_answer ladder_refusal
returns-in_err-second c =
    let e = unjudged c.args.q c.from_residual-in_err-second.result c.from_residual-in_err-second.ensures.1 c.in_err-second.ensures.err in
    rw (e.0, holds c.in_ok-first.first c.in_ok-first.ensures.ok, e.1) refl

pub returns-then-not-same_deal : goal.returns-then-not-same_deal
unfolding ladder_answer ladder_refusal ladder_same
returns-then-not-same_deal c =
    let a = c.args in
    elim c.then-not-same_deal.branch [
      | then-not-same_deal-via-then-not-same_deal w ↦ rw (holds c.in_ok-first.first c.in_ok-first.ensures.ok, holds c.in_ok-second.second c.in_ok-second.ensures.ok, sym w.if-not-same_deal.ensures) refl
      | then-not-same_deal-via-else-not-same_deal+then-p-q w ↦ rw (holds c.in_ok-first.first c.in_ok-first.ensures.ok, holds c.in_ok-second.second c.in_ok-second.ensures.ok, sym w.if-not-same_deal.ensures, ne_eqb a.p.step a.q.step w.if-p-q.true) refl
    ]

pub returns : goal.returns
unfolding ladder_answer ladder_refusal ladder_same
returns c = rw (holds c.in_ok-first.first c.in_ok-first.ensures.ok, holds c.in_ok-second.second c.in_ok-second.ensures.ok, sym c.if-not-same_deal.ensures, eq-eqb c.args.p.step c.args.q.step c.if-p-q.false, c.encode.ensures, c.encode-2.ensures, c.in_ok-first.ensures.ok, c.in_ok-second.ensures.ok) refl
