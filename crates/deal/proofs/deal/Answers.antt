-- `deal::deal` meets its contract.
-- Assumes nothing.
use Rattle.std.proofs.Common.{sym, ap, ◌∙◌, List, ℕ}
use native.Mathlib.Omega.{arith}
use lib.ListN.{get_or}
use Rattle.std.proofs.lemmas.Result.{err_from_is_err_and}
use Rattle.rules.specs.Code.{fresh}
use Rattle.rules.specs.Answers.{deal_answer}
use Rattle.rules.proofs.Refusing.{deal_passed}
use Rattle.rules.proofs.DealLaw.{cards_low}
use Rattle.deal.proofs.Answered.{refused_is, started_is}
use Rattle.deal.proofs.deal.Goals as goal

pub returns-in_err-admitted : goal.returns-in_err-admitted
unfolding deal_answer
returns-in_err-admitted c =
    let p = err_from_is_err_and c.from_residual.result c.from_residual.ensures.1 in
    rw (p.1, p.2) (refused_is _ _ _ c.in_err-admitted.ensures.refusal)

pub fresh-requires : goal.fresh-requires
fresh-requires c k l =
    let w = c.in_ok-admitted.ensures in
    omega (arith, ap (λ (d : List ℕ). get_or d k 0) w.cards, cards_low _ (deal_passed _ _ (sym w.refusal)).cards k l)

pub returns : goal.returns
unfolding deal_answer
returns c =
    let w = c.in_ok-admitted.ensures in
    started_is _ _ _ w.refusal (c.fresh.ensures ∙ ap (λ (d : List ℕ). fresh d c.args.step) w.cards)
