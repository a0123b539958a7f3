-- `engine_table::piles` meets its contract.
-- Assumes nothing.
use Rattle.std.proofs.Common.{sym, refl}
use borrow.Author.Tests.{le-ltb, lt-ltb}
use Rattle.rules.specs.Answers.{piles_answer, piles_refusal, piles_buffer}
use Rattle.proper.proofs.Judged.{right, unjudged}
use Rattle.engine_table.proofs.piles.Goals as goal

pub returns-in_err-judged : goal.returns-in_err-judged
unfolding piles_answer piles_refusal piles_buffer
returns-in_err-judged c =
    let e = unjudged c.args.p c.from_residual.result c.from_residual.ensures.1 c.in_err-judged.ensures.err in
    rw (e.0, e.1) (refl, refl)

pub returns-then-out-lt-PILE_BYTES : goal.returns-then-out-lt-PILE_BYTES
unfolding piles_answer piles_refusal piles_buffer
returns-then-out-lt-PILE_BYTES c = rw (sym c.in_ok-judged.ensures.ok, right c.in_ok-judged.judged, lt-ltb _ 91 c.if-out-lt-PILE_BYTES.true) (refl, refl)

pub compute_visible_piles-requires : goal.compute_visible_piles-requires
compute_visible_piles-requires c = c.if-out-lt-PILE_BYTES.false

pub returns : goal.returns
unfolding piles_answer piles_refusal piles_buffer
returns c =
    let p = c.in_ok-judged.judged.position in
    let f = c.compute_visible_piles.ensures in
    rw (sym c.in_ok-judged.ensures.ok, right c.in_ok-judged.judged, le-ltb _ _ c.if-out-lt-PILE_BYTES.false)
    (λ i. record { refusal = 0; position = p; lengths = f.0 i }, f.1)
