-- `engine_history::do_move` meets its contract.
-- Assumes nothing.
use Rattle.std.proofs.Common.{◌≡◌, refl, sym, ap, ◌∙◌, ◌+◌}
use native.Mathlib.Omega.{arith}
use lib.ListN.{set}
use borrow.Author.Tests.{le-ltb, lt-ltb, eq-eqb, ne_eqb}
use Rattle.bits.proofs.Tables.{true-T}
use Rattle.rules.specs.declared.Moved.{Moved}
use Rattle.rules.specs.History.{entry}
use Rattle.rules.specs.Answers.{move_answer, move_refusal, move_history}
use Rattle.facts.proofs.EntryFits.{byte_fits}
use Rattle.play.specs.declared.Made.{Made}
use Rattle.play.specs.Made.{made}
use Rattle.moves.proofs.Named.{in_ranges}
use Rattle.rules.proofs.Passing.{passed, ended}
use Rattle.proper.proofs.Judged.{right, unjudged}
use Rattle.engine_history.proofs.do_move.Goals as goal

pub returns-in_err-judged : goal.returns-in_err-judged
unfolding move_answer move_history move_refusal
returns-in_err-judged c =
    let e = unjudged c.args.p c.from_residual.result c.from_residual.ensures.1 c.in_err-judged.ensures.err in
    rw (e.0, e.1) (refl, refl)

pub returns-then-history-count : goal.returns-then-history-count
unfolding move_answer move_history move_refusal
returns-then-history-count c = rw (sym c.in_ok-judged.ensures.ok, right c.in_ok-judged.judged, lt-ltb _ _ c.if-history-count.true) (refl, refl)

pub returns-in_err-admit : goal.returns-in_err-admit
unfolding move_answer move_history move_refusal
returns-in_err-admit c =
    let e = ended _ _ c.from_residual-in_err-admit.result c.from_residual-in_err-admit.ensures.1 c.in_err-admit.ensures in
    rw (e.0, sym c.in_ok-judged.ensures.ok, right c.in_ok-judged.judged, le-ltb _ _ c.if-history-count.false, e.1) (refl, refl)

pub is_valid_move-requires : goal.is_valid_move-requires
is_valid_move-requires c =
    let l = in_ranges _ _ (passed _ _ c.in_ok-admit.ensures) in
    (l.0, l.1)

pub returns-then-not-is_valid_move : goal.returns-then-not-is_valid_move
unfolding move_answer move_history move_refusal
returns-then-not-is_valid_move c =
    rw (sym c.in_ok-judged.ensures.ok, right c.in_ok-judged.judged, le-ltb _ _ c.if-history-count.false, passed _ _ c.in_ok-admit.ensures, sym c.if-not-is_valid_move.ensures) (refl, refl)

pub returns-then-count-history : goal.returns-then-count-history
unfolding move_answer move_history move_refusal
returns-then-count-history c =
    rw (sym c.in_ok-judged.ensures.ok, right c.in_ok-judged.judged, le-ltb _ _ c.if-history-count.false, passed _ _ c.in_ok-admit.ensures, sym c.if-not-is_valid_move.ensures, eq-eqb _ _ c.if-count-history.true) (refl, refl)

pub do_move-made-requires : goal.do_move-made-requires
do_move-made-requires c = true-T _ (sym c.if-not-is_valid_move.ensures)

pub entry-requires : goal.entry-requires
unfolding made
entry-requires c =
    let a = c.args in
    let l = in_ranges _ _ (passed _ _ c.in_ok-admit.ensures) in
    (omega (arith, ap (λ (x : Made). x.byte) c.do_move-made.ensures, byte_fits c.in_ok-judged.judged.position (right c.in_ok-judged.judged) a.kind a.card), omega (arith, l.0), omega (arith, l.1))

pub returns : goal.returns
unfolding move_answer move_history move_refusal made
returns c =
    let a = c.args in
    rw (sym c.in_ok-judged.ensures.ok, right c.in_ok-judged.judged, le-ltb _ _ c.if-history-count.false, passed _ _ c.in_ok-admit.ensures, sym c.if-not-is_valid_move.ensures, ne_eqb _ _ c.if-count-history.false)
    (ap {B = Moved} (λ (x : Made). record { refusal = 0; position = x.position; count = a.count + 1; byte = x.byte; turned = x.turned }) c.do_move-made.ensures, ap (set a.history.now a.count) (c.entry.ensures ∙ ap (λ (x : Made). entry x.byte a.kind a.card) c.do_move-made.ensures))
