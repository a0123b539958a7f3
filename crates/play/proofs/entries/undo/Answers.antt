-- `play::entries::undo` meets its contract.
-- Assumes nothing.
use Rattle.std.proofs.Common.{sym, ap, ap₂, ◌∙◌, not}
use Rattle.std.specs.Bool.{then_some}
use Rattle.bits.proofs.Tables.{true-T}
use Rattle.rules.specs.declared.Position.{Position}
use Rattle.rules.specs.History.{entry_byte, entry_kind, entry_card}
use Rattle.rules.proofs.UndoLaw.{kept_deal}
use Rattle.rules.proofs.Held.{held}
use Rattle.moves.proofs.Named.{in_ranges}
use Rattle.play.specs.Undone.{leads_to}
use Rattle.play.proofs.Ways.{is_admitted, no_way, not_move, none_is, then_is}
use Rattle.play.proofs.entries.undo.Goals as goal
use Rattle.play.proofs.entries.undo.Goals.{then-is_err-via-then-is_err, then-is_err-via-else-is_err+then-not-has_way}

pub returns-then-is_err : goal.returns-then-is_err
unfolding entry_byte entry_kind entry_card
returns-then-is_err c =
    let p = c.args.p.position in
    let e = c.args.entry in
    elim c.then-is_err.branch [
      | then-is_err-via-then-is_err w ↦ none_is p e (not_move p e (sym (is_admitted c.admit.ensures c.is_err.ensures.value) ∙ ap not w.if-is_err.true))
      | then-is_err-via-else-is_err+then-not-has_way w ↦ none_is p e (no_way p e (held c.args.p _ c.well_formed.0).counts (sym w.if-not-has_way.ensures))
    ]

pub undo_move-q-requires : goal.undo_move-q-requires
undo_move-q-requires c = true-T _ (sym c.if-not-has_way.ensures)

pub leads_to-requires : goal.leads_to-requires
leads_to-requires c =
    let e = c.args.entry in
    let r = in_ranges _ _ (sym (is_admitted c.admit.ensures c.is_err.ensures.value) ∙ ap not c.if-is_err.false) in
    (r.0, r.1, ap (λ (q : Position). q.deal) c.undo_move-q.ensures ∙ kept_deal c.args.p.position _ _ _)

pub returns : goal.returns
unfolding entry_byte entry_kind entry_card
returns c =
    let p = c.args.p.position in
    let e = c.args.entry in
    c.then_some.ensures
    ∙ ap₂ then_some (c.leads_to.ensures ∙ ap (λ (q : Position). leads_to q (entry_byte e) (entry_kind e) (entry_card e) p) c.undo_move-q.ensures) c.undo_move-q.ensures
    ∙ then_is p e (sym (is_admitted c.admit.ensures c.is_err.ensures.value) ∙ ap not c.if-is_err.false)
