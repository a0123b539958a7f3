-- `play::entries::leads_to` meets its contract.
-- Assumes nothing.
use Rattle.std.proofs.Common.{◌≡◌, sym, ap, ◌∙◌, true, false}
use lib.Dec.{eqb}
use borrow.Author.Tests.{eq-eqb, ne_eqb}
use Rattle.bits.proofs.Tables.{T_true}
use Rattle.rules.specs.declared.Position.{Position}
use Rattle.rules.specs.History.{same_in_deal}
use Rattle.rules.specs.Play.{after, undo_byte}
use Rattle.rules.proofs.Facts.{facts}
use Rattle.facts.proofs.DealKept.{after_deal}
use Rattle.play.specs.declared.Made.{Made}
use Rattle.play.specs.Made.{made}
use Rattle.play.specs.Undone.{leads_to}
use Rattle.play.proofs.Same.{same_is}
use Rattle.play.proofs.entries.leads_to.Goals as goal

pub returns-in_default : goal.returns-in_default
unfolding leads_to
returns-in_default c = rw c.in_default.ensures.err.1

pub returns-then-not-is_valid_move : goal.returns-then-not-is_valid_move
unfolding leads_to
returns-then-not-is_valid_move c = rw (← c.in-Ok.ensures.ok, T_true _ c.in-Ok.q.good, ← c.if-not-is_valid_move.ensures)

pub returns-then-again-byte : goal.returns-then-again-byte
unfolding leads_to made
returns-then-again-byte c =
    let byte : eqb (undo_byte c.in-Ok.q.position c.args.kind c.args.card) c.args.byte ≡ false = ap (λ (x : Made). eqb x.byte c.args.byte) (sym c.do_move-again.ensures) ∙ ne_eqb _ _ c.if-again-byte.true in
    rw (← c.in-Ok.ensures.ok, T_true _ c.in-Ok.q.good, ← c.if-not-is_valid_move.ensures, byte)

pub same_in_deal-requires : goal.same_in_deal-requires
same_in_deal-requires c = (facts c.args.p.position c.args.p.good).left

pub returns : goal.returns
unfolding leads_to made
returns c =
    let q = c.in-Ok.q.position in
    let p = c.args.p.position in
    let m = c.do_move-again.ensures in
    let byte : eqb (undo_byte q c.args.kind c.args.card) c.args.byte ≡ true = ap (λ (x : Made). eqb x.byte c.args.byte) (sym m) ∙ eq-eqb _ _ c.if-again-byte.false in
    let deal : (after q c.args.kind c.args.card).deal ≡ p.deal = after_deal q c.args.kind c.args.card ∙ ap (λ (x : Position). x.deal) c.in-Ok.ensures.ok ∙ c.requires.2 in
    rw (← c.in-Ok.ensures.ok, T_true _ c.in-Ok.q.good, ← c.if-not-is_valid_move.ensures, byte)
    (c.same_in_deal.ensures ∙ ap (λ (x : Made). same_in_deal x.position p) m ∙ sym (same_is (after q c.args.kind c.args.card) p deal))
