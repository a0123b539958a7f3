-- `piles::fill_run` meets its contract.
-- Assumes nothing.
use Rattle.std.proofs.Common.{◌+◌, ℕ, sym, ap, ◌∙◌, subst, arith}
use Rattle.std.proofs.Math.ListN.{set}
use Rattle.bits.specs.Bit.{bit}
use Rattle.piles.proofs.Pairs.{tried_rank}
use Rattle.piles.proofs.Row.{Written, ends_ace, ends_here, goes_on}
use Rattle.piles.proofs.fill_run.Goals as goal
use Rattle.piles.proofs.fill_run.Goals.{then-card-lt-SUITS, else-card-lt-SUITS+then-not-has}

pub has-requires : goal.has-requires
has-requires c =
    let l = c.loop-card in
    omega (arith, c.next_card-card.ensures, tried_rank c.args.vis c.args.free l.card c.if-card-lt-SUITS.false, l.invariant.ranks)

pub loop-card-preserved : goal.loop-card-preserved
loop-card-preserved c =
    let l = c.loop-card in
    let s = c.args in
    let e = c.next_card-card.ensures in
    subst (λ (x : ℕ). Written s.vis s.free s.start (set l.part l.n l.card) x (l.n + 1)) (sym e)
    (goes_on s.vis s.free s.start l.card l.n l.part l.invariant c.if-card-lt-SUITS.false
    (ap (bit s.free) (sym e) ∙ sym c.has.ensures ∙ c.if-not-has.false))

pub returns : goal.returns
returns c =
    let l = c.loop-card in
    let s = c.args in
    elim c.if-card-lt-SUITS.branch [
      | then-card-lt-SUITS w ↦ ends_ace s.vis s.free s.start l.card l.n l.part l.invariant w.if-card-lt-SUITS.true
      | else-card-lt-SUITS+then-not-has w ↦
          ends_here s.vis s.free s.start l.card l.n l.part l.invariant w.if-card-lt-SUITS.false
          (ap (bit s.free) (sym w.next_card-card.ensures) ∙ sym w.has.ensures ∙ w.if-not-has.true)
    ]
