-- `piles::next_card` meets its contract.
-- Assumes nothing.
use Rattle.std.proofs.Common.{◌≡◌, ◌∙◌, sym, arith}
use Rattle.std.proofs.lemmas.Bool.{false≢true}
use Rattle.rules.specs.Bits.{bit}
use Rattle.rules.specs.Cards.{partner}
use Rattle.piles.specs.Run.{tried_of}
use Rattle.piles.proofs.Pairs.{partner_half}
use Rattle.piles.proofs.next_card.Goals as goal
use Rattle.piles.proofs.next_card.Goals.{then-has_both, else-has_both}

pub has-has_both-requires : goal.has-has_both-requires
has-has_both-requires c = omega (arith, c.swap_suit.ensures, partner_half c.args.card)

pub returns-then-has : goal.returns-then-has
unfolding tried_of
returns-then-has c =
    let e : c.has-has_both.result ≡ bit c.args.vis (partner c.args.card) = rw (← c.swap_suit.ensures) c.has-has_both.ensures in
    elim c.if-has_both.branch [
      | then-has_both w ↦ rw (← e, w.if-has_both.true)
      | else-has_both w ↦ rw (← e, w.if-has_both.false, ← w.has.ensures, ← w.value-is, c.if-has.true)
    ]

pub returns-else-has : goal.returns-else-has
unfolding tried_of
returns-else-has c =
    let e : c.has-has_both.result ≡ bit c.args.vis (partner c.args.card) = rw (← c.swap_suit.ensures) c.has-has_both.ensures in
    elim c.if-has_both.branch [
      | then-has_both w ↦ absurd (false≢true (sym c.if-has.false ∙ w.value-is ∙ w.if-has_both.true))
      | else-has_both w ↦ c.swap_suit-else-has.ensures ∙ rw (← e, w.if-has_both.false, ← w.has.ensures, ← w.value-is, c.if-has.false)
    ]
