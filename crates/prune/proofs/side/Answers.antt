-- `prune::side` meets its contract.
-- Assumes nothing.
use Rattle.std.proofs.Common.{Bool, ◌&&◌, eqb, sym, ap, ◌∙◌}
use Rattle.bits.specs.Bit.{mask_of}
use Rattle.rules.specs.Cards.{suit}
use Rattle.prune.proofs.Least.{side_on, side_off}
use Rattle.prune.proofs.side.Goals as goal

pub returns-then-on : goal.returns-then-on
returns-then-on c = c.suit_mask.ensures ∙ side_on c.args.suit ∙ ap (λ (b : Bool). mask_of 64 (λ k. eqb (suit k) c.args.suit && b)) (sym c.if-on.true)

pub returns-else-on : goal.returns-else-on
returns-else-on c = side_off c.args.suit ∙ ap (λ (b : Bool). mask_of 64 (λ k. eqb (suit k) c.args.suit && b)) (sym c.if-on.false)
