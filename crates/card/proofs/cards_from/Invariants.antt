-- `card::cards_from`: the mask has the cards so far.
use Rattle.std.proofs.Common.{◌≡◌}
use Rattle.card.specs.Cards.{cards_from}
use Rattle.card.proofs.cards_from.Given as goal

abbrev pub invariant-loop-card : goal.invariant-loop-card
invariant-loop-card l = l.mask ≡ cards_from l.fn.cards l.fn.start l.card-index
