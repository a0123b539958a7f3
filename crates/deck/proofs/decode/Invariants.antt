-- The cards of the places that were read stand in front, in deal order.
use Rattle.std.proofs.Common.{◌≡◌}
use Rattle.bits.specs.Bit.{bit, count_of}
use Rattle.deck_slots.proofs.Slots.{filled}
use Rattle.deck.proofs.Fields.{placed}
use Rattle.deck.proofs.decode.Given as goal

abbrev pub invariant-loop-k : goal.invariant-loop-k
invariant-loop-k l = (l.left ≡ count_of l.k (bit l.field)) × (l.deck ≡ filled (placed l.fn.deal (bit l.field)) l.left)
