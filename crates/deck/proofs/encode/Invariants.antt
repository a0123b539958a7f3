-- The field has the places from k on, the place k lowest.
use Rattle.std.proofs.Common.{◌≡◌, ◌-◌, ◌+◌, get_or}
use Rattle.bits.specs.Bit.{bit, mask_of}
use Rattle.deck.proofs.encode.Given as goal

abbrev pub invariant-loop-k : goal.invariant-loop-k
invariant-loop-k l = l.field ≡ mask_of (24 - l.k) (λ j. bit l.left (get_or l.fn.p.position.deal (28 + (l.k + j)) 0))
