-- What the methods of a card answer, on every byte. Document 01's words are in Cards; these are the source's.
-- Assumes nothing.
use Rattle.std.specs.Prelude.{ℕ, ◌+◌, ◌-◌, ◌/◌, ◌%◌, min, Bool, cond, nat_le, nat_lt, Option, Some, None}
use Rattle.bits.specs.Bit.{bit, first_of}
use Rattle.card.specs.declared.Split.{Split}
use Rattle.card.specs.declared.Card.{Card}
use Rattle.card.specs.Cards.{card_of, rank, suit, lies_on}

-- the number of rank r and suit s: card_of r s, where s is a suit and r is below 64. A suit above 3 carries into the rank, and the rank wraps at 64
unfoldable pub number_of : ℕ → ℕ → ℕ
number_of r s = card_of ((r + s / 4) % 64) (s % 4)

-- the rank and the suit
unfoldable pub split_of : ℕ → Split
split_of c = record { rank = rank c; suit = suit c }

-- "actually this function check if it is king or fake card": a king, or a number above the cards
unfoldable pub king_or_fake : ℕ → Bool
king_or_fake c = nat_le 12 (rank c)

-- the card of the same rank and the other colour: bit 1 of the number is flipped
unfoldable pub twin : ℕ → ℕ
twin c = cond (nat_lt (c % 4) 2) (c + 2) (c - 2)

-- four higher, but no higher than a byte; four lower, but not below 0
unfoldable pub above : ℕ → ℕ
above c = min (c + 4) 255

unfoldable pub below : ℕ → ℕ
below c = c - 4

-- c goes on what lies there: it lies on a card; a king or a fake card goes where nothing lies
unfoldable pub goes_after : ℕ → Option Card → Bool
goes_after c None = king_or_fake c
goes_after c (Some d) = lies_on c d.0

-- the lowest card of a mask, if that is one of the 52
unfoldable pub first_card : ℕ → Option Card
first_card m = cond (nat_lt (first_of 64 (bit m)) 52) (Some (record { 0 = first_of 64 (bit m) })) None
