-- Document 01, "Cards and masks".
use Rattle.std.specs.Prelude.{ℕ, ◌+◌, ◌-◌, ◌*◌, ◌/◌, ◌%◌, Bool, cond, List, ◌==◌, nat_eq, slice_index}
use Rattle.bits.specs.Bit.{mask_of, any_of}

-- "with 2 of the suit flipped on odd ranks"
unfoldable pub flipped : ℕ → ℕ → ℕ
flipped r s = cond (r % 2 == 1) ((s + 2) % 4) s

-- "Card number = 4·rank + suit, with 2 of the suit flipped on odd ranks"
unfoldable pub card_of : ℕ → ℕ → ℕ
card_of r s = 4 * r + flipped r s

-- the rank and the suit of a card number
unfoldable pub rank : ℕ → ℕ
rank c = c / 4

unfoldable pub suit : ℕ → ℕ
suit c = flipped (rank c) (c % 4)

-- "Suits 0 and 1 are one colour": the colour, 0 or 1, of a suit
unfoldable pub colour : ℕ → ℕ
colour s = s / 2

-- "Numbers 2k and 2k+1 are a pair": the pair k of a card, and the other card of it
unfoldable pub pair : ℕ → ℕ
pair c = c / 2

unfoldable pub partner : ℕ → ℕ
partner c = cond (c % 2 == 0) (c + 1) (c - 1)

-- the pair four higher than pair k: cards 2k + 4 and 2k + 5
unfoldable pub higher : ℕ → ℕ
higher k = k + 2

-- "A card lies on either card of the pair four higher, and on no other card": c lies on d
unfoldable pub lies_on : ℕ → ℕ → Bool
lies_on c d = pair d == higher (pair c)

-- a card of rank 12
unfoldable pub is_king : ℕ → Bool
is_king c = rank c == 12

-- "The four suit masks, two colour masks": every bit of 64 whose number has that suit, that colour
unfoldable pub suit_mask : ℕ → ℕ
suit_mask s = mask_of 64 (λ c. nat_eq (suit c) s)

unfoldable pub colour_mask : ℕ → ℕ
colour_mask k = mask_of 64 (λ c. nat_eq (colour (suit c)) k)

-- "seven pile starts": "Pile i (0 to 6) takes i+1 cards from its start", so 0, 1, 3, 6, 10, 15, 21
unfoldable pub pile_start : ℕ → ℕ
pile_start i = i * (i + 1) / 2

-- the cards at the k places of d from s on, each byte taken modulo 64
unfoldable pub cards_from : List ℕ → ℕ → ℕ → ℕ
cards_from d s k = mask_of 64 (λ c. any_of k (λ j. nat_eq (slice_index d (s + j) % 64) c))
