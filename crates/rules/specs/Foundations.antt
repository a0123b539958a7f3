-- The foundations by their four heights alone. Document 01, "four foundation heights 0 to 13" and "The save code"; source 003.
use Rattle.std.specs.Prelude.{Bool, List, ℕ, ◌+◌, ◌-◌, ◌*◌, ◌^◌, min, eqb, ltb, leb, get_or, set}
use Rattle.rules.specs.Bits.{all_of}
use Rattle.rules.specs.Cards.{rank, suit}

-- the card is on its foundation
unfoldable pub stacked_on : List ℕ → ℕ → Bool
stacked_on heights c = ltb (rank c) (get_or heights (suit c) 0)

-- the foundation of suit s one higher; one lower, and a foundation of height 0 stays
unfoldable pub raised_on : List ℕ → ℕ → List ℕ
raised_on heights s = set heights s (get_or heights s 0 + 1)

unfoldable pub lowered_on : List ℕ → ℕ → List ℕ
lowered_on heights s = set heights s (get_or heights s 0 - 1)

-- the same in bytes: one higher, and the highest byte stays
unfoldable pub pushed_on : List ℕ → ℕ → List ℕ
pushed_on heights s = set heights s (min (get_or heights s 0 + 1) 255)

-- "heights 0 to 13"
unfoldable pub valid_on : List ℕ → Bool
valid_on heights = all_of 4 (λ s. leb (get_or heights s 0) 13)

-- every foundation is full; every foundation is empty
unfoldable pub full_on : List ℕ → Bool
full_on heights = all_of 4 (λ s. eqb (get_or heights s 0) 13)

unfoldable pub empty_on : List ℕ → Bool
empty_on heights = all_of 4 (λ s. eqb (get_or heights s 0) 0)

-- how many cards are on the foundations
unfoldable pub cards_on : List ℕ → ℕ
cards_on heights = get_or heights 0 0 + get_or heights 1 0 + get_or heights 2 0 + get_or heights 3 0

-- "Bits 0-15: four foundation heights, suit 0 lowest"
unfoldable pub field_on : List ℕ → ℕ
field_on heights = get_or heights 0 0 + 2 ^ 4 * get_or heights 1 0 + 2 ^ 8 * get_or heights 2 0 + 2 ^ 12 * get_or heights 3 0
