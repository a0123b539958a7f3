-- How many cards of a pair are in a mask. The cards 2 * k and 2 * k + 1 are the pair k.
-- Assumes nothing.
use Rattle.std.specs.Prelude.{Bool, ◌&&◌, ℕ, ◌+◌, ◌-◌, ◌*◌, leb}
use Rattle.bits.specs.Bit.{num}

-- how many cards of the pair k are in f
abbrev pub pair_of : (ℕ → Bool) → ℕ → ℕ
pair_of f k = num (f (2 * k)) + num (f (2 * k + 1))

-- f, four cards lower: none for the four lowest cards
abbrev pub lower : (ℕ → Bool) → ℕ → Bool
lower f c = leb 4 c && f (c - 4)
