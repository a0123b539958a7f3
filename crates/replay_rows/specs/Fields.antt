-- The fields of a position by their numbers.
use Rattle.std.specs.Prelude.{ℕ}
use Rattle.replay_rows.specs.declared.set.Field.{Field}
use Rattle.replay_rows.specs.declared.set.Field.TheVariants.{Deal, Step, Counts, Heights, Deck, Left, Offset, Visible}

abbrev pub number : Field → ℕ
number Deal = 0
number Step = 1
number Counts = 2
number Heights = 3
number Deck = 4
number Left = 5
number Offset = 6
number Visible = 7
