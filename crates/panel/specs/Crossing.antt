-- How numbers cross to C and back.
use Rattle.std.specs.Prelude.{Bool, not, ℕ, eqb, get_or}
use Rattle.rules.specs.declared.Moved.{Moved}
use Rattle.rules.specs.declared.TurnedUp.{TurnedUp}
use Rattle.rules.specs.Play.{turned_numbers}
use Rattle.panel.specs.declared.TurnedNumbers.{TurnedNumbers}
use Rattle.panel.specs.declared.MovedNumbers.{MovedNumbers}

-- a yes or no that is given as a byte: 0 is no, every other number yes
abbrev pub asked : ℕ → Bool
asked n = not (eqb n 0)

-- what a move turned up: its case, and its card, 0 where the case has none
abbrev pub numbers_of : TurnedUp → TurnedNumbers
numbers_of t = record { kind = get_or (turned_numbers t) 0 0; card = get_or (turned_numbers t) 1 0 }

-- a move's answer with that in numbers
abbrev pub moved_numbers : Moved → MovedNumbers
moved_numbers m = record { refusal = m.refusal; position = m.position; count = m.count; byte = m.byte; turned = numbers_of m.turned }
