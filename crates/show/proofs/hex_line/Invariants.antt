-- What is left of the line, written from place `i` of it on, gives what is to be given.
use Rattle.std.proofs.Common.{◌≡◌, ◌+◌, ◌-◌, [], ◌∷◌, ◌++◌, length}
use Rattle.std.proofs.lemmas.List.Edits.{sets}
use Rattle.rules.specs.Show.{digits, hex_line}
use Rattle.show.proofs.hex_line.Given as goal

abbrev pub invariant-loop-i : goal.invariant-loop-i
invariant-loop-i l = (length l.out ≡ length l.initial.out) × (sets l.out (l.at + l.i) (digits (16 - l.i) l.x ++ (10 ∷ [])) ≡ sets l.initial.out l.at (hex_line l.x))
