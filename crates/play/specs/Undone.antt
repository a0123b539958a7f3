-- What going back over an entry gives.
use Rattle.std.specs.Prelude.{Bool, ◌&&◌, cond, ℕ, eqb, Option, Some, None}
use Rattle.rules.specs.declared.Position.{Position}
use Rattle.rules.specs.Legal.{legal}
use Rattle.rules.specs.Play.{after, undo_byte}
use Rattle.rules.specs.Proper.{proper}
use Rattle.rules.specs.History.{same_position, step_back, undoable}

-- q is a proper position from which a legal move of this kind and card writes the byte and leads to p
unfoldable pub leads_to : Position → ℕ → ℕ → ℕ → Position → Bool
leads_to q byte kind c p = proper q && legal q kind c && eqb (undo_byte q kind c) byte && same_position (after q kind c) p

-- refusal 15's answer: the position before, or none
unfoldable pub undone : Position → ℕ → Option Position
undone p e = cond (undoable p e) (Some (step_back p e)) None
