-- `hidden::find_at`: no pile so far has the card there.
use Rattle.std.proofs.Common.{◌≡◌, ◌<◌, ℕ, true}
use Rattle.hidden.specs.PilePlace.{stands_at}
use Rattle.hidden.proofs.find_at.Given as goal

abbrev pub invariant-loop-i : goal.invariant-loop-i
invariant-loop-i l = (k : ℕ) → k < l.i → stands_at l.deal l.counts l.up l.card k ≡ true → ⊥
