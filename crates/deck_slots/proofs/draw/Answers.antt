-- The cards in front of the place, and those behind it copied after them.
use Rattle.std.proofs.Common.{List, ℕ, ◌+◌, ◌-◌, ◌++◌, ap, ◌∙◌, take, drop, arith}
use Rattle.std.proofs.Math.Seq.{paste, length-take-le}
use Rattle.rules.specs.Play.{slots}
use Rattle.deck_slots.proofs.Slots.{copied, behind}
use Rattle.deck_slots.proofs.draw.Goals as goal

pub returns : goal.returns
returns c =
    let a = c.args in
    let after : ℕ = a.place + 1 in
    let n : ℕ = a.left - after in
    c.copy.ensures ∙ ap (λ (s : List ℕ). paste s a.place (drop after a.deck) n) c.cards-out.ensures
    ∙ copied (take a.place a.deck) a.deck after a.place n (length-take-le a.place a.deck (omega arith)) (omega arith) (omega arith)
    ∙ ap (λ (r : List ℕ). slots (take a.place a.deck ++ r)) (behind a.deck after a.left (omega arith) (omega arith))
