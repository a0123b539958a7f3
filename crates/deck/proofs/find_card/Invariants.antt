-- The deal is gone through with the cards left beside it, and the card was not met yet.
use Rattle.std.proofs.Common.{◌≡◌, ℕ, ◌+◌, ◌<◌, get_or}
use Rattle.deck.proofs.Passing.{Walk}
use Rattle.deck.proofs.find_card.Given as goal

abbrev pub invariant-loop-c : goal.invariant-loop-c
invariant-loop-c l = record {
  walk : Walk l.fn.p.position.deal l.fn.p.position.deck l.fn.p.position.left l.c-index l.at;
  not_yet : (j : ℕ) → j < l.c-index → get_or l.fn.p.position.deal (28 + j) 0 ≡ l.fn.card → ⊥;
}
