-- `deck_cursor::judge` meets its contract.
-- Assumes nothing.
use Rattle.std.proofs.Common.{refl, sym}
use borrow.Author.Tests.{le-ltb, lt-ltb}
use Rattle.rules.specs.Answers.{cursor_refusal}
use Rattle.deck_cursor.proofs.judge.Goals as goal
use Rattle.deck_cursor.proofs.judge.Goals.{then-c-gt-FULL_DECK-via-then-c-gt-FULL_DECK, then-c-gt-FULL_DECK-via-else-c-gt-FULL_DECK+then-c}

pub returns-then-not-is_step : goal.returns-then-not-is_step
unfolding cursor_refusal
returns-then-not-is_step c = rw (sym c.if-not-is_step.ensures) refl

pub returns-then-c-gt-FULL_DECK : goal.returns-then-c-gt-FULL_DECK
unfolding cursor_refusal
returns-then-c-gt-FULL_DECK c =
    elim c.then-c-gt-FULL_DECK.branch [
      | then-c-gt-FULL_DECK-via-then-c-gt-FULL_DECK w ↦ rw (sym c.if-not-is_step.ensures, lt-ltb 24 _ w.if-c-gt-FULL_DECK.true) refl
      | then-c-gt-FULL_DECK-via-else-c-gt-FULL_DECK+then-c w ↦ rw (sym c.if-not-is_step.ensures, le-ltb 24 _ w.if-c-gt-FULL_DECK.false, lt-ltb c.args.c.len _ w.if-c.true) refl
    ]

pub returns : goal.returns
unfolding cursor_refusal
returns c = rw (sym c.if-not-is_step.ensures, le-ltb 24 _ c.if-c-gt-FULL_DECK.false, le-ltb c.args.c.len _ c.if-c.false) refl
