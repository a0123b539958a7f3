-- `moves::admit` meets its contract.
-- Assumes nothing.
use Rattle.std.proofs.Common.{refl}
use borrow.Author.Tests.{le-leb, lt-leb}
use Rattle.rules.specs.History.{is_kind_and_card}
use Rattle.rules.specs.Results.{passes}
use Rattle.moves.proofs.admit.Goals as goal
use Rattle.moves.proofs.admit.Goals.{then-kind-gt-LAST_KIND-via-then-kind-gt-LAST_KIND, then-kind-gt-LAST_KIND-via-else-kind-gt-LAST_KIND+then-card-gt-LAST_CARD}

pub returns-then-kind-gt-LAST_KIND : goal.returns-then-kind-gt-LAST_KIND
unfolding passes is_kind_and_card
returns-then-kind-gt-LAST_KIND c =
    elim c.then-kind-gt-LAST_KIND.branch [
      | then-kind-gt-LAST_KIND-via-then-kind-gt-LAST_KIND w ↦ rw (lt-leb _ 4 w.if-kind-gt-LAST_KIND.true) refl
      | then-kind-gt-LAST_KIND-via-else-kind-gt-LAST_KIND+then-card-gt-LAST_CARD w ↦ rw (le-leb _ 4 w.if-kind-gt-LAST_KIND.false, lt-leb _ 51 w.if-card-gt-LAST_CARD.true) refl
    ]

pub returns : goal.returns
unfolding passes is_kind_and_card
returns c = rw (le-leb _ _ c.if-kind-gt-LAST_KIND.false, le-leb _ _ c.if-card-gt-LAST_CARD.false) refl
