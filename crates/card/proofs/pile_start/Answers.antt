-- `card::pile_start` meets its contract: the table is the rule at each of its entries, by one test that antt computes.
-- Assumes nothing.
use Rattle.std.proofs.Common.{ℕ, List, [], ◌∷◌, arith}
use Rattle.card.specs.Cards.{pile_start}
use Rattle.bits.proofs.Tables.{entries}
use Rattle.card.proofs.pile_start.Goals as goal

values : List ℕ
values = 0 ∷ 1 ∷ 3 ∷ 6 ∷ 10 ∷ 15 ∷ 21 ∷ []

pub returns : goal.returns
unfolding values pile_start
returns c = entries values pile_start tt c.args.pile (omega arith)
