-- `card::Card::mask` meets its contract.
-- Assumes nothing.
use Rattle.std.proofs.Common.{arith}
use Rattle.card.proofs.Suits.{none_at}
use Rattle.card.proofs.Card.mask.Goals as goal

pub returns-else-self-lt64 : goal.returns-else-self-lt64
returns-else-self-lt64 c = none_at c.args.self.0 (omega arith)
