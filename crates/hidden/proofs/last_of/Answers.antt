-- `hidden::last_of` meets its contract.
-- Assumes nothing.
use Rattle.std.proofs.Common.{arith}
use Rattle.hidden_masks.proofs.Collected.{in_deal}
use Rattle.hidden.proofs.last_of.Goals as goal

pub bounds-deal-at : goal.bounds-deal-at
bounds-deal-at c = omega (arith, in_deal c.args.pile c.args.n c.pile_start.result (omega arith) (omega arith) c.pile_start.ensures)
