-- `deal::fresh` meets its contract.
-- Assumes nothing.
use Rattle.std.proofs.Common.{rules, ◌≡◌, length}
use Rattle.deal.proofs.FreshMade.{whole_fits, fresh_made}
use Rattle.deal.proofs.fresh.Goals as goal

pub head_mask-requires : goal.head_mask-requires
head_mask-requires c = record { cards_fit = c.requires; counts_fit = whole_fits }

pub returns : goal.returns
returns c =
    let l : length c.args.deal ≡ 52 = search rules in
    fresh_made _ _ _ _ l c.stock.ensures c.head_mask.ensures
