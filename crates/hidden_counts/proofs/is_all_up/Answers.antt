-- `hidden_counts::is_all_up` meets its contract.
-- Assumes nothing.
use Rattle.std.proofs.Common.{leb, arith, rules, tests}
use Rattle.std.proofs.lemmas.Iterator.{YieldsList-from_slice}
use Rattle.std.proofs.lemmas.Iterator.Search.{all_from_yields_List}
use Rattle.hidden_counts.proofs.Counted.{all_up_list}
use Rattle.hidden_counts.proofs.is_all_up.Goals as goal

pub returns : goal.returns
returns c =
    all_up_list c.args.counts.now _ (omega arith)
    (all_from_yields_List (λ x. leb x 1) _ _ _ c.all.ensures.ran (YieldsList-from_slice c.args.counts.now cc) (λ x b q k. search (rules, tests)))
