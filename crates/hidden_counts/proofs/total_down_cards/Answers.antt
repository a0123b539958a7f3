-- `hidden_counts::total_down_cards` meets its contract.
-- Assumes nothing.
use Rattle.std.proofs.Common.{◌∙◌, ◌-◌, arith, rules, tests, of_calls}
use Rattle.std.proofs.lemmas.Iterator.{YieldsList-from_slice, YieldsList-from_map}
use Rattle.std.proofs.lemmas.Iterator.Consumers.{YieldsList-at, fits_by_from_yields_list, sum_by_from_yields_List}
use Rattle.hidden_counts.proofs.Counted.{down_list, down_few}
use Rattle.hidden_counts.proofs.total_down_cards.Goals as goal

pub sum-requires : goal.sum-requires
sum-requires c =
    let n = c.args.counts.now in
    let e = down_list n (omega arith) in
    let h = down_few n c.requires in
    record {
      can = search of_calls;
      finite = search of_calls;
      fits =
          fits_by_from_yields_list (λ x. x - 1) n c.map.result 256
          (YieldsList-from_map _ (λ x. x - 1) (YieldsList-at c.map.ensures.source (YieldsList-from_slice n cc)) c.map.ensures.closure (λ x r q k. search (rules, tests)))
          (omega arith);
    }

pub returns : goal.returns
returns c =
    let n = c.args.counts.now in
    sum_by_from_yields_List (λ x. x - 1) n c.map.result c.sum.result c.sum.ensures.ran
    (YieldsList-from_map _ (λ x. x - 1) (YieldsList-at c.map.ensures.source (YieldsList-from_slice n cc)) c.map.ensures.closure (λ x r q k. search (rules, tests))) ∙ down_list n (omega arith)
