-- What the closure gives for each mask is that of the definition.
use Rattle.std.proofs.Common.{◌^◌, bit_and, ◌-◌, rules}
use Rattle.rules.specs.Pruned.{◌∖◌}
use Rattle.rules.specs.Moves.{filtered}
use Rattle.rules.proofs.Sets.{minus_is}
use Rattle.moves.proofs.Sized.{sized, by_mask}
use Rattle.moves.proofs.filter.Goals as goal

pub returns : goal.returns
unfolding filtered
returns c =
    by_mask (λ x y. bit_and x ((2 ^ 64 - 1) - y)) (λ x y. x ∖ y) minus_is c.args.m c.args.remove c.mask_by_mask.result (sized c.args.m _ c.well_formed.0) (sized c.args.remove _ c.well_formed.1.0) (search rules, search rules, search rules, search rules, search rules)
