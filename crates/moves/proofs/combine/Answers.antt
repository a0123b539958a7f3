-- What the closure gives for each mask is that of the definition.
use Rattle.std.proofs.Common.{bit_or, rules}
use Rattle.rules.specs.Pruned.{◌∪◌}
use Rattle.rules.specs.Moves.{combined}
use Rattle.rules.proofs.Sets.{or_is}
use Rattle.moves.proofs.Sized.{sized, by_mask}
use Rattle.moves.proofs.combine.Goals as goal

pub returns : goal.returns
unfolding combined
returns c =
    by_mask bit_or (λ x y. x ∪ y) or_is c.args.m c.args.other c.mask_by_mask.result (sized c.args.m _ c.well_formed.0) (sized c.args.other _ c.well_formed.1.0) (search rules, search rules, search rules, search rules, search rules)
