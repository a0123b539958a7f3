-- `hidden::find_head` meets its contract.
-- Assumes nothing.
use mathlib.Core.Path.{ap, ◌∙◌}
use Rattle.hidden.specs.PilePlace.{some_below}
use Rattle.rules.specs.Hidden.{head_pile}
use Rattle.bits.proofs.Searches.{first_ext}
use Rattle.hidden.proofs.Found.{head_stands}
use Rattle.hidden.proofs.find_head.Goals as goal

pub returns : goal.returns
unfolding head_pile
returns c = let a = c.args in c.find_at.ensures ∙ ap (some_below 7) (first_ext 7 _ _ (λ k l. head_stands a.deal.now a.counts.now c.requires a.card k l))
