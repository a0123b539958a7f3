-- `hidden::find_bare` meets its contract.
-- Assumes nothing.
use mathlib.Core.Path.{ap, ◌∙◌}
use Rattle.hidden.specs.PilePlace.{some_below}
use Rattle.rules.specs.Hidden.{bare_pile}
use Rattle.bits.proofs.Searches.{first_ext}
use Rattle.hidden.proofs.Found.{bare_stands}
use Rattle.hidden.proofs.find_bare.Goals as goal

pub returns : goal.returns
unfolding bare_pile
returns c = let a = c.args in c.find_at.ensures ∙ ap (some_below 7) (first_ext 7 _ _ (λ k l. bare_stands a.deal.now a.counts.now a.card k))
