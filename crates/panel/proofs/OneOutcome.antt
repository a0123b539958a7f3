-- "Show that two outcomes allowed by it coincide": a contract that says `r ≡ answer input`, and of what is lent `at exit ≡ lent input`, allows one
-- outcome. One law serves every public call.
-- Assumes nothing.
use mathlib.Core.Path.{sym, ◌∙◌}
use Rattle.panel.specs.Firm.{OneOutcome}

pub one_outcome : OneOutcome
one_outcome i x y h k = λ j. ((h.0 ∙ sym k.0) j, (h.1 ∙ sym k.1) j)
