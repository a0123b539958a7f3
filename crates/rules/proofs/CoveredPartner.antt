-- "Treating a partner covered by a run as stuck. The run may move to the uncovered partner": a position that tells the two readings apart, by computation.
-- Both kings 48 and 49 are visible, and the queen 44 lies on one of them: either king may go up.
-- Assumes nothing.
use mathlib.Core.Bool.{false}
use mathlib.Core.Path.{◌≡◌, refl}
use Rattle.rules.specs.Answers.{masks_answer}
use Rattle.rules.specs.Worked.{resume}
use Rattle.rules.proofs.Open.{rules}

pub covered_partner : (masks_answer false (resume 0xDBCC).position).masks.pile_stack ≡ 0x0003100000000000
unfolding rules
covered_partner = refl
