-- What the move makes has the position and the byte; the card that it turned up is left out.
use Rattle.std.proofs.Common.{ap}
use Rattle.play.specs.declared.Made.{Made}
use Rattle.play.specs.Made.{made}
use Rattle.inside.specs.declared.Step.{Step}
use Rattle.inside.proofs.inside_do_move.Goals as goal

pub returns : goal.returns
unfolding made
returns c = ap {B = Step} (λ (m : Made). record { position = m.position; byte = m.byte }) c.do_move-made.ensures
