-- What a deal or a resume answers, by its refusal.
use Rattle.std.specs.Prelude.{ℕ}
use Rattle.rules.specs.declared.Position.{Position}
use Rattle.rules.specs.declared.Started.{Started}
use Rattle.rules.specs.Fields.{blank}
use Rattle.rules.specs.Refusals.{accepted}

-- the position p, unless there is a refusal r: "A fresh deal or resume has no given position and returns the blank one"
abbrev pub started_by : ℕ → Position → Started
started_by r p = accepted r (record { refusal = 0; position = p }) (record { refusal = r; position = blank })
