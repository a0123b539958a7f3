-- `hidden_counts::encode`: the field of the piles from i on.
use Rattle.std.proofs.Common.{◌≡◌, ◌-◌, get_or}
use Rattle.rules.proofs.PileField.{field_from}
use Rattle.hidden_counts.proofs.encode.Given as goal

abbrev pub invariant-loop-i : goal.invariant-loop-i
invariant-loop-i l = l.res ≡ field_from (λ j. get_or l.counts j 0) (7 - l.i) l.i
