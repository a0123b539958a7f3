-- `hidden_counts::decode`: the counts of the piles so far, and what is left of the field.
use Rattle.std.proofs.Common.{◌≡◌, ◌/◌, ◌<◌, ℕ, get_or}
use Rattle.rules.specs.Code.{field_count, radices}
use Rattle.hidden_counts.proofs.decode.Given as goal

abbrev pub invariant-loop-i : goal.invariant-loop-i
invariant-loop-i l = record {
  over : l.rest ≡ l.fn.field / radices l.i;
  digits : (k : ℕ) → k < l.i → get_or l.count-items k 0 ≡ field_count l.fn.field k;
}
