-- The mask is that of the places passed, and each slot so far is that of its place.
use Rattle.std.proofs.Common.{◌≡◌, ℕ, ◌≤◌, length, get_or}
use Rattle.rules.specs.Hidden.{cards_from}
use Rattle.proper.proofs.running.Given as goal

abbrev pub invariant-loop-k : goal.invariant-loop-k
invariant-loop-k l =
    record {
      mask : l.mask ≡ cards_from l.deal 0 l.k;
      size : length l.run ≡ 29;
      slots : (j : ℕ) → j ≤ l.k → get_or l.run j 0 ≡ cards_from l.deal 0 j;
    }
