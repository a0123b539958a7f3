-- The places that the walk has passed over: their cards are in the mask, and none of the walk's places from `end` on was passed.
use Rattle.std.proofs.Common.{◌≡◌, ℕ, ◌<◌, ◌≤◌, ◌-◌, ◌%◌, false}
use Rattle.bits.specs.Bit.{mask_of}
use Rattle.rules.specs.Bits.{any_of}
use Rattle.deck_masks.proofs.Stride.{on, find}
use Rattle.deck_masks.proofs.walk.Given as goal

abbrev pub invariant-loop-i : goal.invariant-loop-i
invariant-loop-i l = record {
  past : l.from ≤ l.i;
  place : (l.i - l.from) % l.step ≡ 0;
  low : l.i ≤ 48;
  seen : l.mask ≡ mask_of 52 (λ c. any_of l.i (find l.deck l.from l.step c));
  rest : (k : ℕ) → l.end ≤ k → k < l.i → on l.from l.step k ≡ false;
}

abbrev pub decreases-loop-i : goal.decreases-loop-i
decreases-loop-i l = l.end - l.i
