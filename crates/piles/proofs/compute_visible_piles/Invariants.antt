-- For a proper position with these fields, what the first i piles show and what the others will is the answer.
use Rattle.std.proofs.Common.{◌≡◌, length}
use Rattle.rules.specs.declared.Position.{Position}
use Rattle.piles.proofs.Reading.{Reads}
use Rattle.piles.proofs.Turn.{Shown}
use Rattle.piles.proofs.compute_visible_piles.Given as goal

abbrev pub invariant-loop-i : goal.invariant-loop-i
invariant-loop-i l =
    record {
      size : length l.out ≡ length l.initial.out;
      seven : length l.lens ≡ 7;
      shown : (p : Position) → Reads p l.deal l.counts l.vis l.free → Shown p l.free l.initial.out l.out l.lens l.from l.i;
    }
