-- The cards written are those of the places passed that the mask has.
use Rattle.std.proofs.Common.{◌≡◌, ◌≤◌, length, take, drop}
use Rattle.rules.specs.Hidden.{CardsFit, cards_from}
use Rattle.proper.specs.Sets.{picked}
use Rattle.proper.proofs.stock.Given as goal

abbrev pub invariant-loop-k : goal.invariant-loop-k
invariant-loop-k l =
    record {
      few : l.n ≤ l.k;
      all : l.all ≡ cards_from l.deal 28 l.k;
      size : length l.cards ≡ 24;
      cards : CardsFit l.deal → take l.n l.cards ≡ picked l.mask (take l.k (take 24 (drop 28 l.deal)));
    }
