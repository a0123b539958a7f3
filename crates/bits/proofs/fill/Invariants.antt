-- `bits::fill`: what is left to write, written from `i` on, gives what is to be given.
use Rattle.std.proofs.Common.{◌≡◌, ◌+◌}
use Rattle.std.proofs.lemmas.List.Edits.{sets}
use Rattle.bits.specs.Bit.{bit, count_of, list_of}
use Rattle.bits.proofs.fill.Given as goal

abbrev pub invariant-loop-rest : goal.invariant-loop-rest
invariant-loop-rest l = record {
  left : l.i + count_of 64 (bit l.rest) ≡ l.fn.at + count_of 64 (bit l.fn.m);
  gives : sets l.out l.i (list_of 64 l.fn.base (bit l.rest)) ≡ sets l.initial.out l.fn.at (list_of 64 l.fn.base (bit l.fn.m));
}

abbrev pub decreases-loop-rest : goal.decreases-loop-rest
decreases-loop-rest l = l.rest
