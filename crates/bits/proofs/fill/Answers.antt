-- `bits::fill` meets its contract.
-- Assumes nothing.
use Rattle.std.proofs.Common.{◌≡◌, ℕ, ◌+◌, ◌-◌, ◌^◌, ◌<◌, List, set, sym, ap, ◌∙◌, add-one, arith}
use Rattle.std.proofs.lemmas.List.Edits.{sets}
use lib.Bits.{bit_and}
use lib.Count.{count_trailing_zeros}
use Rattle.bits.specs.Bit.{bit, count_of, list_of}
use Rattle.bits.proofs.Counts.{list_step, list_none, count_step, count_zero}
use Rattle.bits.proofs.fill.Goals as goal

pub bounds-out-i : goal.bounds-out-i
bounds-out-i c =
    let e = count_step 64 c.loop-rest.rest (omega arith) (omega arith) in
    omega arith

-- one turn
turn : (base : ℕ) (out : List ℕ) (rest i : ℕ) → 0 < rest → rest < 2 ^ 64 →
    sets (set out i (base + count_trailing_zeros 64 rest)) (i + 1) (list_of 64 base (bit (bit_and rest (rest - 1)))) ≡ sets out i (list_of 64 base (bit rest))
turn base out rest i p h = rw (list_step 64 base rest p h, add-one)

pub loop-rest-preserved : goal.loop-rest-preserved
loop-rest-preserved c =
    let l = c.loop-rest in
    let e = count_step 64 l.rest (omega arith) (omega arith) in
    record { left = omega arith; gives = turn c.args.base l.out l.rest l.i (omega arith) (omega arith) ∙ l.invariant.gives }

pub returns : goal.returns
returns c =
    let l = c.loop-rest in
    let e : l.rest ≡ 0 = omega arith in
    (omega (arith, ap (λ (x : ℕ). count_of 64 (bit x)) e, count_zero 64), sym (ap (λ (x : ℕ). sets l.out l.i (list_of 64 c.args.base (bit x))) e ∙ ap (sets l.out l.i) (list_none 64 c.args.base)) ∙ l.invariant.gives)
