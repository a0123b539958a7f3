-- The walk's places are `step` apart, so what lies between two of them adds no card.
use Rattle.std.proofs.Common.{◌≡◌, ℕ, ◌<◌, ◌≤◌, ◌+◌, ◌-◌, ◌%◌, Bool, false, ◌&&◌, List, eqb, get_or, bit_or, sym, ap, ap₂, ◌∙◌, arith}
use mathlib.Core.Bool.{and-false}
use native.Mathlib.Nat.{sub_self, zero-mod}
use borrow.Author.Tests.{lt-leb}
use Rattle.bits.specs.Bit.{mask_of}
use Rattle.bits.proofs.Laws.{mask_ext}
use Rattle.rules.specs.Bits.{any_of}
use Rattle.rules.proofs.Collect.{none_yet, any_gap}
use Rattle.deck_masks.proofs.Stride.{on, next, between, find, turn}
use Rattle.deck_masks.proofs.walk.Goals as goal

off : (from step k : ℕ) → k < from → on from step k ≡ false
off from step k l = ap (λ (b : Bool). b && eqb ((k - from) % step) 0) (lt-leb from k l)

-- nothing at places that the walk passes over
dry : (d : List ℕ) (from step c k : ℕ) → on from step k ≡ false → find d from step c k ≡ false
unfolding find
dry d from step c k e = ap (λ (b : Bool). eqb (get_or d k 0) c && b) e ∙ and-false (eqb (get_or d k 0) c)

start : (d : List ℕ) (from step : ℕ) → 0 ≡ mask_of 52 (λ c. any_of from (find d from step c))
start d from step =
    none_yet (find d from step)
    ∙ mask_ext 52 (λ c. any_of 0 (find d from step c)) (λ c. any_of from (find d from step c))
    (λ c l. sym (ap (λ (n : ℕ). any_of n (find d from step c)) (omega arith) ∙ any_gap 0 from (find d from step c) (λ k a b. dry d from step c k (off from step k (omega arith)))))

stop : (d : List ℕ) (from step end i : ℕ) → end ≤ i → ((k : ℕ) → end ≤ k → k < i → on from step k ≡ false) → mask_of 52 (λ c. any_of i (find d from step c)) ≡ mask_of 52 (λ c. any_of end (find d from step c))
stop d from step end i h r =
    mask_ext 52 (λ c. any_of i (find d from step c)) (λ c. any_of end (find d from step c))
    (λ c l. ap (λ (n : ℕ). any_of n (find d from step c)) e ∙ any_gap end (i - end) (find d from step c) (λ k a b. dry d from step c k (r k a (omega arith))))
  where
    e : i ≡ end + (i - end)
    e = omega arith

pub loop-i-init : goal.loop-i-init
loop-i-init c =
    let a = c.args in
    record {
      past = omega arith;
      place = ap (λ (n : ℕ). n % a.step) (sub_self a.from) ∙ zero-mod a.step;
      low = omega arith;
      seen = start a.deck a.from a.step;
      rest = λ k h l. off a.from a.step k l;
    }

pub loop-i-preserved : goal.loop-i-preserved
loop-i-preserved c =
    let l = c.loop-i in
    let a = c.args in
    let pre = c.requires in
    record {
      past = omega arith;
      place = next a.from a.step l.i l.invariant.past l.invariant.place;
      low = omega arith;
      seen = ap₂ bit_or l.invariant.seen c.card_mask-mask.ensures ∙ turn a.deck a.from a.step l.i pre.0 l.invariant.past l.invariant.place (pre.4 l.i c.loop-i-test.true);
      rest = λ k h m. between a.from a.step l.i k l.invariant.past l.invariant.place (omega arith) m;
    }

pub returns : goal.returns
unfolding find
returns c =
    let l = c.loop-i in
    let a = c.args in
    l.invariant.seen ∙ stop a.deck a.from a.step a.end l.i c.loop-i-test.false l.invariant.rest
