-- `hidden_counts::encode` meets its contract.
-- Assumes nothing.
use Rattle.std.proofs.Common.{◌≡◌, ◌∙◌, ◌+◌, ◌-◌, ◌*◌, ◌<◌, ℕ, ◌≤◌, get_or, arith}
use Rattle.rules.specs.Code.{counts_field}
use Rattle.rules.proofs.PileField.{field_from, field_none, field_more, field_whole, from_low}
use Rattle.hidden_counts.proofs.encode.Goals as goal

pub loop-i-init : goal.loop-i-init
loop-i-init c = field_none _

-- the field with the pile that a turn takes in
after : (n : ℕ → ℕ) (i x : ℕ) → ((k : ℕ) → k < 7 → n k ≤ k + 1) → 0 < i → i ≤ 7 → x ≡ field_from n (7 - i) i → x * (i - 1 + 2) + n (i - 1) < 40320
after n i x fit h l e = rw (field_more n i x h l e) (from_low n fit (i - 1) (omega arith))

pub overflow_mul-res : goal.overflow_mul-res
overflow_mul-res c =
    omega (arith, after (λ j. get_or c.args.counts.now j 0) c.loop-i.i c.loop-i.res c.requires (omega arith) (omega arith) c.loop-i.invariant)

pub overflow_add-res-in-loop-i : goal.overflow_add-res-in-loop-i
overflow_add-res-in-loop-i c =
    omega (arith, after (λ j. get_or c.args.counts.now j 0) c.loop-i.i c.loop-i.res c.requires (omega arith) (omega arith) c.loop-i.invariant)

pub loop-i-preserved : goal.loop-i-preserved
loop-i-preserved c = field_more (λ j. get_or c.args.counts.now j 0) c.loop-i.i c.loop-i.res (omega arith) (omega arith) c.loop-i.invariant

pub returns : goal.returns
unfolding counts_field
returns c =
    let e : c.loop-i.i ≡ 0 = omega arith in
    rw e at c.loop-i.invariant ∙ field_whole (λ j. get_or c.args.counts.now j 0)
