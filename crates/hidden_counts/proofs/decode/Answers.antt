-- `hidden_counts::decode` meets its contract.
-- Assumes nothing.
use Rattle.std.proofs.Common.{◌≡◌, sym, ap, ◌∙◌, ◌+◌, ◌/◌, ◌%◌, ℕ, Some, arith}
use borrow.Author.Count.{below_more}
use borrow.Author.Tests.{lt-ltb}
use native.Mathlib.Nat.{not-suc-le-zero}
use lib.Seq.{get_or-set_same, get_or-set_other}
use Rattle.rules.specs.Code.{field_count}
use Rattle.rules.proofs.PileField.{rest_none, rest_more, table_ext, table_of}
use Rattle.hidden_counts.proofs.decode.Goals as goal

pub loop-i-init : goal.loop-i-init
loop-i-init c = record { over = rest_none c.args.field; digits = λ k l. absurd (not-suc-le-zero l) }

pub loop-i-preserved : goal.loop-i-preserved
loop-i-preserved c =
    let l = c.loop-i in
    let x = c.args.field in
    record {
      over = ap (λ (r : ℕ). r / (l.i + 2)) l.invariant.over ∙ rest_more x l.i;
      digits =
          below_more _ _ (λ k m. get_or-set_other l.count-items l.i k _ 0 (λ e. omega arith) ∙ l.invariant.digits k m)
          (get_or-set_same l.count-items l.i _ 0 (omega arith) ∙ ap (λ (r : ℕ). r % (l.i + 2)) l.invariant.over);
    }

pub returns : goal.returns
returns c =
    let l = c.loop-i in
    let x = c.args.field in
    let e = lt-ltb x 40320 (omega (arith, c.if-field-ge-N_CODES.false)) in
    let z : l.i ≡ 7 = omega arith in
    rw e (ap Some (sym (table_of 7 l.count-items (omega arith)) ∙ table_ext 7 _ (λ i. field_count x i) (rw z at l.invariant.digits)))
