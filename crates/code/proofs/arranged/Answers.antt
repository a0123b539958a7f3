-- `code::arranged` meets its contract.
-- Assumes nothing.
use Rattle.std.proofs.Common.{◌≡◌, refl, sym, ap, ap₂, ◌∙◌, ℕ, ◌+◌, Bool, true, false, ◌&&◌, ltb}
use mathlib.Core.Bool.{and-false}
use native.Mathlib.Omega.{arith}
use lib.Dec.{leb}
use lib.ListN.{get_or}
use borrow.Author.Tests.{eq-eqb, ne_eqb, le-leb, lt-leb, not-true, not-false}
use Rattle.bits.specs.Bit.{bit}
use Rattle.bits.proofs.Searches.{and_both, count_le}
use Rattle.rules.specs.declared.Position.{Position}
use Rattle.rules.specs.declared.Refusal.TheVariants.{Overlapping, Unarranged}
use Rattle.rules.specs.Proper.{pair_rule, seven_rule}
use Rattle.rules.specs.Fields.{with_visible}
use Rattle.rules.specs.Answers.{overlaps}
use Rattle.code.specs.declared.Sets.{Sets}
use Rattle.code.specs.Resuming.{sets_of, worked, arrange_answer}
use Rattle.deal.proofs.Answered.{refused_is, started_is}
use Rattle.code.proofs.Arranging.{free_of, meets_of, visible_is, meets_is, pairs_is, seven_is, arrange_tests}
use Rattle.code.proofs.arranged.Goals as goal

-- the sets that were gathered meet just where cards overlap
module _ (p : Position) (s : Sets) (e : s ≡ sets_of p) where
  apart : meets_of s ≡ 0 → overlaps (worked p) ≡ false
  apart h = not-true _ (sym (meets_is p s e) ∙ eq-eqb _ 0 h)

  together : (meets_of s ≡ 0 → ⊥) → overlaps (worked p) ≡ true
  together h = not-false _ (sym (meets_is p s e) ∙ ne_eqb _ 0 h)

pub returns-then-s-ne0 : goal.returns-then-s-ne0
unfolding arrange_answer
returns-then-s-ne0 c =
    let p = c.args.p in
    refused_is Overlapping _ _ (arrange_tests (worked p) true _ (together p _ c.sets_of-s.ensures c.if-s-ne0.true) refl)

pub returns-then-not-pair_rule : goal.returns-then-not-pair_rule
unfolding arrange_answer
returns-then-not-pair_rule c =
    let p = c.args.p in
    let e = c.sets_of-s.ensures in
    let broken : pair_rule (worked p) ≡ false = sym (c.if-not-pair_rule.ensures ∙ pairs_is p _ e) in
    refused_is Unarranged _ _ (arrange_tests (worked p) false false (apart p _ e c.if-s-ne0.false) (ap (λ (b : Bool). b && seven_rule (worked p)) broken))

pub overflow_add-count_heads : goal.overflow_add-count_heads
overflow_add-count_heads c =
    let f = free_of c.sets_of-s.result in
    omega (arith, c.count_heads.ensures, c.kings.ensures, count_le 7 (λ i. ltb 0 (get_or c.args.p.counts i 0)), count_le 4 (λ k. bit f (48 + k)))

pub returns-then-count_heads-kings-gt-N_COLUMNS : goal.returns-then-count_heads-kings-gt-N_COLUMNS
unfolding arrange_answer
returns-then-count_heads-kings-gt-N_COLUMNS c =
    let p = c.args.p in
    let e = c.sets_of-s.ensures in
    let seven = ap₂ (λ (a b : ℕ). leb (a + b) 7) c.count_heads.ensures c.kings.ensures ∙ seven_is p _ e in
    let broken : seven_rule (worked p) ≡ false = sym seven ∙ lt-leb _ 7 c.if-count_heads-kings-gt-N_COLUMNS.true in
    refused_is Unarranged _ _ (arrange_tests (worked p) false false (apart p _ e c.if-s-ne0.false) (ap (λ (b : Bool). pair_rule (worked p) && b) broken ∙ and-false (pair_rule (worked p))))

pub returns : goal.returns
unfolding arrange_answer
returns c =
    let p = c.args.p in
    let e = c.sets_of-s.ensures in
    let seven = ap₂ (λ (a b : ℕ). leb (a + b) 7) c.count_heads.ensures c.kings.ensures ∙ seven_is p _ e in
    started_is _ (worked p) _
    (arrange_tests (worked p) false true (apart p _ e c.if-s-ne0.false) (and_both _ _ (sym (c.if-not-pair_rule.ensures ∙ pairs_is p _ e)) (sym seven ∙ le-leb _ 7 c.if-count_heads-kings-gt-N_COLUMNS.false)))
    (ap (with_visible p) (visible_is p _ e))
