-- `proper::numbers_right` meets its contract.
-- Assumes nothing.
use Rattle.std.proofs.Common.{◌≡◌, Bool, true, false, ◌&&◌, leb, ltb, ◌^◌, ◌+◌, refl, sym, ap, ◌∙◌, arith}
use borrow.Author.Tests.{leb-true, ltb-true, le-leb, lt-ltb}
use Rattle.bits.proofs.Tables.{same_test}
use Rattle.rules.specs.declared.Position.{Position}
use Rattle.rules.specs.Bits.{all_of}
use Rattle.rules.specs.Places.{count, height}
use Rattle.rules.specs.Foundations.{valid_on}
use Rattle.rules.specs.Proper.{step_right, numbers_right}
use Rattle.proper.proofs.numbers_right.Goals as goal
use Rattle.proper.proofs.numbers_right.Goals.{Joined-p-le-FULL_DECK, then-is_step, else-is_step, then-counts_right, else-counts_right, then-is_valid, else-is_valid, then-p-le-FULL_DECK, else-p-le-FULL_DECK}

abbrev counts : Position → Bool
counts p = all_of 7 (λ i. leb (count p i) (i + 1))

abbrev heights : Position → Bool
heights p = all_of 4 (λ s. leb (height p s) 13)

-- the tests before the last
before : (c : Joined-p-le-FULL_DECK) → c.if-p-le-FULL_DECK.value ≡ ((((step_right c.args.p.step && counts c.args.p) && heights c.args.p) && leb c.args.p.left 24) && leb c.args.p.offset c.args.p.left)
unfolding valid_on
before c =
    let p = c.args.p in
    let v1 : c.if-is_step.value ≡ (step_right p.step && counts p) =
    elim c.if-is_step.branch [
      | then-is_step w ↦ w.value-is ∙ w.counts_right.ensures ∙ rw (← c.is_step.ensures, w.if-is_step.true)
      | else-is_step w ↦ w.value-is ∙ w.if-is_step.false ∙ rw (← c.is_step.ensures, w.if-is_step.false)
    ] in
    let v2 : c.if-counts_right.value ≡ ((step_right p.step && counts p) && heights p) =
    elim c.if-counts_right.branch [
      | then-counts_right w ↦ w.value-is ∙ w.is_valid.ensures ∙ rw (← v1, w.if-counts_right.true)
      | else-counts_right w ↦ w.value-is ∙ w.if-counts_right.false ∙ rw (← v1, w.if-counts_right.false)
    ] in
    let v3 : c.if-is_valid.value ≡ (((step_right p.step && counts p) && heights p) && leb p.left 24) =
    elim c.if-is_valid.branch [
      | then-is_valid w ↦ w.value-is ∙ rw (← v2, w.if-is_valid.true)
      | else-is_valid w ↦ w.value-is ∙ w.if-is_valid.false ∙ rw (← v2, w.if-is_valid.false)
    ] in
    elim c.if-p-le-FULL_DECK.branch [
      | then-p-le-FULL_DECK w ↦ w.value-is ∙ rw (← v3, w.if-p-le-FULL_DECK.true)
      | else-p-le-FULL_DECK w ↦ w.value-is ∙ w.if-p-le-FULL_DECK.false ∙ rw (← v3, w.if-p-le-FULL_DECK.false)
    ]

-- all the tests
chain : (a b c d e f : Bool) → (((((a && b) && c) && d) && e) && f) ≡ (a && b && c && d && e && f)
chain true true true true e f = refl
chain true true true false e f = refl
chain true true false d e f = refl
chain true false c d e f = refl
chain false b c d e f = refl

all : (p : Position) (v : Bool) → v ≡ ((((step_right p.step && counts p) && heights p) && leb p.left 24) && leb p.offset p.left) → (v && leb p.visible 4503599627370495) ≡ numbers_right p
unfolding numbers_right
all p v e =
    let last : leb p.visible 4503599627370495 ≡ ltb p.visible (2 ^ 52) = same_test _ _ (λ t. let l = leb-true _ _ t in lt-ltb _ _ (omega arith)) (λ t. let l = ltb-true _ _ t in le-leb _ _ (omega arith)) in
    rw (e, last) (chain (step_right p.step) (counts p) (heights p) (leb p.left 24) (leb p.offset p.left) (ltb p.visible (2 ^ 52)))

pub returns-then-p : goal.returns-then-p
returns-then-p c = sym (ap (λ (b : Bool). b && leb c.args.p.visible 4503599627370495) c.if-p.true) ∙ all c.args.p _ (before c.before)

pub returns-else-p : goal.returns-else-p
returns-else-p c = c.if-p.false ∙ sym (ap (λ (b : Bool). b && leb c.args.p.visible 4503599627370495) c.if-p.false) ∙ all c.args.p _ (before c.before)
