-- `code::resume` meets its contract.
-- Assumes nothing.
use Rattle.std.proofs.Common.{◌≡◌, refl, sym, ap, ap₂, ◌∙◌, subst, Bool, true, false, List, ℕ, ◌≤◌, ◌<◌, ltb, Some, None}
use mathlib.Core.Bool.{not, cond}
use native.Mathlib.Omega.{arith}
use lib.Dec.{eqb, leb}
use borrow.Author.Tests.{eq-eqb, ne_eqb, ltb-true, ltb-false, le-leb, lt-leb, not-true, not-false}
use Rattle.std.proofs.lemmas.Result.{err_from_is_err_and}
use Rattle.std.proofs.lemmas.Option.{cond_some, none-some}
use Rattle.bits.specs.Bit.{bit, count_of}
use Rattle.rules.specs.declared.Refusal.TheVariants.{WrongHeight, WrongPiles, WrongOffset}
use Rattle.rules.specs.Bits.{any_of}
use Rattle.rules.specs.Foundations.{valid_on}
use Rattle.rules.specs.Code.{table, field_count, code_height, code_piles, code_count, code_has, code_left, code_offset, stored_offset, deck_of, resumed}
use Rattle.rules.specs.Answers.{resume_answer}
use Rattle.rules.proofs.ProperMade.{step_low}
use Rattle.rules.proofs.Refusing.{deal_passed}
use Rattle.code.specs.declared.Fields.{Fields}
use Rattle.deal.specs.Starts.{started_by}
use Rattle.code.specs.Resuming.{fields_of, Ranged, arrange_answer}
use Rattle.deal.proofs.Answered.{refused_is}
use Rattle.code.proofs.Parts.{heights_is, valid_is, left_is, deck_is, parts_are, ranged}
use Rattle.code.proofs.Ends.{offset_high, offset_unstored, offset_right, deal_refused, resume_tests}
use Rattle.code.proofs.resume.Goals as goal

-- ---- what is decoded of the code x, and what each passed test says

module _ (x : ℕ) (f : Fields) (e : f ≡ fields_of x) where
  heights : (h : List ℕ) → h ≡ table 4 (code_height f.heights) → h ≡ table 4 (code_height x)
  unfolding fields_of
  heights h k = k ∙ ap (λ (g : Fields). table 4 (code_height g.heights)) e ∙ heights_is x

  valid : (h : List ℕ) → h ≡ table 4 (code_height f.heights) → (b : Bool) → b ≡ valid_on h → b ≡ not (any_of 4 (λ s. ltb 13 (code_height x s)))
  valid h k b l = l ∙ ap valid_on (heights h k) ∙ valid_is x

  piles : f.piles ≡ code_piles x
  unfolding fields_of
  piles = ap (λ (g : Fields). g.piles) e

  offset : f.offset ≡ code_offset x
  unfolding fields_of
  offset = ap (λ (g : Fields). g.offset) e

  counts : (cs : List ℕ) → Some cs ≡ cond (ltb f.piles 40320) (Some (table 7 (λ i. field_count f.piles i))) None → (leb 40320 (code_piles x) ≡ false) × (cs ≡ table 7 (code_count x))
  unfolding code_count
  counts cs k =
      let m = cond_some (ltb f.piles 40320) _ cs (sym k) in
      (sym (ap (leb 40320) piles) ∙ lt-leb 40320 f.piles (ltb-true f.piles 40320 m.0), sym m.1 ∙ ap (λ (n : ℕ). table 7 (λ i. field_count n i)) piles)

  many : None ≡ cond (ltb f.piles 40320) (Some (table 7 (λ i. field_count f.piles i))) None → leb 40320 (code_piles x) ≡ true
  many k = sym (ap (leb 40320) piles) ∙ go (ltb f.piles 40320) refl k
    where
      go : (b : Bool) → ltb f.piles 40320 ≡ b → None ≡ cond b (Some (table 7 (λ i. field_count f.piles i))) None → leb 40320 f.piles ≡ true
      go true e k = absurd (none-some _ k)
      go false e k = le-leb 40320 f.piles (ltb-false f.piles 40320 e)

  left : (n : ℕ) → n ≡ count_of 24 (bit f.deck) → n ≡ code_left x
  unfolding fields_of
  left n k = k ∙ ap (λ (g : Fields). count_of 24 (bit g.deck)) e ∙ left_is x

  deck : (d given l : List ℕ) → d ≡ given → l ≡ deck_of d (bit f.deck) → l ≡ deck_of given (code_has x)
  unfolding fields_of
  deck d given l k m = m ∙ ap₂ (λ (y : List ℕ) (g : Fields). deck_of y (bit g.deck)) k e ∙ deck_is x given

  stored : (step n l : ℕ) → l ≡ code_left x → n ≡ stored_offset l step f.offset → eqb n f.offset ≡ eqb (stored_offset (code_left x) step (code_offset x)) (code_offset x)
  stored step n l k m = ap (λ (i : ℕ). eqb i f.offset) m ∙ ap₂ (λ (a b : ℕ). eqb (stored_offset a step b) b) k offset

pub returns-in_err-deal : goal.returns-in_err-deal
unfolding resume_answer
returns-in_err-deal c =
    let p = err_from_is_err_and c.from_residual.result c.from_residual.ensures.1 in
    rw (p.1, p.2) (refused_is _ _ _ (deal_refused _ _ _ _ c.in_err-deal.ensures.refusal))

pub returns-then-not-is_valid : goal.returns-then-not-is_valid
unfolding resume_answer
returns-then-not-is_valid c =
    let w = c.in_ok-deal.ensures in
    let v = valid c.args.code _ c.fields_of-fields.ensures _ c.decode-heights.ensures _ c.if-not-is_valid.ensures in
    refused_is WrongHeight _ _ (resume_tests _ _ _ (sym w.refusal) true _ _ (not-false _ (sym v)) refl refl)

pub returns-in_default : goal.returns-in_default
unfolding resume_answer
returns-in_default c =
    let w = c.in_ok-deal.ensures in
    let x = c.args.code in
    let e = c.fields_of-fields.ensures in
    let low : any_of 4 (λ s. ltb 13 (code_height x s)) ≡ false = not-true _ (sym (valid x _ e _ c.decode-heights.ensures _ c.if-not-is_valid.ensures)) in
    refused_is WrongPiles _ _ (resume_tests _ _ _ (sym w.refusal) false true _ low (many x _ e c.in_default.ensures) refl)

-- ---- the tests before the offset's, and the offset's own

pub returns-then-offset-left : goal.returns-then-offset-left
unfolding resume_answer
returns-then-offset-left c =
    let w = c.in_ok-deal.ensures in
    let x = c.args.code in
    let e = c.fields_of-fields.ensures in
    let low : any_of 4 (λ s. ltb 13 (code_height x s)) ≡ false = not-true _ (sym (valid x _ e _ c.decode-heights.ensures _ c.if-not-is_valid.ensures)) in
    let few = (counts x _ e _ c.in-Some.ensures).0 in
    let l : code_left x < code_offset x = omega (arith, left x _ e _ c.decode-left.ensures.1, offset x _ e, c.if-offset-left.true) in
    refused_is WrongOffset _ _ (resume_tests _ _ _ (sym w.refusal) false false true low few (offset_high _ _ l))

pub normalized_offset-requires : goal.normalized_offset-requires
normalized_offset-requires c = step_low _ (deal_passed _ _ (sym c.in_ok-deal.ensures.refusal)).fair

pub returns-then-normalized_offset-offset : goal.returns-then-normalized_offset-offset
unfolding resume_answer
returns-then-normalized_offset-offset c =
    let w = c.in_ok-deal.ensures in
    let x = c.args.code in
    let e = c.fields_of-fields.ensures in
    let low : any_of 4 (λ s. ltb 13 (code_height x s)) ≡ false = not-true _ (sym (valid x _ e _ c.decode-heights.ensures _ c.if-not-is_valid.ensures)) in
    let few = (counts x _ e _ c.in-Some.ensures).0 in
    let s = stored x _ e c.args.step _ _ (left x _ e _ c.decode-left.ensures.1) c.normalized_offset.ensures in
    refused_is WrongOffset _ _ (resume_tests _ _ _ (sym w.refusal) false false true low few (offset_unstored _ _ (sym s ∙ ne_eqb _ _ c.if-normalized_offset-offset.true)))

pub arranged-requires : goal.arranged-requires
arranged-requires c =
    let w = c.in_ok-deal.ensures in
    let x = c.args.code in
    let e = c.fields_of-fields.ensures in
    let low : any_of 4 (λ s. ltb 13 (code_height x s)) ≡ false = not-true _ (sym (valid x _ e _ c.decode-heights.ensures _ c.if-not-is_valid.ensures)) in
    let g = deal_passed _ _ (sym w.refusal) in
    subst Ranged
    (sym (parts_are x _ _ _ _ _ _ _ _ w.cards (counts x _ e _ c.in-Some.ensures).1 (heights x _ e _ c.decode-heights.ensures) (deck x _ e _ _ _ w.cards c.decode-left.ensures.0) (left x _ e _ c.decode-left.ensures.1) (offset x _ e)))
    (ranged _ _ _ g.long g.cards low)

pub returns : goal.returns
unfolding resume_answer arrange_answer resumed
returns c =
    let w = c.in_ok-deal.ensures in
    let x = c.args.code in
    let e = c.fields_of-fields.ensures in
    let low : any_of 4 (λ s. ltb 13 (code_height x s)) ≡ false = not-true _ (sym (valid x _ e _ c.decode-heights.ensures _ c.if-not-is_valid.ensures)) in
    let some = counts x _ e _ c.in-Some.ensures in
    let many = left x _ e _ c.decode-left.ensures.1 in
    let s = stored x _ e c.args.step _ _ many c.normalized_offset.ensures in
    let l : code_offset x ≤ code_left x = omega (arith, many, offset x _ e, c.if-offset-left.false) in
    let right = offset_right _ _ l (sym s ∙ eq-eqb _ _ c.if-normalized_offset-offset.false) in
    c.arranged.ensures
    ∙ ap arrange_answer (parts_are x _ _ _ _ _ _ _ _ w.cards some.1 (heights x _ e _ c.decode-heights.ensures) (deck x _ e _ _ _ w.cards c.decode-left.ensures.0) many (offset x _ e))
    ∙ ap (λ (r : ℕ). started_by r (resumed c.args.cards.now c.args.step x)) (resume_tests _ _ _ (sym w.refusal) false false false low some.0 right)
