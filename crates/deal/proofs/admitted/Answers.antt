-- `deal::admitted` meets its contract.
-- Assumes nothing.
use Rattle.std.proofs.Common.{◌≡◌, refl, sym, ap, ◌∙◌, ℕ, List, ◌-◌, ◌^◌, length, Bool, true, false, ◌≤◌}
use native.Mathlib.Omega.{arith}
use lib.Dec.{eqb}
use borrow.Author.Tests.{eq-eqb, ne_eqb}
use Rattle.rules.specs.Proper.{are_cards, are_different, step_right}
use Rattle.rules.specs.Answers.{deal_refusal}
use Rattle.rules.specs.Hidden.{cards_from}
use Rattle.deal.proofs.DealTest.{Small, not_small, not_filled, filled_cards, different_is}
use Rattle.rules.proofs.Refusing.{four, deal_tests}
use Rattle.deal.proofs.admitted.Goals as goal

-- the refusal of what was given, by what the tests say of the 52 bytes that came of it
of_bytes : (given d : List ℕ) (step : ℕ) (e f : Bool) → d ≡ given → length given ≡ 52 → true ≡ step_right step → are_cards d ≡ e → are_different d ≡ f → four true true e f 0 ≡ deal_refusal given step
of_bytes given d step e f same long fair h g = rw (sym same) (deal_tests d step true true e f (sym fair) (eq-eqb (length d) 52 (ap length same ∙ long)) h g)

-- 52 bytes below 64 that fill no bit above the cards' are cards, and different where they fill all
cards_are : (d : List ℕ) → Small d ≡ true → (m : ℕ) → m ≡ cards_from d 0 52 → m ≤ 2 ^ 52 - 1 → (are_cards d ≡ true) × (eqb m (2 ^ 52 - 1) ≡ are_different d)
cards_are d s m e l =
    let h = filled_cards d s (omega (arith, e, l)) in
    (h, ap (λ (k : ℕ). eqb k (2 ^ 52 - 1)) e ∙ different_is d s h)

pub returns-then-not-is_step-clause-refusal : goal.returns-then-not-is_step-clause-refusal
returns-then-not-is_step-clause-refusal c = deal_tests _ _ false _ _ _ (sym c.if-not-is_step.ensures) refl refl refl

pub returns-in_default-clause-refusal : goal.returns-in_default-clause-refusal
returns-in_default-clause-refusal c = deal_tests _ _ true false _ _ (sym c.if-not-is_step.ensures) (ne_eqb _ 52 c.in_default.ensures.1) refl refl

pub returns-then-not-all_small-clause-refusal : goal.returns-then-not-all_small-clause-refusal
returns-then-not-all_small-clause-refusal c =
    let w = c.in-Ok.ensures.1 in
    of_bytes _ _ _ false _ w.same w.long c.if-not-is_step.ensures (not_small _ (sym c.if-not-all_small.ensures)) refl

pub returns-then-seen-gt-FULL_MASK-clause-refusal : goal.returns-then-seen-gt-FULL_MASK-clause-refusal
returns-then-seen-gt-FULL_MASK-clause-refusal c =
    let w = c.in-Ok.ensures.1 in
    of_bytes _ _ _ false _ w.same w.long c.if-not-is_step.ensures (not_filled _ (omega (arith, c.cards_from-seen.ensures, c.if-seen-gt-FULL_MASK.true))) refl

pub returns-then-seen-ne-FULL_MASK-clause-refusal : goal.returns-then-seen-ne-FULL_MASK-clause-refusal
returns-then-seen-ne-FULL_MASK-clause-refusal c =
    let w = c.in-Ok.ensures.1 in
    let k = cards_are _ (sym c.if-not-all_small.ensures) _ c.cards_from-seen.ensures c.if-seen-gt-FULL_MASK.false in
    of_bytes _ _ _ true false w.same w.long c.if-not-is_step.ensures k.0 (sym k.1 ∙ ne_eqb _ _ c.if-seen-ne-FULL_MASK.true)

pub returns-clause-refusal : goal.returns-clause-refusal
returns-clause-refusal c =
    let w = c.in-Ok.ensures.1 in
    let k = cards_are _ (sym c.if-not-all_small.ensures) _ c.cards_from-seen.ensures c.if-seen-gt-FULL_MASK.false in
    of_bytes _ _ _ true true w.same w.long c.if-not-is_step.ensures k.0 (sym k.1 ∙ eq-eqb _ _ c.if-seen-ne-FULL_MASK.false)
