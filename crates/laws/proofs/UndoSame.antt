-- Undo reads no spare slot of the deck: in two positions that are the same but for these it gives the same refusal and the same count, and positions
-- that are the same. Assumes nothing.
use mathlib.Core.Bool.{true, ◌&&◌}
use mathlib.Core.Path.{◌≡◌, sym, ap, ◌∙◌}
use Prim.Native.Nat.{ℕ}
use lib.Dec.{eqb}
use Rattle.bits.proofs.Tables.{same_test}
use Rattle.rules.specs.declared.Position.{Position}
use Rattle.rules.specs.Proper.{proper}
use Rattle.rules.specs.Legal.{legal}
use Rattle.rules.specs.Play.{after, before, undo_byte}
use Rattle.rules.specs.History.{entry_byte, entry_kind, entry_card, is_kind_and_card, same_position, step_back, undoable}
use Rattle.rules.proofs.Facts.{facts_of}
use Rattle.laws.proofs.Spare.{tidy_proper, tidy_legal, tidy_byte}
use Rattle.facts.proofs.Tidy.{tidy, same_tidy, tidy_same}
use Rattle.laws.proofs.SpareMoves.{tidy_after, tidy_before}

module _ (p q : Position) (e : tidy p ≡ tidy q) where
  pub proper_same : proper p ≡ proper q
  proper_same = sym (tidy_proper p) ∙ ap proper e ∙ tidy_proper q

  -- going back over the entry x: it leads to positions that are the same, and the test of refusal 15 says the same
  module _ (h : proper p ≡ true) (x : ℕ) where
    abbrev k : ℕ
    k = entry_kind x

    abbrev c : ℕ
    c = entry_card x

    pub back_same : tidy (step_back p x) ≡ tidy (step_back q x)
    unfolding step_back
    back_same =
        sym (tidy_before p (facts_of p h).numbers.offset (entry_byte x) k c)
        ∙ ap (λ (r : Position). tidy (before r (entry_byte x) k c)) e
        ∙ tidy_before q (facts_of q (sym proper_same ∙ h)).numbers.offset (entry_byte x) k c

    pub test_same : undoable p x ≡ undoable q x
    unfolding undoable
    test_same =
        λ i.
        is_kind_and_card k c
        && (sym (tidy_proper (step_back p x)) ∙ ap proper back_same ∙ tidy_proper (step_back q x)) i
        && (sym (tidy_legal (step_back p x) k c) ∙ ap (λ (r : Position). legal r k c) back_same ∙ tidy_legal (step_back q x) k c) i
        && eqb ((sym (tidy_byte (step_back p x) k c) ∙ ap (λ (r : Position). undo_byte r k c) back_same ∙ tidy_byte (step_back q x) k c) i) (entry_byte x)
        && reaches i
      where
        a : Position
        a = after (step_back p x) k c

        b : Position
        b = after (step_back q x) k c

        t : tidy a ≡ tidy b
        t = sym (tidy_after (step_back p x) k c) ∙ ap (λ (r : Position). tidy (after r k c)) back_same ∙ tidy_after (step_back q x) k c

        reaches : same_position a p ≡ same_position b q
        reaches =
            same_test (same_position a p) (same_position b q)
            (λ y. tidy_same b q (sym t ∙ same_tidy a p y ∙ e))
            (λ y. tidy_same a p (t ∙ same_tidy b q y ∙ sym e))
