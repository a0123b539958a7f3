-- Undo gives the same answer in two positions that are the same but for spare slots: the refusal, the count, and positions that are the same.
-- Assumes nothing.
use mathlib.Core.Bool.{Bool, not}
use mathlib.Core.Path.{◌≡◌, refl, ap, ◌∙◌}
use mathlib.Core.List.{List}
use Prim.Native.Nat.{ℕ, zero, suc, ◌-◌}
use lib.Dec.{eqb, ltb}
use lib.ListN.{length}
use borrow.Author.Tests.{not-false}
use Rattle.bits.proofs.Tables.{T_true, true-T}
use Rattle.rules.specs.declared.Position.{Position}
use Rattle.rules.specs.declared.Undone.{Undone}
use Rattle.rules.specs.Proper.{proper}
use Rattle.rules.specs.History.{same_position, step_back}
use Rattle.rules.specs.Answers.{◌refuses◌else◌, accepted, last_entry, undo_refusal, undo_answer}
use Rattle.rules.specs.Demands.{UndoSame}
use Rattle.rules.proofs.Refusing.{refuses_same}
use Rattle.facts.proofs.Allowed.{undo_allowed}
use Rattle.facts.proofs.Tidy.{tidy, same_tidy, tidy_same}
use Rattle.laws.proofs.UndoSame.{proper_same, back_same, test_same}

module _ (p q : Position) (e : tidy p ≡ tidy q) where
  module _ (history : List ℕ) (n : ℕ) where
    abbrev made : Position → Undone
    made r = record { refusal = 0; position = step_back r (last_entry history n); count = n - 1 }

    abbrev kept : Position → Undone
    kept r = record { refusal = undo_refusal r history n; position = r; count = n }

    refusal_same : undo_refusal p history n ≡ undo_refusal q history n
    unfolding undo_refusal
    refusal_same =
        refuses_same (not (proper p)) (not (proper q)) 16 _ _ (ap not (proper_same p q e))
        (λ t.
        ap (λ (b : Bool). ltb (length history) n refuses 14 else eqb n 0 refuses 13 else not b refuses 15 else 0)
        (test_same p q e (not-false (proper p) t) (last_entry history n)))

    -- the answer in r where the refusal is x, without the spare slots
    abbrev answered : Position → ℕ → Undone
    answered r x = let u : Undone = accepted x (made r) (kept r) in record { refusal = u.refusal; position = tidy u.position; count = u.count }

    answer_same : answered p (undo_refusal p history n) ≡ answered q (undo_refusal q history n)
    answer_same = go (undo_refusal p history n) refl ∙ ap (answered q) refusal_same
      where
        go : (x : ℕ) → undo_refusal p history n ≡ x → answered p x ≡ answered q x
        go zero t = λ i. record { refusal = 0; position = back_same p q e (undo_allowed p history n t).is_proper (last_entry history n) i; count = n - 1 }
        go (suc x) t = λ i. record { refusal = refusal_same i; position = e i; count = n }

pub undo_same : UndoSame
unfolding undo_answer
undo_same p q history n h =
    let b = answer_same p q (same_tidy p q (T_true (same_position p q) h)) history n in (
      ap (λ (u : Undone). u.refusal) b,
      ap (λ (u : Undone). u.count) b,
      true-T _ (tidy_same (undo_answer p history n).position (undo_answer q history n).position (ap (λ (u : Undone). u.position) b)),
    )
