-- What an accepted call has passed: a move, an undo; a deal or a resume by `Dealt` of rules.
-- Assumes nothing.
use mathlib.Core.Bool.{true}
use mathlib.Core.Path.{◌≡◌}
use mathlib.Core.List.{List}
use Prim.Native.Nat.{ℕ, ◌≤◌, ◌<◌}
use native.Mathlib.Omega.{arith}
use lib.Dec.{eqb, ltb, leb}
use lib.ListN.{length}
use borrow.Author.Tests.{eqb-false, ltb-false, leb-true}
use Rattle.rules.specs.declared.Position.{Position}
use Rattle.rules.specs.Proper.{proper}
use Rattle.rules.specs.Legal.{legal}
use Rattle.rules.specs.History.{is_kind_and_card, undoable}
use Rattle.rules.specs.Answers.{move_refusal, last_entry, undo_refusal}
use Rattle.bits.proofs.Searches.{and_left, and_right}
use Rattle.rules.proofs.Refusing.{Dealt, goes_on, goes_well}

-- a kind and a card of a move
pub kind_ok : (kind c : ℕ) → is_kind_and_card kind c ≡ true → kind < 5
unfolding is_kind_and_card
kind_ok kind c t = omega (arith, leb-true kind 4 (and_left (leb kind 4) (leb c 51) t))

pub card_ok : (kind c : ℕ) → is_kind_and_card kind c ≡ true → c < 52
unfolding is_kind_and_card
card_ok kind c t = omega (arith, leb-true c 51 (and_right (leb kind 4) (leb c 51) t))

-- a deal of 52 different cards, with some step
abbrev pub Right : List ℕ → Type 0
Right d = (step : ℕ) × Dealt d step

-- a move
pub record MoveAllowed (p : Position) (history : List ℕ) (n kind c : ℕ) : Type 0 where
  pub is_proper : proper p ≡ true
  pub within : n < length history
  pub is_move : is_kind_and_card kind c ≡ true
  pub is_legal : legal p kind c ≡ true

pub move_allowed : (p : Position) (history : List ℕ) (n kind c : ℕ) → move_refusal p history n kind c ≡ 0 → MoveAllowed p history n kind c
unfolding move_refusal
move_allowed p history n kind c t =
    let g1 = goes_well (proper p) 16 _ (omega arith) t in
    let g2 = goes_on (ltb (length history) n) 14 _ (omega arith) g1.1 in
    let g3 = goes_well (is_kind_and_card kind c) 10 _ (omega arith) g2.1 in
    let g4 = goes_well (legal p kind c) 11 _ (omega arith) g3.1 in
    let g5 = goes_on (eqb n (length history)) 12 0 (omega arith) g4.1 in
    record { is_proper = g1.0; within = omega (arith, ltb-false (length history) n g2.0, eqb-false n (length history) g5.0); is_move = g3.0; is_legal = g4.0 }

-- an undo
pub record UndoAllowed (p : Position) (history : List ℕ) (n : ℕ) : Type 0 where
  pub is_proper : proper p ≡ true
  pub within : n ≤ length history
  pub some : 0 < n
  pub passes : undoable p (last_entry history n) ≡ true

pub undo_allowed : (p : Position) (history : List ℕ) (n : ℕ) → undo_refusal p history n ≡ 0 → UndoAllowed p history n
unfolding undo_refusal
undo_allowed p history n t =
    let g1 = goes_well (proper p) 16 _ (omega arith) t in
    let g2 = goes_on (ltb (length history) n) 14 _ (omega arith) g1.1 in
    let g3 = goes_on (eqb n 0) 13 _ (omega arith) g2.1 in
    let g4 = goes_well (undoable p (last_entry history n)) 15 0 (omega arith) g3.1 in
    record { is_proper = g1.0; within = ltb-false (length history) n g2.0; some = omega (arith, eqb-false n 0 g3.0); passes = g4.0 }
