-- A game undone, one accepted move of it: the next undo takes the move back, and gives back where the game stood. Assumes nothing.
use mathlib.Core.Path.{◌≡◌, sym, ap, subst, ◌∙◌}
use mathlib.Core.List.{List}
use Prim.Native.Nat.{ℕ, ◌+◌, ◌-◌, ◌≤◌, ◌<◌}
use native.Mathlib.Omega.{arith}
use lib.Dec.{T}
use lib.ListN.{length, get_or, take, set}
use lib.Seq.{take-take, get_or-take, take-set-le}
use Rattle.bits.proofs.Tables.{T_true, true-T}
use Rattle.rules.specs.declared.Position.{Position}
use Rattle.rules.specs.declared.Moved.{Moved}
use Rattle.rules.specs.Proper.{Shaped}
use Rattle.rules.specs.Play.{undo_byte}
use Rattle.rules.specs.History.{entry, same_position}
use Rattle.rules.specs.Answers.{last_entry, undo_refusal, undo_answer}
use Rattle.rules.specs.Demands.{Game, move_in, undo_in, after_move}
use Rattle.facts.proofs.Tidy.{same_tidy, tidy_same}
use Rattle.facts.proofs.Shapes.{after_shape}
use Rattle.laws.proofs.UndoMove.{written_is, move_taken}

pub same_trans : (p q r : Position) → T (same_position p q) → T (same_position q r) → T (same_position p r)
same_trans p q r a b = true-T _ (tidy_same p r (same_tidy p q (T_true (same_position p q) a) ∙ same_tidy q r (T_true (same_position q r) b)))

-- undo reads of the history its length and its last entry
undo_reads : (p : Position) (xs ys : List ℕ) (n : ℕ) → length xs ≡ length ys → last_entry xs n ≡ last_entry ys n → undo_answer p xs n ≡ undo_answer p ys n
unfolding undo_answer undo_refusal
undo_reads p xs ys n l e = rw (l, e)

-- b is back where g stands
pub record Back (g b : Game) : Type 0 where
  pub count : b.count ≡ g.count
  pub position : T (same_position b.position g.position)
  pub entries : take g.count b.history ≡ take g.count g.history
  pub room : length b.history ≡ length g.history

-- ---- one accepted move, from g

module _ (g : Game) (m : ℕ × ℕ) (s : Shaped g.position) (h : (move_in g m).refusal ≡ 0) where
  abbrev pub moved : Game
  moved = after_move g m

  abbrev pub written : ℕ
  written = entry (undo_byte g.position m.0 m.1) m.0 m.1

  count_is : moved.count ≡ g.count + 1
  count_is = ap (λ (a : Moved). a.count) (move_taken g.position g.history g.count m.0 m.1 h).1

  pub history_is : moved.history ≡ set g.history g.count written
  history_is = written_is g.position g.history g.count m.0 m.1 s (move_taken g.position g.history g.count m.0 m.1 h).0

  pub shape : Shaped moved.position
  shape =
      let e = (move_taken g.position g.history g.count m.0 m.1 h).1 in
      subst Shaped (ap (λ (a : Moved). a.position) (sym e)) (after_shape g.position m.0 m.1 s)

  -- later on the game is back where it stood after the move: later moves wrote at and above that count. The next undo takes the move back
  module _ (b : Game) (w : Back moved b) where
    last_same : last_entry b.history moved.count ≡ last_entry moved.history moved.count
    unfolding last_entry
    last_same =
        let i : ℕ = moved.count - 1 in
        let l : i < moved.count = omega (arith, count_is) in
        sym (get_or-take moved.count b.history i 0 l)
        ∙ ap (λ (xs : List ℕ). get_or xs i 0) w.entries
        ∙ get_or-take moved.count moved.history i 0 l

    pub undo_is : undo_in b ≡ undo_answer b.position moved.history moved.count
    undo_is =
        ap (undo_answer b.position b.history) w.count
        ∙ undo_reads b.position b.history moved.history moved.count w.room last_same

    pub entries_back : take g.count b.history ≡ take g.count g.history
    entries_back =
        let n : ℕ = g.count in
        let k : ℕ = moved.count in
        let l : n ≤ k = omega (arith, count_is) in
        sym (take-take n k b.history l)
        ∙ ap (take n) w.entries
        ∙ take-take n k moved.history l
        ∙ ap (take n) history_is
        ∙ take-set-le n g.history g.count written (omega arith)
