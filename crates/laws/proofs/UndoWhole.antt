-- A whole game is undone: after any number of accepted moves as many undos are accepted, and give back where the game stood. Assumes nothing.
use mathlib.Core.Path.{◌≡◌, refl, sym, ap, subst, ◌∙◌}
use mathlib.Core.List.{List, [], ◌∷◌}
use Prim.Native.Nat.{ℕ}
use lib.Dec.{T}
use lib.ListN.{length, length-set}
use Rattle.bits.proofs.Tables.{true-T}
use Rattle.rules.specs.declared.Undone.{Undone}
use Rattle.rules.specs.Proper.{Shaped}
use Rattle.rules.specs.History.{same_position}
use Rattle.rules.specs.Demands.{Game, move_in, undo_in, after_move, after_undo, after_moves, MovesAccepted, after_undos, UndosAccepted, played_and_undone, UndoWholeGame}
use Rattle.facts.proofs.Tidy.{tidy_same}
use Rattle.laws.proofs.UndoMove.{undo_after_move}
use Rattle.laws.proofs.UndoAlike.{undo_same}
use Rattle.laws.proofs.UndoGame.{same_trans, Back, moved, written, history_is, shape, undo_is, entries_back}

module _ (g : Game) (m : ℕ × ℕ) (s : Shaped g.position) (h : (move_in g m).refusal ≡ 0) (b : Game) (w : Back (moved g m s h) b) where
  step : ((undo_in b).refusal ≡ 0) × Back g (after_undo b)
  step =
      let k : Game = moved g m s h in
      let is = undo_is g m s h b w in
      let a = undo_same b.position k.position k.history k.count w.position in
      let u = undo_after_move g.position g.history g.count m.0 m.1 s h in (
        ap (λ (x : Undone). x.refusal) is ∙ a.0 ∙ u.0,
        record {
          count = ap (λ (x : Undone). x.count) is ∙ a.1 ∙ u.1;
          position = subst (λ (x : Undone). T (same_position x.position g.position)) (sym is) (same_trans _ _ _ a.2 u.2);
          entries = entries_back g m s h b w;
          room = w.room ∙ ap length (history_is g m s h) ∙ length-set g.history g.count (written g m s h);
        },
      )

-- ---- all of them: the undos of the later moves come first, and lead back to where the game stood after the first move

played_back : (g : Game) (ms : List (ℕ × ℕ)) → Shaped g.position → MovesAccepted g ms → UndosAccepted (after_moves g ms) (length ms) × Back g (played_and_undone g ms)
unfolding after_moves after_undos
played_back g [] s h = (tt, record { count = refl; position = true-T _ (tidy_same g.position g.position refl); entries = refl; room = refl })
played_back g (m ∷ ms) s h =
    let later = played_back (after_move g m) ms (shape g m s h.0) h.1 in
    let last = step g m s h.0 (played_and_undone (after_move g m) ms) later.1 in
    ((later.0, last.0), last.1)

pub undo_whole_game : UndoWholeGame
undo_whole_game g ms s h = let r = played_back g ms s h in (r.0, r.1.count, r.1.position, r.1.entries)
