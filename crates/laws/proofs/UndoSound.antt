-- Refusal 15's test is sound: where it passes, undo gives an earlier position as document 01 has it.
-- Assumes nothing.
use mathlib.Core.Path.{◌≡◌, ap, ◌∙◌}
use Prim.Native.Nat.{ℕ, ◌+◌, ◌*◌, ◌/◌, ◌%◌}
use native.Mathlib.Omega.{arith}
use borrow.Author.Tests.{eqb-true}
use Rattle.bits.proofs.Tables.{T_true, true-T}
use Rattle.rules.specs.declared.Position.{Position}
use Rattle.rules.specs.Play.{undo_byte}
use Rattle.rules.specs.History.{entry, entry_byte, entry_kind, entry_card, step_back, undoable}
use Rattle.rules.proofs.UndoLaw.{kept_deal, kept_step}
use Rattle.rules.specs.Demands.{UndoableSound}
use Rattle.facts.proofs.UndoTest.{Passes, passes}

-- an entry is made of its parts
parts : (e : ℕ) → e / 512 * 512 + e / 64 % 8 * 64 + e % 64 ≡ e
parts e = omega arith

pub undoable_sound : UndoableSound
unfolding undoable step_back entry entry_byte entry_kind entry_card
undoable_sound p e t =
    let q : Position = step_back p e in
    let k : ℕ = entry_kind e in
    let c : ℕ = entry_card e in
    let f : Passes p e q = passes p e (T_true (undoable p e) t) in
    record {
      is_proper = true-T _ f.is_proper;
      same_deal = kept_deal p (entry_byte e) k c;
      same_step = kept_step p (entry_byte e) k c;
      kind = k;
      card = c;
      is_move = true-T _ f.is_move;
      is_legal = true-T _ f.is_legal;
      writes = ap (λ (b : ℕ). b * 512 + k * 64 + c) (eqb-true (undo_byte q k c) (entry_byte e) f.is_byte) ∙ parts e;
      reaches = true-T _ f.reaches;
    }
