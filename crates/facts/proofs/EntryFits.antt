-- An undo byte is at most 24, so an entry fits 16 bits. Assumes nothing.
use Prim.Native.Nat.{ℕ, zero, suc, ◌≤◌, zero-le}
use mathlib.Core.Path.{◌≡◌}
use mathlib.Core.Bool.{true}
use native.Mathlib.Omega.{arith}
use Rattle.rules.specs.declared.Position.{Position}
use Rattle.rules.specs.Places.{is_head}
use Rattle.rules.specs.Proper.{proper}
use Rattle.rules.specs.Play.{undo_byte}
use Rattle.rules.specs.History.{entry, is_kind_and_card}
use Rattle.bits.proofs.Searches.{num_le}
use Rattle.rules.proofs.ProperMade.{Numbers}
use Rattle.rules.proofs.Facts.{facts_of}
use Rattle.bits.proofs.Tables.{T_true}
use Rattle.rules.specs.Demands.{EntriesFit}
use Rattle.facts.proofs.Allowed.{kind_ok, card_ok}

pub byte_fits : (p : Position) → proper p ≡ true → (kind c : ℕ) → undo_byte p kind c ≤ 24
unfolding undo_byte
byte_fits p h kind c = go kind (facts_of p h).numbers
  where
    go : (k : ℕ) → Numbers p → undo_byte p k c ≤ 24
    go zero n = omega (arith, n.offset, n.left)
    go (suc zero) n = omega (arith, num_le (is_head p c))
    go (suc (suc zero)) n = omega (arith, n.offset, n.left)
    go (suc (suc (suc zero))) n = zero-le
    go (suc (suc (suc (suc k)))) n = zero-le

pub entries_fit : EntriesFit
unfolding entry
entries_fit p kind c h m =
    let k : is_kind_and_card kind c ≡ true = T_true (is_kind_and_card kind c) m in
    omega (arith, byte_fits p (T_true (proper p) h) kind c, kind_ok kind c k, card_ok kind c k)
