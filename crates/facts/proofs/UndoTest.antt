-- Refusal 15's test, part by part; two positions are the same.
-- Assumes nothing.
use mathlib.Core.Bool.{Bool, true, ◌&&◌}
use mathlib.Core.Path.{◌≡◌, sym, ap, ◌∙◌}
use Prim.Native.Nat.{ℕ}
use lib.Dec.{eqb}
use Rattle.rules.specs.declared.Position.{Position}
use Rattle.rules.specs.Bits.{same_list}
use Rattle.rules.specs.Proper.{proper}
use Rattle.rules.specs.Legal.{legal}
use Rattle.rules.specs.Play.{after, undo_byte}
use Rattle.rules.specs.History.{is_kind_and_card, same_deck, same_in_deal, same_position, entry_byte, entry_kind, entry_card, step_back, undoable}
use Rattle.bits.proofs.Searches.{and_left, and_right, and_both}
use Rattle.rules.proofs.SameList.{list_same}
use Rattle.facts.proofs.Veil.{bare}

-- q passes for the position before p, by the entry x
pub record Passes (p : Position) (x : ℕ) (q : Position) : Type 0 where
  pub is_move : is_kind_and_card (entry_kind x) (entry_card x) ≡ true
  pub is_proper : proper q ≡ true
  pub is_legal : legal q (entry_kind x) (entry_card x) ≡ true
  pub is_byte : eqb (undo_byte q (entry_kind x) (entry_card x)) (entry_byte x) ≡ true
  pub reaches : same_position (after q (entry_kind x) (entry_card x)) p ≡ true

-- five tests
abbrev Five : Bool → Bool → Bool → Bool → Bool → Type 0
Five a b c d f = (a ≡ true) × (b ≡ true) × (c ≡ true) × (d ≡ true) × (f ≡ true)

five : (a b c d f : Bool) → (a && b && c && d && f) ≡ true → Five a b c d f
five a b c d f t =
    let t4 : (a && b && c && d) ≡ true = and_left (a && b && c && d) f t in
    let t3 : (a && b && c) ≡ true = and_left (a && b && c) d t4 in
    let t2 : (a && b) ≡ true = and_left (a && b) c t3 in
    (and_left a b t2, and_right a b t2, and_right (a && b) c t3, and_right (a && b && c) d t4, and_right (a && b && c && d) f t)

pub passes : (p : Position) (x : ℕ) → undoable p x ≡ true → Passes p x (step_back p x)
unfolding undoable
passes p x h =
    let f = five _ _ _ _ _ h in
    record { is_move = f.0; is_proper = f.1; is_legal = f.2; is_byte = f.3; reaches = f.4 }

pub passed : (p : Position) (x : ℕ) → Passes p x (step_back p x) → undoable p x ≡ true
unfolding undoable
passed p x h = and_both _ _ (and_both _ _ (and_both _ _ (and_both _ _ h.is_move h.is_proper) h.is_legal) h.is_byte) h.reaches

-- two positions of one deal are the same, or not, by all the rest
pub same_bare : (x y u v : Position) → bare x ≡ bare u → bare y ≡ bare v → x.deal ≡ y.deal → u.deal ≡ v.deal → same_position x y ≡ same_position u v
unfolding same_position same_in_deal same_deck bare
same_bare x y u v e f h k = λ i. (same x y h ∙ sym (same u v k)) i && same_in_deal (e i) (f i)
  where
    same : (a b : Position) → a.deal ≡ b.deal → same_list a.deal b.deal ≡ true
    same a b t = ap (same_list a.deal) (sym t) ∙ list_same a.deal
