-- The locked cards are the buried ones and the heads.
-- Assumes nothing.
use mathlib.Core.Bool.{◌||◌, or_comm}
use mathlib.Core.Path.{◌≡◌, sym, ◌∙◌}
use mathlib.Core.List.{List}
use Prim.Native.Nat.{ℕ}
use Rattle.rules.specs.declared.Position.{Position}
use Rattle.rules.specs.Places.{is_head, is_buried}
use Rattle.rules.specs.Hidden.{head_in, buried_in, locked_in}
use Rattle.rules.proofs.ProperLaw.{locked_is}
use Rattle.rules.specs.Fields.{blank, with_deal, with_counts}

-- a locked card is buried or a head
pub locked_both : (d n : List ℕ) (c : ℕ) → (buried_in d n c || head_in d n c) ≡ locked_in d n c
locked_both d n c =
    or_comm (is_buried p c) (is_head p c) ∙ sym (locked_is p c)
  where
    -- any position of this deal with these counts
    p : Position
    p = with_counts (with_deal blank d) n
