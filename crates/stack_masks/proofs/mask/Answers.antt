-- `stack_masks::mask` meets its contract.
-- Assumes nothing.
use mathlib.Core.Bool.{Bool, ◌&&◌}
use mathlib.Core.Path.{◌≡◌}
use mathlib.Core.List.{List}
use Prim.Native.Nat.{ℕ}
use lib.Dec.{eqb}
use lib.ListN.{get_or}
use lib.Bits.{bit_or}
use Rattle.bits.specs.Bit.{mask_of}
use Rattle.bits.proofs.Laws.{mask_ext}
use Rattle.bits.proofs.Algebra.{or_masks}
use Rattle.rules.specs.Cards.{suit, rank}
use Rattle.rules.specs.Legal.{next_on}
use Rattle.rules.proofs.Suits.{suit_low, by_suit}
use Rattle.stack_masks.proofs.mask.Goals as goal

one : List ℕ → ℕ → ℕ → Bool
one h s c = eqb (suit c) s && eqb (rank c) (get_or h s 0)

law : (h : List ℕ) → bit_or (bit_or (bit_or (mask_of 56 (one h 0)) (mask_of 56 (one h 1))) (mask_of 56 (one h 2))) (mask_of 56 (one h 3)) ≡ mask_of 56 (next_on h)
unfolding one next_on
law h = simp or_masks (mask_ext 56 _ (next_on h) (λ c l. by_suit (λ s. eqb (rank c) (get_or h s 0)) (suit c) (suit_low c)))

pub returns : goal.returns
unfolding one
returns c = rw (c.next-4.ensures, c.next-3.ensures, c.next-2.ensures, c.next.ensures) (law c.args.heights)
