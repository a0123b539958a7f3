-- `stack_masks::dominance_mask` meets its contract.
-- Assumes nothing.
use mathlib.Core.Bool.{Bool, ◌&&◌, ◌||◌}
use mathlib.Core.Path.{◌≡◌, ap, ap₂, ◌∙◌}
use mathlib.Core.List.{List}
use Prim.Native.Nat.{ℕ, ◌+◌, ◌*◌}
use native.Mathlib.Omega.{arith}
use lib.Dec.{eqb, ltb, lit≤}
use lib.Bits.{bit_and, bit_or}
use Rattle.bits.specs.Bit.{mask_of}
use Rattle.bits.proofs.Laws.{mask_ext}
use Rattle.bits.proofs.Algebra.{or_masks, and_masks}
use Rattle.rules.specs.Cards.{suit, rank, colour, colour_mask}
use Rattle.rules.specs.Pruned.{dominant_on, dom_ranks, lower}
use Rattle.rules.proofs.Suits.{colour_low, by_colour, below_rank}
use Rattle.stack_masks.proofs.dominance_mask.Goals as goal

law : (h : List ℕ) (a b : ℕ) → a ≡ dom_ranks h 0 → b ≡ dom_ranks h 1
    → bit_or (bit_and (colour_mask 0) (mask_of 64 (λ k. ltb k (a * 4)))) (bit_and (colour_mask 1) (mask_of 64 (λ k. ltb k (b * 4)))) ≡ mask_of 64 (dominant_on h)
unfolding dominant_on colour_mask
law h a b ea eb =
    ap₂ bit_or (and_masks 64 64 (λ c. eqb (colour (suit c)) 0) (λ k. ltb k (a * 4)) (lit≤ tt)) (and_masks 64 64 (λ c. eqb (colour (suit c)) 1) (λ k. ltb k (b * 4)) (lit≤ tt))
    ∙ or_masks 64 (λ c. eqb (colour (suit c)) 0 && ltb c (a * 4)) (λ c. eqb (colour (suit c)) 1 && ltb c (b * 4))
    ∙ mask_ext 64 _ (dominant_on h) (λ c l.
    ap₂ (λ (x y : Bool). (eqb (colour (suit c)) 0 && x) || (eqb (colour (suit c)) 1 && y)) (below_rank c a ∙ ap (ltb (rank c)) ea) (below_rank c b ∙ ap (ltb (rank c)) eb)
    ∙ by_colour (λ k. ltb (rank c) (dom_ranks h k)) (colour (suit c)) (colour_low c))

pub returns : goal.returns
unfolding dom_ranks lower
returns c =
    rw (c.full_mask-2.ensures, c.colour_mask-2.ensures, c.full_mask.ensures, c.colour_mask.ensures)
    (law c.args.heights (c.min-a.result + 2) (c.min-b.result + 2)
    (omega (arith, c.min-a.ensures, c.min-b.ensures, c.min-d1.ensures, c.min-d0.ensures))
    (omega (arith, c.min-a.ensures, c.min-b.ensures, c.min-d1.ensures, c.min-d0.ensures)))
