-- `stack_masks::next` meets its contract.
-- Assumes nothing.
use mathlib.Core.Bool.{Bool, ◌&&◌, and-false, beq}
use mathlib.Core.Path.{◌≡◌, sym, ap, ◌∙◌}
use Prim.Native.Nat.{ℕ, ◌*◌, ◌/◌, ◌%◌, ◌^◌, ◌≤◌, ◌<◌}
use native.Mathlib.Omega.{arith}
use lib.Dec.{eqb, lit≤}
use lib.Bits.{bit_and}
use borrow.Author.Tests.{ne_eqb}
use Rattle.bits.specs.Bit.{bit, mask_of}
use Rattle.bits.proofs.Laws.{mask_ext}
use Rattle.bits.proofs.Tables.{below, upto, beq_eq}
use Rattle.bits.proofs.Algebra.{and_mask, mask_cut}
use Rattle.rules.specs.Cards.{suit, rank, suit_mask}
use Rattle.stack_masks.proofs.next.Goals as goal

-- four bits at four times the height: the cards of that rank
four : (h : ℕ) → h < 14 → (k : ℕ) → k < 64 → bit (15 * 2 ^ (h * 4) % 2 ^ 64) k ≡ eqb (k / 4) h
unfolding bit
four h l k m =
    beq_eq (bit (15 * 2 ^ (h * 4) % 2 ^ 64) k) (eqb (k / 4) h)
    (upto 64 (λ k. beq (bit (15 * 2 ^ (h * 4) % 2 ^ 64) k) (eqb (k / 4) h)) (upto 14 (λ h. below 64 (λ k. beq (bit (15 * 2 ^ (h * 4) % 2 ^ 64) k) (eqb (k / 4) h))) tt h l) k m)

law : (s h : ℕ) → h ≤ 13 → bit_and (suit_mask s) (15 * 2 ^ (h * 4) % 2 ^ 64) ≡ mask_of 56 (λ c. eqb (suit c) s && eqb (rank c) h)
unfolding suit_mask rank
law s h l =
    and_mask 64 (λ c. eqb (suit c) s) (15 * 2 ^ (h * 4) % 2 ^ 64)
    ∙ mask_ext 64 (λ c. eqb (suit c) s && bit (15 * 2 ^ (h * 4) % 2 ^ 64) c) (λ c. eqb (suit c) s && eqb (c / 4) h) (λ k m. ap (λ (b : Bool). eqb (suit k) s && b) (four h (omega arith) k m))
    ∙ sym (mask_cut 56 64 (λ c. eqb (suit c) s && eqb (c / 4) h) (lit≤ tt) (λ k m n. ap (λ (b : Bool). eqb (suit k) s && b) (ne_eqb (k / 4) h (λ e. omega arith)) ∙ and-false (eqb (suit k) s)))

pub returns : goal.returns
returns c = rw c.suit_mask.ensures (law c.args.suit c.args.height (omega arith))
