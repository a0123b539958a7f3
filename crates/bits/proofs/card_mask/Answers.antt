-- `bits::card_mask` meets its contract.
-- Assumes nothing.
use Rattle.std.proofs.Common.{ℕ, ◌*◌, ◌^◌, eqb, ap, ◌∙◌, one-mul}
use Rattle.bits.specs.Bit.{bit}
use Rattle.bits.proofs.Counts.{bit_card}
use Rattle.bits.proofs.Laws.{mask_is, mod_64, bit_mod}
use Rattle.bits.proofs.card_mask.Goals as goal

pub returns : goal.returns
returns c =
    let n = c.args.c in
    mask_is 64 (λ k. eqb k n) _ (mod_64 (1 * 2 ^ n))
    (λ k l. bit_mod 64 (1 * 2 ^ n) k l ∙ ap (λ (x : ℕ). bit x k) (one-mul (2 ^ n)) ∙ bit_card n k)
