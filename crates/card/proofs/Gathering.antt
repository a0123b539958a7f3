-- A mask that a loop gathers, a byte at a time.
-- Assumes nothing.
use Rattle.std.proofs.Common.{◌≡◌, ℕ, ◌+◌, ◌*◌, ◌%◌, ◌^◌, ◌<◌, Bool, ◌||◌, eqb, List, get_or, sym, ap, ◌∙◌, ap₂, one-mul}
use lib.Bits.{bit_and, bit_or, and_mask}
use Rattle.bits.specs.Bit.{bit, mask_of, any_of}
use Rattle.bits.proofs.Laws.{bit-or, bit_mask, bit_mod, mask_is, mask_lt, mask_ext, mod_64, or_small}
use Rattle.bits.proofs.Counts.{bit_card}
use Rattle.bits.proofs.Searches.{eqb_sym}
use Rattle.bits.proofs.Steps.{any_more}
use Rattle.card.specs.Cards.{cards_from}

-- `1 << c`
pub bit_shifted : (c k : ℕ) → k < 64 → bit (1 * 2 ^ c % 2 ^ 64) k ≡ eqb c k
bit_shifted c k l = bit_mod 64 (1 * 2 ^ c) k l ∙ ap (λ (x : ℕ). bit x k) (one-mul (2 ^ c)) ∙ bit_card c k ∙ eqb_sym k c

or_card : (f : ℕ → Bool) (c : ℕ) → bit_or (mask_of 64 f) (1 * 2 ^ c % 2 ^ 64) ≡ mask_of 64 (λ k. f k || eqb c k)
or_card f c =
    mask_is 64 (λ k. f k || eqb c k) _ (or_small _ _ (mask_lt 64 f) (mod_64 (1 * 2 ^ c)))
    (λ k l. bit-or (mask_of 64 f) (1 * 2 ^ c % 2 ^ 64) k ∙ ap₂ ◌||◌ (bit_mask 64 f k l) (bit_shifted c k l))

pub cards_step : (d : List ℕ) (s k : ℕ) → bit_or (cards_from d s k) (1 * 2 ^ bit_and (get_or d (s + k) 0) 63 % 2 ^ 64) ≡ cards_from d s (k + 1)
unfolding cards_from
cards_step d s k =
    ap (λ (x : ℕ). bit_or (mask_of 64 (λ c. any_of k (λ j. eqb (get_or d (s + j) 0 % 64) c))) (1 * 2 ^ x % 2 ^ 64)) (and_mask (get_or d (s + k) 0) 6)
    ∙ or_card (λ c. any_of k (λ j. eqb (get_or d (s + j) 0 % 64) c)) (get_or d (s + k) 0 % 64)
    ∙ mask_ext 64 _ _ (λ c l. sym (any_more k (λ j. eqb (get_or d (s + j) 0 % 64) c)))
