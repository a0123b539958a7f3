-- The source's single constants, by the card-number rule.
-- Assumes nothing.
use Rattle.std.specs.Prelude.{◌*◌, nat_eq}
use Rattle.bits.specs.Bit.{mask_of}
use Rattle.card.specs.declared.Tied.{Tied}
use Rattle.card.specs.Cards.{card_of, rank, pair, is_king}

unfoldable pub constants_are : Tied
constants_are =
    record {
      -- the four kings
      king = mask_of 52 is_king;
      -- of the two pairs of each rank the first; of the two cards of each pair the first; of the four cards of each rank the first
      half = mask_of 64 (λ c. nat_eq (pair c) (2 * rank c));
      alt = mask_of 64 (λ c. nat_eq c (2 * pair c));
      rank = mask_of 64 (λ c. nat_eq c (4 * rank c));
      -- rank 0 and suit 0; the rank past the kings and suit 0: number 54
      default = record { 0 = card_of 0 0 };
      invalid = record { 0 = card_of 13 0 };
    }
