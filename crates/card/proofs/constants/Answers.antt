-- `card::constants` meets its contract: one test that antt computes.
-- Assumes nothing.
use Rattle.std.proofs.Common.{refl}
use Rattle.bits.specs.Bit.{mask_of}
use Rattle.card.specs.Cards.{flipped, card_of, rank, pair, is_king}
use Rattle.card.specs.Constants.{constants_are}
use Rattle.card.proofs.constants.Goals as goal

pub returns : goal.returns
unfolding constants_are mask_of flipped card_of rank pair is_king
returns c = refl
