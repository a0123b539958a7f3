-- `card::suit_mask` meets its contract: the table is the rule at each of its entries, by one test that antt computes, and past it no card has the number.
-- Assumes nothing.
use Rattle.std.proofs.Common.{◌≡◌, ◌∙◌, ℕ, List, [], ◌∷◌, get_or, rules}
use Rattle.bits.specs.Bit.{mask_of}
use Rattle.card.specs.Cards.{flipped, rank, suit, suit_mask}
use Rattle.card.proofs.Suits.{suit_low, none_there, table_is}
use Rattle.card.proofs.suit_mask.Goals as goal

values : List ℕ
values = 0x4141_4141_4141_4141 ∷ 0x8282_8282_8282_8282 ∷ 0x1414_1414_1414_1414 ∷ 0x2828_2828_2828_2828 ∷ []

values_are : (s : ℕ) → get_or values s 0 ≡ suit_mask s
unfolding values suit_mask mask_of suit flipped rank
values_are = table_is values suit_mask tt (λ s h. none_there suit 4 s suit_low h)

pub returns : goal.returns
unfolding values
returns c =
    let e : c.unwrap_or.result ≡ get_or values c.args.suit 0 = search rules in
    e ∙ values_are c.args.suit
