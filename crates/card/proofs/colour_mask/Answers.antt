-- `card::colour_mask` meets its contract: the table is the rule at each of its entries, by one test that antt computes, and past it no card has the number.
-- Assumes nothing.
use Rattle.std.proofs.Common.{◌≡◌, ◌∙◌, ℕ, List, [], ◌∷◌, get_or, rules}
use Rattle.bits.specs.Bit.{mask_of}
use Rattle.card.specs.Cards.{flipped, rank, suit, colour, colour_mask}
use Rattle.card.proofs.Suits.{colour_low, none_there, table_is}
use Rattle.card.proofs.colour_mask.Goals as goal

values : List ℕ
values = 0xC3C3_C3C3_C3C3_C3C3 ∷ 0x3C3C_3C3C_3C3C_3C3C ∷ []

values_are : (s : ℕ) → get_or values s 0 ≡ colour_mask s
unfolding values colour_mask mask_of suit flipped rank colour
values_are = table_is values colour_mask tt (λ s h. none_there (λ c. colour (suit c)) 2 s colour_low h)

pub returns : goal.returns
unfolding values
returns c =
    let e : c.unwrap_or.result ≡ get_or values c.args.colour 0 = search rules in
    e ∙ values_are c.args.colour
