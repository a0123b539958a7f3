-- Computed tests that the card rule of specs/Cards.antt says what document 01 says of cards, and that on the cards 0 to 51 each method answers by it.
-- Assumes nothing.
use Rattle.std.proofs.Common.{◌≡◌, ◌+◌, true, not, ◌&&◌, eqb, refl, None}
use mathlib.Core.Bool.{beq}
use Rattle.bits.specs.Bit.{all_of}
use Rattle.card.specs.Cards.{flipped, card_of, rank, suit, colour, pair, partner, higher, lies_on, is_king}
use Rattle.card.specs.Methods.{number_of, king_or_fake, twin, above, below, goes_after}

-- rank and suit give the card back, and a card its rank and suit
pub named : all_of 52 (λ c. eqb (card_of (rank c) (suit c)) c) ≡ true
unfolding all_of flipped card_of rank suit colour pair partner higher lies_on is_king
named = refl

pub numbered : all_of 13 (λ r. all_of 4 (λ s. eqb (rank (card_of r s)) r && eqb (suit (card_of r s)) s)) ≡ true
unfolding all_of flipped card_of rank suit colour pair partner higher lies_on is_king
numbered = refl

-- a card lies on the cards one rank higher and of the other colour, and on no other
pub lies : all_of 52 (λ c. all_of 52 (λ d. beq (lies_on c d) (eqb (rank d) (rank c + 1) && not (eqb (colour (suit d)) (colour (suit c)))))) ≡ true
unfolding all_of flipped card_of rank suit colour pair partner higher lies_on is_king
lies = refl

-- the two of a pair are the two cards of one rank and colour
pub pairs : all_of 52 (λ c. eqb (rank (partner c)) (rank c) && eqb (colour (suit (partner c))) (colour (suit c)) && not (eqb (partner c) c) && eqb (pair (partner c)) (pair c)) ≡ true
unfolding all_of flipped card_of rank suit colour pair partner higher lies_on is_king
pairs = refl

-- `new` gives the card of each rank and suit; `is_king` and `go_after` with nothing there say king
pub made : all_of 13 (λ r. all_of 4 (λ s. eqb (number_of r s) (card_of r s))) ≡ true
unfolding all_of flipped card_of number_of
made = refl

pub kings : all_of 52 (λ c. beq (king_or_fake c) (is_king c) && beq (goes_after c None) (is_king c)) ≡ true
unfolding all_of rank is_king king_or_fake goes_after
kings = refl

-- `swap_color` keeps the rank and changes the colour
pub twins : all_of 52 (λ c. eqb (rank (twin c)) (rank c) && not (eqb (colour (suit (twin c))) (colour (suit c)))) ≡ true
unfolding all_of flipped rank suit colour twin
twins = refl

-- a card lies on the one that `increase_rank_swap_color` gives, and `reduce_rank_swap_color` leads back; what it gives of any card but an ace lies on that card
pub steps : all_of 52 (λ c. lies_on c (above c) && eqb (below (above c)) c && beq (lies_on (below c) c) (not (eqb (rank c) 0))) ≡ true
unfolding all_of rank pair higher lies_on above below
steps = refl
