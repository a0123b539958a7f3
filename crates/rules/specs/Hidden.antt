-- Document 01, "The position", of a deal and seven counts alone: the locked cards of the piles, as they are found, turned up and turned back.
-- Places says the same of a position, by these.
use Rattle.std.specs.Prelude.{Bool, ◌&&◌, cond, List, ℕ, zero, suc, ◌+◌, ◌-◌, ◌≤◌, ◌<◌, eqb, ltb, leb, get_or, set}
use Rattle.rules.specs.declared.TurnedUp.{TurnedUp}
use Rattle.rules.specs.declared.TurnedUp.TheVariants.{Emptied, Card}
use Rattle.rules.specs.Bits.{any_of, all_of, first_of}
-- "Pile i (0 to 6) takes i+1 cards from its start": starts 0, 1, 3, 6, 10, 15, 21
unfoldable pub use Rattle.card.specs.Cards.{pile_start}
-- the cards at the k places of d from s on, each byte taken modulo 64: cards_from d s k
unfoldable pub use Rattle.card.specs.Cards.{cards_from}

-- "A deal is 52 card numbers": each is below 52. "seven counts n_i from 0 to i+1"
abbrev pub CardsFit : List ℕ → Type 0
CardsFit d = (k : ℕ) → k < 52 → get_or d k 0 < 52

abbrev pub CountsFit : List ℕ → Type 0
CountsFit n = (i : ℕ) → i < 7 → get_or n i 0 ≤ i + 1

-- place k of pile i in the deal d
abbrev pub placed : List ℕ → ℕ → ℕ → ℕ
placed d i k = get_or d (pile_start i + k) 0

-- "The first n_i places of pile i are locked"
unfoldable pub locked_in : List ℕ → List ℕ → ℕ → Bool
locked_in d n c = any_of 7 (λ i. any_of (get_or n i 0) (λ k. eqb (placed d i k) c))

-- "the last of them is the head": pile i has one when n_i is not 0
abbrev pub head_of : List ℕ → List ℕ → ℕ → ℕ → Bool
head_of d n c i = ltb 0 (get_or n i 0) && eqb (placed d i (get_or n i 0 - 1)) c

unfoldable pub head_in : List ℕ → List ℕ → ℕ → Bool
head_in d n c = any_of 7 (λ i. head_of d n c i)

-- "the ones before it are buried": a card, and a place of the deal
unfoldable pub buried_in : List ℕ → List ℕ → ℕ → Bool
buried_in d n c = any_of 7 (λ i. any_of (get_or n i 0 - 1) (λ k. eqb (placed d i k) c))

unfoldable pub buried_at : List ℕ → ℕ → Bool
buried_at n k = any_of 7 (λ i. any_of (get_or n i 0 - 1) (λ j. eqb (pile_start i + j) k))

-- "the base of its pile": the first card of one of the piles
unfoldable pub base_in : List ℕ → ℕ → Bool
base_in d c = any_of 7 (λ i. eqb (placed d i 0) c)

-- a head c that is the one card of its pile's locked places. (A head is at its base just then: `base_is` of proofs/HeadPlaces)
unfoldable pub alone_in : List ℕ → List ℕ → ℕ → Bool
alone_in d n c = any_of 7 (λ i. eqb (get_or n i 0) 1 && eqb (placed d i (get_or n i 0 - 1)) c)

-- the pile that a card was dealt to, or 7 for a card of the deck
unfoldable pub dealt_to : List ℕ → ℕ → ℕ
dealt_to d c = first_of 7 (λ i. any_of (i + 1) (λ k. eqb (placed d i k) c))

-- the pile whose head is c; the pile whose first card that is not locked is c, the card that a head left last. 7 where there is none
unfoldable pub head_pile : List ℕ → List ℕ → ℕ → ℕ
head_pile d n c = first_of 7 (λ i. head_of d n c i)

abbrev pub bare_of : List ℕ → List ℕ → ℕ → ℕ → Bool
bare_of d n c i = leb (get_or n i 0) i && eqb (placed d i (get_or n i 0)) c

unfoldable pub bare_pile : List ℕ → List ℕ → ℕ → ℕ
bare_pile d n c = first_of 7 (λ i. bare_of d n c i)

-- the counts with pile i one lower; one higher
unfoldable pub one_less : List ℕ → ℕ → List ℕ
one_less n i = set n i (get_or n i 0 - 1)

unfoldable pub one_more : List ℕ → ℕ → List ℕ
one_more n i = set n i (get_or n i 0 + 1)

-- "Removing a head turns up the card under it"; the card that is covered when the head comes back. Emptied where there is no such card
unfoldable pub under_in : List ℕ → List ℕ → ℕ → TurnedUp
under_in d n i = cond (ltb 1 (get_or n i 0)) (Card (record { 0 = placed d i (get_or n i 0 - 2) })) Emptied

unfoldable pub covered_in : List ℕ → List ℕ → ℕ → TurnedUp
covered_in d n i = cond (ltb 0 (get_or n i 0)) (Card (record { 0 = placed d i (get_or n i 0 - 1) })) Emptied

-- no card is buried; how many are
unfoldable pub all_up : List ℕ → Bool
all_up n = all_of 7 (λ i. leb (get_or n i 0) 1)

unfoldable pub sum_of : ℕ → (ℕ → ℕ) → ℕ
sum_of zero f = 0
sum_of (suc n) f = f 0 + sum_of n (λ k. f (suc k))

unfoldable pub down_cards : List ℕ → ℕ
down_cards n = sum_of 7 (λ i. get_or n i 0 - 1)
