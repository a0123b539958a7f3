-- The face-up piles as their filler reads them: from the mask of the visible cards and that of the free cards.
-- `proofs/Reading.antt` shows that on a proper position these are the definitions of `rules`.
use Rattle.std.specs.Prelude.{not, ◌&&◌, ◌||◌, cond, List, [], ◌∷◌, ◌++◌, map, ℕ, zero, suc, ◌+◌, ◌-◌, eqb, take, replicate}
use Rattle.bits.specs.Bit.{bit, list_of}
use Rattle.rules.specs.Cards.{rank, partner, card_of}

-- "Under a card whose pair partner is also visible goes only the free card exactly four lower; otherwise that card or, failing it, its partner":
-- the card to try under c
unfoldable pub tried_of : ℕ → ℕ → ℕ → ℕ
tried_of vis free c = cond (bit vis (partner c) || bit free (c - 4)) (c - 4) (partner (c - 4))

-- c and what goes under it, one after the other, while that is free; under an ace goes nothing
unfoldable pub run_of : ℕ → ℕ → ℕ → ℕ → List ℕ
run_of vis free zero c = []
run_of vis free (suc n) c =
    c ∷ cond (not (eqb (rank c) 0) && bit free (tried_of vis free c)) (run_of vis free n (tried_of vis free c)) []

-- free kings, by suit, from suit s on
unfoldable pub kings_of : ℕ → ℕ → List ℕ
kings_of free s = map (card_of 12) (list_of (4 - s) s (λ k. bit free (card_of 12 (s + k))))

-- the run of the first king, if there is one
abbrev pub first_run_of : ℕ → ℕ → List ℕ → List ℕ
first_run_of vis free [] = []
first_run_of vis free (k ∷ ks) = run_of vis free 13 k

-- "unused bytes become 255": a pile's 13 bytes
abbrev pub row : List ℕ → List ℕ
row r = take 13 (r ++ replicate 13 255)
