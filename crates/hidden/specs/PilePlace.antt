-- A card by its place in a pile, counted from 1: what the searches for a pile and the turning of its head share.
use Rattle.std.specs.Prelude.{Bool, ◌&&◌, cond, List, ℕ, ◌+◌, ◌-◌, eqb, ltb, leb, get_or, Option, Some, None}
use Rattle.rules.specs.declared.TurnedUp.{TurnedUp}
use Rattle.rules.specs.declared.TurnedUp.TheVariants.{Emptied, Card}
use Rattle.rules.specs.Hidden.{placed}

-- pile i has so many places
abbrev pub has_place : ℕ → ℕ → Bool
has_place m i = ltb 0 m && leb m (i + 1)

-- c stands at place n + up of pile i, where its count is n
abbrev pub stands_at : List ℕ → List ℕ → ℕ → ℕ → ℕ → Bool
stands_at d counts up c i = has_place (get_or counts i 0 + up) i && eqb (placed d i (get_or counts i 0 + up - 1)) c

-- k, where it is below n: a search below n ends at n where it finds none
abbrev pub some_below : ℕ → ℕ → Option ℕ
some_below n k = cond (ltb k n) (Some k) None

-- the card at place m of pile i; where m is 0 the pile is emptied
abbrev pub last_of : List ℕ → ℕ → ℕ → TurnedUp
last_of d i m = cond (ltb 0 m) (Card (record { 0 = placed d i (m - 1) })) Emptied
