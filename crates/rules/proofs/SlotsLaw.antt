-- A deck's 24 slots. Assumes nothing.
use mathlib.Core.List.{List, ◌++◌}
use mathlib.Core.Path.{◌≡◌, ◌∙◌}
use Prim.Native.Nat.{ℕ, ◌≤◌}
use native.Mathlib.Omega.{arith}
use lib.ListN.{length, take, replicate, length-append, length-replicate}
use lib.Seq.{take-take, take_at, length-take-le}
use Rattle.rules.specs.Play.{slots}

-- cards put in front of a deck's slots are the cards left
pub slots_front : (xs : List ℕ) (n : ℕ) → length xs ≡ n → n ≤ 24 → take n (slots xs) ≡ xs
unfolding slots
slots_front xs n e l = take-take n 24 (xs ++ replicate 24 0) l ∙ take_at xs (replicate 24 0) n e

pub slots_length : (xs : List ℕ) → length (slots xs) ≡ 24
unfolding slots
slots_length xs = length-take-le 24 (xs ++ replicate 24 0) (simp (length-append, length-replicate) (omega arith))
