-- A test of each number below n, as a test of each element of a list.
-- Assumes nothing.
use Rattle.std.proofs.Common.{◌≡◌, refl, ap, ℕ, List, [], ◌∷◌, Bool, ◌&&◌, get_or, length}
use Rattle.std.specs.List.{list_all}
use Rattle.bits.specs.Bit.{all_of}

pub all_of_list : (test : ℕ → Bool) (xs : List ℕ) → all_of (length xs) (λ k. test (get_or xs k 0)) ≡ list_all test xs
unfolding all_of
all_of_list test [] = refl
all_of_list test (x ∷ xs) = ap (λ (b : Bool). test x && b) (all_of_list test xs)
