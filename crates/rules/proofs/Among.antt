-- Which numbers stand in a list, and how often.
-- Assumes nothing.
use mathlib.Core.Bool.{Bool, true, false, ◌||◌}
use mathlib.Core.Path.{◌≡◌, refl, sym, ap, ◌∙◌}
use mathlib.Core.List.{List, [], ◌∷◌, ◌++◌}
use Prim.Native.Nat.{ℕ, ◌+◌, ◌≤◌}
use native.Mathlib.Omega.{arith}
use lib.Dec.{eqb, ltb}
use lib.ListN.{length, get_or, take}
use lib.Seq.{length-take-le, get_or-take}
use borrow.Author.Tests.{lt-ltb}
use Rattle.rules.specs.Bits.{num, any_of, times}
use Rattle.bits.proofs.Searches.{any_ext}

-- c is in the list
unfoldable pub among : List ℕ → ℕ → Bool
among [] c = false
among (x ∷ xs) c = eqb x c || among xs c

-- the same by a search through its places; through the first n of them
pub any_among : (l : List ℕ) (c : ℕ) → any_of (length l) (λ k. eqb (get_or l k 0) c) ≡ among l c
unfolding any_of among
any_among [] c = refl
any_among (x ∷ l) c = ap (λ (b : Bool). eqb x c || b) (any_among l c)

pub any_front : (n : ℕ) (l : List ℕ) (c : ℕ) → n ≤ length l → any_of n (λ k. eqb (get_or l k 0) c) ≡ among (take n l) c
any_front n l c h =
    any_ext n (λ k. eqb (get_or l k 0) c) (λ k. eqb (get_or (take n l) k 0) c) (λ k m. ap (λ (x : ℕ). eqb x c) (sym (get_or-take n l k 0 m)))
    ∙ ap (λ (m : ℕ). any_of m (λ k. eqb (get_or (take n l) k 0) c)) (sym (length-take-le n l h))
    ∙ any_among (take n l) c

-- it is in the list just where it stands there at least once
pub among_times : (l : List ℕ) (c : ℕ) → among l c ≡ ltb 0 (times c l)
unfolding among times
among_times [] c = refl
among_times (x ∷ l) c = ap (λ (b : Bool). eqb x c || b) (among_times l c) ∙ go (eqb x c) (times c l)
  where
    go : (b : Bool) (m : ℕ) → (b || ltb 0 m) ≡ ltb 0 (num b + m)
    go true m = sym (lt-ltb 0 (1 + m) (omega arith))
    go false m = let e : m ≡ 0 + m = omega arith in ap (ltb 0) e

pub times_append : (x : ℕ) (a b : List ℕ) → times x (a ++ b) ≡ times x a + times x b
unfolding times
times_append x [] b = omega arith
times_append x (y ∷ a) b = omega (arith, times_append x a b)
