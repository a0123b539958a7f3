-- Searches and counts with one more at the end, as a loop that goes up to n + 1 goes.
-- Assumes nothing.
use Rattle.std.proofs.Common.{◌≡◌, ℕ, ◌+◌, ◌<◌, ◌≤◌, Bool, true, false, ◌||◌, ltb, sym, refl, ap, ◌∙◌, true≢false, add-one, arith, ltb-false, ltb-true}
use Rattle.bits.specs.Bit.{num, count_of, all_of, any_of, first_of}
use Rattle.bits.proofs.Searches.{and_both, all_yes, all_snoc, any_snoc, count_snoc, first_yes, first_least, first_le}
use Rattle.bits.proofs.Tables.{same_test}

pub all_more : (n : ℕ) (f : ℕ → Bool) → all_of n f ≡ true → f n ≡ true → all_of (n + 1) f ≡ true
all_more n f h e = ap (λ (j : ℕ). all_of j f) (add-one n) ∙ all_snoc n f ∙ and_both (all_of n f) (f n) h e

pub no_all : (n : ℕ) (f : ℕ → Bool) (k : ℕ) → k < n → f k ≡ false → all_of n f ≡ false
no_all n f k l e = same_test (all_of n f) false (λ h. sym e ∙ all_yes n f h k l) (λ h. absurd (true≢false (sym h)))

pub any_more : (n : ℕ) (f : ℕ → Bool) → any_of (n + 1) f ≡ (any_of n f || f n)
any_more n f = ap (λ (j : ℕ). any_of j f) (add-one n) ∙ any_snoc n f

pub count_more : (n : ℕ) (f : ℕ → Bool) → count_of (n + 1) f ≡ count_of n f + num (f n)
count_more n f = ap (λ (j : ℕ). count_of j f) (add-one n) ∙ count_snoc n f

-- a search that has failed so far: it ends at the first that passes, or with none
pub first_at : (n : ℕ) (f : ℕ → Bool) (k : ℕ) → k < n → ((j : ℕ) → j < k → f j ≡ true → ⊥) → f k ≡ true → first_of n f ≡ k
first_at n f k l h e =
    let m : first_of n f ≤ k = first_least n f k l e in
    go (ltb (first_of n f) k) refl m
  where
    go : (b : Bool) → ltb (first_of n f) k ≡ b → first_of n f ≤ k → first_of n f ≡ k
    go true t m = let s : first_of n f < k = ltb-true (first_of n f) k t in absurd (h (first_of n f) s (first_yes n f (omega arith)))
    go false t m = omega (arith, ltb-false (first_of n f) k t)

pub first_none : (n : ℕ) (f : ℕ → Bool) → ((j : ℕ) → j < n → f j ≡ true → ⊥) → first_of n f ≡ n
first_none n f h = go (ltb (first_of n f) n) refl
  where
    go : (b : Bool) → ltb (first_of n f) n ≡ b → first_of n f ≡ n
    go true t = let s : first_of n f < n = ltb-true (first_of n f) n t in absurd (h (first_of n f) s (first_yes n f s))
    go false t = omega (arith, ltb-false (first_of n f) n t, first_le n f)
