-- Three cards at least: one is left when the lowest two are gone.
-- Assumes nothing.
use mathlib.Core.Bool.{Bool, not, ◌&&◌}
use mathlib.Core.Path.{◌≡◌, sym, ap, ◌∙◌}
use mathlib.Core.Logic.{⊎_elim}
use Prim.Native.Nat.{ℕ, ◌-◌, ◌≤◌, ◌<◌, ◌^◌}
use native.Mathlib.Nat.{eq-zero-or-pos}
use native.Mathlib.Omega.{arith}
use lib.Bits.{bit_and, and_le_l}
use lib.Dec.{eqb, ltb, leb, lit<}
use borrow.Author.Tests.{lt-ltb, le-ltb, le-leb, lt-leb}
use Rattle.bits.specs.Bit.{bit, mask_of, first_of}
use Rattle.bits.proofs.Laws.{mask_is, mask_lt, bit_none}
use Rattle.bits.proofs.Counts.{count_step, count_zero, clear_bit, tz_first}
use Rattle.rules.specs.Pruned.{size}

-- m without its lowest card
abbrev pub rest : ℕ → ℕ
rest m = mask_of 64 (λ k. bit m k && not (eqb k (first_of 64 (bit m))))

one_less_lem : (m : ℕ) → m < 2 ^ 64 → size (rest m) ≡ size m - 1
unfolding size
one_less_lem m h = ⊎_elim none some (eq-zero-or-pos m)
  where
    none : m ≡ 0 → size (rest m) ≡ size m - 1
    none e =
        let gone : 0 ≡ rest 0 = mask_is 64 (λ k. bit 0 k && not (eqb k (first_of 64 (bit 0)))) 0 (lit< tt) (λ k l. bit_none k ∙ sym (ap (λ (b : Bool). b && not (eqb k (first_of 64 (bit 0)))) (bit_none k))) in
        ap (λ (x : ℕ). size (rest x)) e ∙ ap size (sym gone) ∙ count_zero 64 ∙ sym (ap (λ (x : ℕ). size x - 1) e ∙ ap (λ (x : ℕ). x - 1) (count_zero 64))

    some : 0 < m → size (rest m) ≡ size m - 1
    some p =
        let low : bit_and m (m - 1) ≤ m = and_le_l m (m - 1) in
        let left : bit_and m (m - 1) ≡ rest m =
        mask_is 64 (λ k. bit m k && not (eqb k (first_of 64 (bit m)))) (bit_and m (m - 1)) (omega arith) (λ k l. clear_bit 64 m k p h ∙ ap (λ (t : ℕ). bit m k && not (eqb k t)) (tz_first 64 m)) in
        ap size (sym left) ∙ omega (arith, count_step 64 m p h)

pub three_left : (m : ℕ) → m < 2 ^ 64 → ltb 0 (rest (rest m)) ≡ leb 3 (size m)
unfolding size
three_left m h = ⊎_elim few many (eq-zero-or-pos (rest (rest m)))
  where
    left : size (rest (rest m)) ≡ size m - 1 - 1
    left = one_less_lem (rest m) (mask_lt 64 _) ∙ ap (λ (x : ℕ). x - 1) (one_less_lem m h)

    few : rest (rest m) ≡ 0 → ltb 0 (rest (rest m)) ≡ leb 3 (size m)
    few e = le-ltb 0 (rest (rest m)) (omega arith) ∙ sym (lt-leb 3 (size m) (omega (arith, left, ap size e ∙ count_zero 64)))

    many : 0 < rest (rest m) → ltb 0 (rest (rest m)) ≡ leb 3 (size m)
    many p = lt-ltb 0 (rest (rest m)) p ∙ sym (le-leb 3 (size m) (omega (arith, left, count_step 64 (rest (rest m)) p (mask_lt 64 _))))
