-- The 28 places of the piles: each in one pile, at one depth; which of them are buried. No deal is asked.
-- Assumes nothing.
use mathlib.Core.Bool.{Bool, true, false, not, ◌&&◌, ◌||◌}
use mathlib.Core.Path.{◌≡◌, refl, sym, ap, ◌∙◌}
use Prim.Native.Nat.{ℕ, ◌+◌, ◌-◌, ◌≤◌, ◌<◌}
use native.Mathlib.Omega.{arith}
use lib.Dec.{eqb, ltb}
use borrow.Author.Tests.{eqb-true, ltb-true, eq-eqb}
use Rattle.rules.specs.declared.Position.{Position}
use Rattle.rules.specs.Bits.{any_of, all_of}
use Rattle.rules.specs.Places.{pile_start, count, has_head, place_buried}
use Rattle.bits.proofs.Searches.{and_left, and_right, all_yes, any_yes, is_false}
use Rattle.rules.proofs.ProperLaw.{Fits}
use Rattle.rules.specs.Hidden.{buried_at}

-- a place of the piles is in one pile, at one depth: 28 by 28 tests
apart : ℕ → ℕ → ℕ → ℕ → Bool
apart i j x y = not (eqb (pile_start i + j) (pile_start x + y)) || (eqb i x && eqb j y)

apart_all : all_of 7 (λ i. all_of (i + 1) (λ j. all_of 7 (λ x. all_of (x + 1) (λ y. apart i j x y)))) ≡ true
unfolding all_of apart pile_start
apart_all = refl

pub one_place : (i j x y : ℕ) → i < 7 → j ≤ i → x < 7 → y ≤ x → pile_start i + j ≡ pile_start x + y → (i ≡ x) × (j ≡ y)
unfolding apart
one_place i j x y hi hj hx hy e =
    let t : (not (eqb (pile_start i + j) (pile_start x + y)) || (eqb i x && eqb j y)) ≡ true =
    all_yes (x + 1) (λ v. apart i j x v) (all_yes 7 (λ u. all_of (u + 1) (λ v. apart i j u v)) (all_yes (i + 1) (λ w. all_of 7 (λ u. all_of (u + 1) (λ v. apart i w u v))) (all_yes 7 (λ z. all_of (z + 1) (λ w. all_of 7 (λ u. all_of (u + 1) (λ v. apart z w u v)))) apart_all i hi) j (omega arith)) x hx) y (omega arith) in
    let s : (eqb i x && eqb j y) ≡ true = ap (λ (b : Bool). not b || (eqb i x && eqb j y)) (sym (eq-eqb (pile_start i + j) (pile_start x + y) e)) ∙ t in
    (eqb-true i x (and_left (eqb i x) (eqb j y) s), eqb-true j y (and_right (eqb i x) (eqb j y) s))

-- the 28 places of the piles
low_all : all_of 7 (λ i. ltb (pile_start i + i) 28) ≡ true
unfolding all_of pile_start
low_all = refl

pub pile_low : (i k : ℕ) → i < 7 → k ≤ i → pile_start i + k < 28
pile_low i k hi hk = omega (arith, ltb-true (pile_start i + i) 28 (all_yes 7 (λ j. ltb (pile_start j + j) 28) low_all i hi))

pub pile_place : (i k : ℕ) → i < 7 → k ≤ i → pile_start i + k < 52
pile_place i k hi hk = omega (arith, pile_low i k hi hk)

-- each of them is a place of a pile
whole : all_of 28 (λ a. any_of 7 (λ i. any_of (i + 1) (λ k. eqb (pile_start i + k) a))) ≡ true
unfolding all_of any_of pile_start
whole = refl

pub in_pile : (a : ℕ) → a < 28 → (i : ℕ) × (k : ℕ) × (i < 7) × (k ≤ i) × (pile_start i + k ≡ a)
in_pile a l =
    let u = any_yes 7 (λ i. any_of (i + 1) (λ k. eqb (pile_start i + k) a)) (all_yes 28 (λ b. any_of 7 (λ i. any_of (i + 1) (λ k. eqb (pile_start i + k) b))) whole a l) in
    let w = any_yes (u.0 + 1) (λ k. eqb (pile_start u.0 + k) a) u.2 in
    (u.0, w.0, u.1, omega (arith, w.1), eqb-true (pile_start u.0 + w.0) a w.2)

-- ---- buried places

-- a buried place is a place of a pile, before the last of its locked ones
pub buried_in_lem : (p : Position) → Fits p → (a : ℕ) → place_buried p a ≡ true → (i : ℕ) × (k : ℕ) × (i < 7) × (k ≤ i) × (k + 1 < count p i) × (pile_start i + k ≡ a)
unfolding buried_at
buried_in_lem p h a b =
    let u = any_yes 7 (λ i. any_of (count p i - 1) (λ k. eqb (pile_start i + k) a)) b in
    let w = any_yes (count p u.0 - 1) (λ k. eqb (pile_start u.0 + k) a) u.2 in
    let f : count p u.0 ≤ u.0 + 1 = h u.0 u.1 in
    let l : w.0 < count p u.0 - 1 = w.1 in
    (u.0, w.0, u.1, omega arith, omega arith, eqb-true (pile_start u.0 + w.0) a w.2)

-- a head's place is not buried
pub head_place : (p : Position) → Fits p → (i : ℕ) → i < 7 → has_head p i ≡ true → place_buried p (pile_start i + (count p i - 1)) ≡ false
head_place p h i hi t = is_false (place_buried p (pile_start i + (count p i - 1))) clash
  where
    clash : place_buried p (pile_start i + (count p i - 1)) ≡ true → ⊥
    clash b =
        let u = buried_in_lem p h (pile_start i + (count p i - 1)) b in
        let fi : count p i ≤ i + 1 = h i hi in
        let same = one_place u.0 u.1 i (count p i - 1) u.2 u.3 hi (omega arith) u.5 in
        let c : count p u.0 ≡ count p i = ap (count p) same.0 in
        omega (arith, same.1, u.4)

-- a place of the deck is not buried
pub stock_place_lem : (p : Position) → Fits p → (k : ℕ) → place_buried p (28 + k) ≡ false
stock_place_lem p h k = is_false (place_buried p (28 + k)) (λ b. let u = buried_in_lem p h (28 + k) b in omega (arith, pile_low u.0 u.1 u.2 u.3, u.5))
