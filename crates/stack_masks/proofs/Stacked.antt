-- The cards on the foundations as a mask: what one turn of the loop over the suits adds, and what it ends with.
-- Assumes nothing.
use mathlib.Core.Bool.{Bool, true, false, ◌&&◌, ◌||◌, or-false, and-false}
use mathlib.Core.Path.{◌≡◌, refl, sym, ap, ap₂, ◌∙◌}
use mathlib.Core.List.{List}
use Prim.Native.Nat.{ℕ, ◌+◌, ◌-◌, ◌*◌, ◌/◌, ◌%◌, ◌^◌, ◌≤◌, ◌<◌}
use native.Mathlib.Nat.{one-mul, mod-eq_of_lt, lt_of_le_of_lt}
use native.Mathlib.Omega.{arith}
use lib.Dec.{eqb, ltb, lit≤, lit<}
use lib.ListN.{get_or}
use lib.Pow.{pow_mono}
use lib.Bits.{bit_and, bit_or}
use borrow.Author.Tests.{eqb-true, eqb-false, ltb-true, lt-ltb, le-ltb}
use Rattle.bits.specs.Bit.{mask_of}
use Rattle.bits.proofs.Laws.{mask_is, mask_ext}
use Rattle.bits.proofs.Full.{none_mask, bit_ones}
use Rattle.bits.proofs.Algebra.{or_masks, and_masks, mask_cut}
use Rattle.bits.proofs.Tables.{same_test}
use Rattle.rules.specs.Cards.{rank, suit, suit_mask}
use Rattle.rules.specs.Foundations.{stacked_on}
use Rattle.rules.proofs.Suits.{suit_low}

-- ---- the foundations of the first s suits

pub stacked_to : List ℕ → ℕ → ℕ
stacked_to h s = mask_of 52 (λ c. ltb (suit c) s && stacked_on h c)

pub stacked_none : (h : List ℕ) → 0 ≡ stacked_to h 0
unfolding stacked_to
stacked_none h = sym (mask_ext 52 _ (λ c. false) (λ c l. ap (λ (b : Bool). b && stacked_on h c) (le-ltb (suit c) 0 (omega arith))) ∙ none_mask 52)

quarter : (k x : ℕ) → ltb k (4 * x) ≡ ltb (k / 4) x
quarter k x = same_test (ltb k (4 * x)) (ltb (k / 4) x) (λ t. lt-ltb (k / 4) x (omega (arith, ltb-true k (4 * x) t))) (λ t. lt-ltb k (4 * x) (omega (arith, ltb-true (k / 4) x t)))

suit_step : (h : List ℕ) (s x k : ℕ) → x ≡ get_or h s 0 → ((ltb (suit k) s && stacked_on h k) || (eqb (suit k) s && ltb k (4 * x))) ≡ (ltb (suit k) (s + 1) && stacked_on h k)
unfolding stacked_on rank
suit_step h s x k ex = go (eqb (suit k) s) refl
  where
    go : (b : Bool) → eqb (suit k) s ≡ b → ((ltb (suit k) s && ltb (k / 4) (get_or h (suit k) 0)) || (eqb (suit k) s && ltb k (4 * x))) ≡ (ltb (suit k) (s + 1) && ltb (k / 4) (get_or h (suit k) 0))
    go true e =
        let i : suit k ≡ s = eqb-true (suit k) s e in
        ap₂ (λ (u v : Bool). (u && ltb (k / 4) (get_or h (suit k) 0)) || (v && ltb k (4 * x))) (le-ltb (suit k) s (omega arith)) e
        ∙ quarter k x ∙ ap (ltb (k / 4)) (ex ∙ ap (λ (y : ℕ). get_or h y 0) (sym i))
        ∙ ap (λ (u : Bool). u && ltb (k / 4) (get_or h (suit k) 0)) (sym (lt-ltb (suit k) (s + 1) (omega arith)))
    go false e =
        let ne : suit k ≡ s → ⊥ = eqb-false (suit k) s e in
        ap (λ (v : Bool). (ltb (suit k) s && ltb (k / 4) (get_or h (suit k) 0)) || (v && ltb k (4 * x))) e
        ∙ or-false (ltb (suit k) s && ltb (k / 4) (get_or h (suit k) 0))
        ∙ ap (λ (u : Bool). u && ltb (k / 4) (get_or h (suit k) 0))
        (same_test (ltb (suit k) s) (ltb (suit k) (s + 1)) (λ t. lt-ltb (suit k) (s + 1) (omega (arith, ltb-true (suit k) s t))) (λ t. lt-ltb (suit k) s (omega (arith, ltb-true (suit k) (s + 1) t))))

pub shifted_exact : (x : ℕ) → x ≤ 13 → 1 * 2 ^ (4 * x) % 2 ^ 64 ≡ 2 ^ (4 * x)
shifted_exact x l =
    let e : 4 * x ≤ 52 = omega arith in
    ap (λ (y : ℕ). y % 2 ^ 64) (one-mul (2 ^ (4 * x))) ∙ mod-eq_of_lt (lt_of_le_of_lt (pow_mono e) (lit< tt))

pub stacked_more : (h : List ℕ) (s x : ℕ) → x ≡ get_or h s 0 → x ≤ 13 → bit_or (stacked_to h s) (bit_and (suit_mask s) (mask_of 64 (λ c. ltb c (4 * x)))) ≡ stacked_to h (s + 1)
unfolding stacked_to suit_mask
stacked_more h s x e low =
    ap (bit_or (mask_of 52 (λ c. ltb (suit c) s && stacked_on h c)))
    (and_masks 64 64 (λ c. eqb (suit c) s) (λ c. ltb c (4 * x)) (lit≤ tt)
    ∙ sym (mask_cut 52 64 (λ c. eqb (suit c) s && ltb c (4 * x)) (lit≤ tt) (λ k m n. ap (λ (b : Bool). eqb (suit k) s && b) (le-ltb k (4 * x) (omega arith)) ∙ and-false (eqb (suit k) s))))
    ∙ or_masks 52 (λ c. ltb (suit c) s && stacked_on h c) (λ c. eqb (suit c) s && ltb c (4 * x)) ∙ mask_ext 52 _ _ (λ k l. suit_step h s x k e)

-- the same with the mask as one shifted, less 1
pub stacked_step : (h : List ℕ) (s x m : ℕ) → x ≡ get_or h s 0 → x ≤ 13 → m ≡ suit_mask s → bit_or (stacked_to h s) (bit_and m (1 * 2 ^ (4 * x) % 2 ^ 64 - 1)) ≡ stacked_to h (s + 1)
stacked_step h s x m ex lx em =
    let q : 4 * x ≤ 52 = omega arith in
    let w : 2 ^ (4 * x) ≤ 2 ^ 52 = pow_mono q in
    let low : 2 ^ (4 * x) - 1 < 2 ^ 64 = omega arith in
    ap₂ (λ (a b : ℕ). bit_or (stacked_to h s) (bit_and a (b - 1))) em (shifted_exact x lx)
    ∙ ap (λ (b : ℕ). bit_or (stacked_to h s) (bit_and (suit_mask s) b)) (mask_is 64 (λ c. ltb c (4 * x)) (2 ^ (4 * x) - 1) low (λ k l. bit_ones (4 * x) k))
    ∙ stacked_more h s x ex lx

pub stacked_are : (h : List ℕ) → stacked_to h 4 ≡ mask_of 52 (stacked_on h)
unfolding stacked_to
stacked_are h = mask_ext 52 _ (stacked_on h) (λ c l. ap (λ (b : Bool). b && stacked_on h c) (lt-ltb (suit c) 4 (suit_low c)))
