-- The cards of the stock that a mask has, written from the front of the slots; and slots held against them.
-- Assumes nothing.
use mathlib.Core.Bool.{Bool, true, false, not, ◌&&◌, true≢false}
use mathlib.Core.Path.{◌≡◌, refl, sym, ap, ◌∙◌}
use mathlib.Core.List.{List, [], ◌∷◌, ◌++◌, append-nil}
use Prim.Native.Nat.{ℕ, ◌+◌, ◌≤◌, ◌<◌}
use native.Mathlib.Nat.{add-zero, le_refl}
use native.Mathlib.Numerals.{add-one}
use native.Mathlib.Omega.{arith}
use lib.Dec.{eqb, ltb}
use lib.ListN.{get_or, length, take, set}
use lib.Seq.{take-suc, take-suc-set, take-set-le, get_or-take, length-take-le, ext_get_or}
use borrow.Author.Tests.{eqb-true, eq-eqb, ltb-true, lt-ltb, not-true}
use Rattle.bits.specs.Bit.{bit, num, cons_if}
use Rattle.rules.specs.Bits.{any_of, same_list}
use Rattle.bits.proofs.Searches.{any_yes, yes_any, and_left, and_right, and_both}
use Rattle.rules.proofs.SameList.{same_list_lem, list_same}
use Rattle.bits.proofs.Tables.{same_test}
use Rattle.proper.specs.Sets.{picked}
use Rattle.proper.proofs.Whole.{refuse}

picked_snoc : (m : ℕ) (xs : List ℕ) (y : ℕ) → picked m (xs ++ (y ∷ [])) ≡ picked m xs ++ cons_if (bit m y) y []
unfolding picked
picked_snoc m [] y = refl
picked_snoc m (x ∷ xs) y = go (bit m x) (picked_snoc m xs y)
  where
    go : (b : Bool) → picked m (xs ++ (y ∷ [])) ≡ picked m xs ++ cons_if (bit m y) y [] → cons_if b x (picked m (xs ++ (y ∷ []))) ≡ cons_if b x (picked m xs) ++ cons_if (bit m y) y []
    go true e = ap (λ (l : List ℕ). x ∷ l) e
    go false e = e

-- one more card of the stock is written, and stays where the mask has it
pub pick_step : (m : ℕ) (ys cards : List ℕ) (n k y : ℕ) → k < length ys → y ≡ get_or ys k 0 → n < length cards → take n cards ≡ picked m (take k ys) → take (n + num (bit m y)) (set cards n y) ≡ picked m (take (k + 1) ys)
pick_step m ys cards n k y lk ey ln e =
    go (bit m y)
    ∙ ap (λ (l : List ℕ). l ++ cons_if (bit m y) y []) e
    ∙ sym (picked_snoc m (take k ys) y)
    ∙ ap (picked m) (sym (ap (λ (x : ℕ). take x ys) (add-one k) ∙ take-suc ys k 0 lk ∙ ap (λ (x : ℕ). take k ys ++ (x ∷ [])) (sym ey)))
  where
    go : (b : Bool) → take (n + num b) (set cards n y) ≡ take n cards ++ cons_if b y []
    go true = ap (λ (x : ℕ). take x (set cards n y)) (add-one n) ∙ take-suc-set cards n y ln
    go false = ap (λ (x : ℕ). take x (set cards n y)) (add-zero n) ∙ take-set-le n cards n y (le_refl n) ∙ sym (append-nil (take n cards))

-- where two lists differ among the first `left`
abbrev pub differ_at : List ℕ → List ℕ → ℕ → ℕ → Bool
differ_at a b left i = ltb i left && not (eqb (get_or a i 0) (get_or b i 0))

module _ (a b : List ℕ) (left n : ℕ) (la : length a ≡ 24) (lb : length b ≡ 24) (hl : left ≤ 24) (hn : n ≤ 24) where
  long_a : length (take left a) ≡ left
  long_a = length-take-le left a (omega arith)

  long_b : length (take n b) ≡ n
  long_b = length-take-le n b (omega arith)

  pub follows_are : (not (any_of 24 (differ_at a b left)) && eqb n left) ≡ same_list (take left a) (take n b)
  follows_are = same_test (not (any_of 24 (differ_at a b left)) && eqb n left) (same_list (take left a) (take n b)) to from
    where
      to : (not (any_of 24 (differ_at a b left)) && eqb n left) ≡ true → same_list (take left a) (take n b) ≡ true
      to h =
          let none : any_of 24 (differ_at a b left) ≡ false = not-true _ (and_left (not (any_of 24 (differ_at a b left))) (eqb n left) h) in
          let e : n ≡ left = eqb-true n left (and_right (not (any_of 24 (differ_at a b left))) (eqb n left) h) in
          ap (same_list (take left a)) (sym (ext_get_or 0 (take left a) (take n b) (long_a ∙ sym e ∙ sym long_b) (λ i l. get_or-take left a i 0 (omega (arith, long_a)) ∙ alike none i (omega (arith, long_a)) ∙ sym (get_or-take n b i 0 (omega (arith, long_a))))))
          ∙ list_same (take left a)
        where
          same : (i : ℕ) (t : Bool) → eqb (get_or a i 0) (get_or b i 0) ≡ t → i < left → any_of 24 (differ_at a b left) ≡ false → get_or a i 0 ≡ get_or b i 0
          same i true e l none = eqb-true (get_or a i 0) (get_or b i 0) e
          same i false e l none =
              absurd (true≢false (sym (yes_any 24 (differ_at a b left) i (omega arith) (and_both (ltb i left) (not (eqb (get_or a i 0) (get_or b i 0))) (lt-ltb i left l) (ap not e))) ∙ none))

          alike : any_of 24 (differ_at a b left) ≡ false → (i : ℕ) → i < left → get_or a i 0 ≡ get_or b i 0
          alike none i l = same i (eqb (get_or a i 0) (get_or b i 0)) refl l none

      from : same_list (take left a) (take n b) ≡ true → (not (any_of 24 (differ_at a b left)) && eqb n left) ≡ true
      from h =
          let e : take left a ≡ take n b = same_list_lem (take left a) (take n b) h in
          let en : left ≡ n = sym long_a ∙ ap length e ∙ long_b in
          and_both (not (any_of 24 (differ_at a b left))) (eqb n left) (ap not (sym (refuse (any_of 24 (differ_at a b left)) (λ t. differ e en (any_yes 24 (differ_at a b left) t))))) (eq-eqb n left (sym en))
        where
          differ : take left a ≡ take n b → left ≡ n → (k : ℕ) × (k < 24) × (differ_at a b left k ≡ true) → ⊥
          differ e en w =
              let i : ℕ = w.0 in
              let l : i < left = ltb-true i left (and_left (ltb i left) (not (eqb (get_or a i 0) (get_or b i 0))) w.2) in
              let z : get_or a i 0 ≡ get_or b i 0 = sym (get_or-take left a i 0 l) ∙ ap (λ (x : List ℕ). get_or x i 0) e ∙ get_or-take n b i 0 (omega arith) in
              true≢false (sym (and_right (ltb i left) (not (eqb (get_or a i 0) (get_or b i 0))) w.2) ∙ ap not (eq-eqb (get_or a i 0) (get_or b i 0) z))
