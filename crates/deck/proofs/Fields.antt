-- The field of places, a place at a time: written, and read into a deck.
-- Assumes nothing.
use mathlib.Core.Bool.{Bool, true, false, not, ◌||◌, true≢false}
use mathlib.Core.Path.{◌≡◌, refl, sym, ap, ◌∙◌}
use mathlib.Core.List.{List, ◌∷◌, map}
use Prim.Native.Nat.{ℕ, zero, suc, ◌+◌, ◌*◌, ◌/◌, ◌%◌, ◌^◌, ◌≤◌, ◌<◌}
use native.Mathlib.Nat.{mod-eq_of_lt, le_of_suc-le-suc, not-suc-le-zero, zero-add}
use native.Mathlib.Numerals.{add-one, one-add}
use native.Mathlib.Omega.{arith}
use lib.Bits.{bit_and, bit_or, or_shifted}
use lib.ListN.{length, get_or, take, drop, length-map}
use lib.Seq.{get_or-take, get_or-drop}
use lib.Pow.{pow_mono}
use Rattle.bits.specs.Bit.{bit}
use Rattle.bits.proofs.Laws.{num_le, mask_lt, mask_ext, has_shr}
use Rattle.bits.proofs.Counts.{list_length}
use Rattle.rules.specs.declared.Position.{Position}
use Rattle.rules.specs.Bits.{num, mask_of, count_of, list_of, cons_if}
use Rattle.rules.specs.Places.{stock_card, is_buried, is_visible, in_deck, on_foundation}
use Rattle.bits.proofs.Searches.{count_snoc}
use Rattle.rules.proofs.Facts.{Facts, sets}
use Rattle.rules.proofs.Placed.{stock_buried}

-- the cards of the deal from place 28 on
pub item_at : (d : List ℕ) (n k : ℕ) → k < n → get_or (take n (drop 28 d)) k 0 ≡ get_or d (28 + k) 0
item_at d n k l = get_or-take n (drop 28 d) k 0 l ∙ get_or-drop 28 d k 0

-- ---- written

pub no_places : (f : ℕ → Bool) → 0 ≡ mask_of 0 f
unfolding mask_of
no_places f = refl

-- the places after the first, one place up, and the first
pub put_first : (f g : ℕ → Bool) (n : ℕ) → n < 24 → ((j : ℕ) → f j ≡ g (suc j)) → bit_or (mask_of n f * 2 ^ 1 % 2 ^ 32) (num (g 0)) ≡ mask_of (suc n) g
unfolding mask_of
put_first f g n l e =
    let h : 2 ^ n ≤ 2 ^ 24 = pow_mono {i = n} {j = 24} (omega arith) in
    let low : mask_of n f * 2 ^ 1 < 2 ^ 32 = omega (arith, mask_lt n f) in
    ap (λ (x : ℕ). bit_or x (num (g 0))) (mod-eq_of_lt low)
    ∙ or_shifted (mask_of n f) 1 (num (g 0)) (omega (arith, num_le (g 0)))
    ∙ ap (λ (x : ℕ). x * 2 ^ 1 + num (g 0)) (mask_ext n f (λ j. g (suc j)) (λ j k. e j))
    ∙ omega arith

-- a card of the 24 is in the deck just where it is neither visible nor on its foundation
elsewhere : (f d b v : Bool) → num f + num d + num b + num v ≡ 1 → b ≡ false → not (v || f) ≡ d
elsewhere true true b v h e = absurd (omega arith)
elsewhere true false b true h e = refl
elsewhere true false b false h e = refl
elsewhere false true b true h e = absurd (omega arith)
elsewhere false true b false h e = refl
elsewhere false false b true h e = refl
elsewhere false false true false h e = absurd (true≢false e)
elsewhere false false false false h e = absurd (omega arith)

pub still_there : (p : Position) → Facts p → (k : ℕ) → k < 24 → not (is_visible p (stock_card p k) || on_foundation p (stock_card p k)) ≡ in_deck p (stock_card p k)
unfolding sets
still_there p x k l =
    let c : ℕ = stock_card p k in
    elsewhere (on_foundation p c) (in_deck p c) (is_buried p c) (is_visible p c) (x.one_set c (x.cards (28 + k) (omega arith))) (stock_buried p x.deal x.counts k l)

-- ---- read

-- the cards of the places that are set
unfoldable pub placed : List ℕ → (ℕ → Bool) → List ℕ
placed d has = map (λ k. get_or d k 0) (list_of 24 28 has)

pub placed_length : (d : List ℕ) (has : ℕ → Bool) → length (placed d has) ≡ count_of 24 has
unfolding placed
placed_length d has = length-map (list_of 24 28 has) (λ k. get_or d k 0) ∙ list_length 24 28 has

-- the card of a place that is set stands behind those of the places before it
card_at_lem : (n s : ℕ) (f : ℕ → Bool) (g : ℕ → ℕ) (k : ℕ) → k < n → f k ≡ true → get_or (map g (list_of n s f)) (count_of k f) 0 ≡ g (s + k)
unfolding list_of count_of
card_at_lem zero s f g k l e = absurd (not-suc-le-zero l)
card_at_lem (suc n) s f g zero l e =
    let z : s ≡ s + 0 = omega arith in
    ap (λ (b : Bool). get_or (map g (cons_if b s (list_of n (suc s) (λ k. f (suc k))))) 0 0) e ∙ ap g z
card_at_lem (suc n) s f g (suc k) l e = go (f 0) (card_at_lem n (suc s) (λ k. f (suc k)) g k (le_of_suc-le-suc l) e)
  where
    move : suc s + k ≡ s + suc k
    move = omega arith

    go :
        (b : Bool) → get_or (map g (list_of n (suc s) (λ k. f (suc k)))) (count_of k (λ k. f (suc k))) 0 ≡ g (suc s + k)
        → get_or (map g (cons_if b s (list_of n (suc s) (λ k. f (suc k))))) (num b + count_of k (λ k. f (suc k))) 0 ≡ g (s + suc k)
    go true r = ap (λ (i : ℕ). get_or (g s ∷ map g (list_of n (suc s) (λ k. f (suc k)))) i 0) (one-add (count_of k (λ k. f (suc k)))) ∙ r ∙ ap g move
    go false r = ap (λ (i : ℕ). get_or (map g (list_of n (suc s) (λ k. f (suc k)))) i 0) (zero-add (count_of k (λ k. f (suc k)))) ∙ r ∙ ap g move

pub placed_at : (d : List ℕ) (has : ℕ → Bool) (k : ℕ) → k < 24 → has k ≡ true → get_or d (28 + k) 0 ≡ get_or (placed d has) (count_of k has) 0
unfolding placed
placed_at d has k l e = sym (card_at_lem 24 28 has (λ j. get_or d j 0) k l e)

-- ---- how many are set

pub count_none : (f : ℕ → Bool) → 0 ≡ count_of 0 f
unfolding count_of
count_none f = refl

pub count_next : (f : ℕ → Bool) (k : ℕ) (b : Bool) → f k ≡ b → count_of (k + 1) f ≡ count_of k f + num b
count_next f k b e = rw add-one (count_snoc k f) ∙ ap (λ (x : Bool). count_of k f + num x) e

pub count_below : (n : ℕ) (f : ℕ → Bool) (k : ℕ) → k < n → f k ≡ true → count_of k f < count_of n f
unfolding count_of
count_below zero f k l e = absurd (not-suc-le-zero l)
count_below (suc n) f zero l e = let one : num (f 0) ≡ 1 = ap num e in omega arith
count_below (suc n) f (suc k) l e = omega (arith, count_below n (λ k. f (suc k)) k (le_of_suc-le-suc l) e)

-- ---- `(field >> k) & 1`

pub is_set : (m k : ℕ) → (bit_and (m / 2 ^ k) 1 ≡ 0 → ⊥) → bit m k ≡ true
is_set m k h = go (bit m k) (has_shr m k)
  where
    go : (b : Bool) → bit_and (m / 2 ^ k) 1 ≡ num b → b ≡ true
    go true e = refl
    go false e = absurd (h e)

pub is_clear : (m k : ℕ) → bit_and (m / 2 ^ k) 1 ≡ 0 → bit m k ≡ false
is_clear m k h = go (bit m k) (has_shr m k)
  where
    go : (b : Bool) → bit_and (m / 2 ^ k) 1 ≡ num b → b ≡ false
    go true e = absurd (let z : ◌≡◌ {A = ℕ} 0 1 = sym h ∙ e in omega arith)
    go false e = refl
