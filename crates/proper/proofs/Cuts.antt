-- Parts of a deal as masks: put together, and cut out of a running mask.
-- Assumes nothing.
use mathlib.Core.Bool.{Bool, true, false, ◌&&◌, ◌||◌, or-false, or_assoc}
use mathlib.Core.Path.{◌≡◌, refl, sym, ap, ap₂, ◌∙◌}
use mathlib.Core.List.{List}
use Prim.Native.Nat.{ℕ, zero, suc, ◌+◌, ◌-◌, ◌*◌, ◌%◌, ◌^◌, ◌≤◌, ◌<◌}
use native.Mathlib.Nat.{zero-add, add-zero, add-suc}
use native.Mathlib.Omega.{arith}
use lib.Dec.{eqb, ltb, leb}
use lib.ListN.{get_or}
use lib.Bits.{bit_and, bit_or, bit_xor}
use mir.Val.{bool_byte}
use borrow.Author.Tests.{eqb-true, leb-true}
use Rattle.bits.specs.Bit.{mask_of}
use Rattle.bits.proofs.Laws.{differs, bit-xor, bit_mask, mask_is, mask_lt, mask_ext, xor_small}
use Rattle.bits.proofs.Algebra.{or_masks}
use Rattle.rules.specs.Bits.{any_of, all_of}
use Rattle.rules.specs.Places.{pile_start}
use Rattle.rules.specs.Hidden.{CardsFit, cards_from}
use Rattle.bits.proofs.Searches.{any_snoc, any_yes, any_ext, all_yes}
use Rattle.hidden_counts.proofs.Head.{less_one, some_le}
use Rattle.hidden_masks.proofs.Collected.{cards_are}
use Rattle.card.proofs.Gathering.{cards_step}

any_plus : (a b : ℕ) (f : ℕ → Bool) → any_of (a + b) f ≡ (any_of a f || any_of b (λ k. f (a + k)))
unfolding any_of
any_plus a zero f = ap (λ (x : ℕ). any_of x f) (add-zero a) ∙ sym (or-false (any_of a f))
any_plus a (suc b) f =
    ap (λ (x : ℕ). any_of x f) (add-suc a b) ∙ any_snoc (a + b) f ∙ ap (λ (t : Bool). t || f (a + b)) (any_plus a b f) ∙ or_assoc (any_of a f) (any_of b (λ k. f (a + k))) (f (a + b))
    ∙ ap (λ (t : Bool). any_of a f || t) (sym (any_snoc b (λ k. f (a + k))))

any_one : (f : ℕ → Bool) → any_of 1 f ≡ f 0
unfolding any_of
any_one f = or-false (f 0)

-- c is at one of the n places from s on
abbrev seen : List ℕ → ℕ → ℕ → ℕ → Bool
seen d s n c = any_of n (λ j. eqb (get_or d (s + j) 0 % 64) c)

seen_plus : (d : List ℕ) (a b c : ℕ) → seen d 0 (a + b) c ≡ (seen d 0 a c || seen d a b c)
seen_plus d a b c =
    any_plus a b (λ j. eqb (get_or d (0 + j) 0 % 64) c)
    ∙ ap (λ (t : Bool). seen d 0 a c || t) (any_ext b (λ k. eqb (get_or d (0 + (a + k)) 0 % 64) c) (λ k. eqb (get_or d (a + k) 0 % 64) c) (λ k l. ap (λ (y : ℕ). eqb (get_or d y 0 % 64) c) (zero-add (a + k))))

pub cards_join : (d : List ℕ) (a b : ℕ) → bit_or (cards_from d 0 a) (cards_from d a b) ≡ cards_from d 0 (a + b)
unfolding cards_from
cards_join d a b = or_masks 64 (seen d 0 a) (seen d a b) ∙ mask_ext 64 (λ c. seen d 0 a c || seen d a b c) (seen d 0 (a + b)) (λ c l. sym (seen_plus d a b c))

-- the next place, from the front of the deal on
pub front_step : (d : List ℕ) (m k : ℕ) → m ≡ cards_from d 0 k → bit_or m (1 * 2 ^ bit_and (get_or d k 0) 63 % 2 ^ 64) ≡ cards_from d 0 (k + 1)
front_step d m k e =
    ap₂ (λ (x y : ℕ). bit_or x (1 * 2 ^ bit_and (get_or d y 0) 63 % 2 ^ 64)) e (sym (zero-add k)) ∙ cards_step d 0 k

cut : (g h : Bool) → (g ≡ true → h ≡ true → ⊥) → differs (g || h) g ≡ h
cut true true n = absurd (n refl refl)
cut true false n = refl
cut false true n = refl
cut false false n = refl

-- of different cards, those of the m places from a on are what two running masks differ by
module _ (d : List ℕ) (low : CardsFit d) (inj : (a b : ℕ) → a < 52 → b < 52 → get_or d a 0 ≡ get_or d b 0 → a ≡ b) where
  apart : (a m c : ℕ) → a + m ≤ 52 → seen d 0 a c ≡ true → seen d a m c ≡ true → ⊥
  apart a m c h u v =
      let x = any_yes a (λ j. eqb (get_or d (0 + j) 0 % 64) c) u in
      let y = any_yes m (λ j. eqb (get_or d (a + j) 0 % 64) c) v in
      let lx : x.0 < a = x.1 in
      let ly : y.0 < m = y.1 in
      let ix : x.0 < 52 = omega arith in
      let iy : a + y.0 < 52 = omega arith in
      let ex : get_or d (0 + x.0) 0 % 64 ≡ c = eqb-true _ c x.2 in
      let ey : get_or d (a + y.0) 0 % 64 ≡ c = eqb-true _ c y.2 in
      let zx : get_or d (0 + x.0) 0 ≡ get_or d x.0 0 = ap (λ (j : ℕ). get_or d j 0) (zero-add x.0) in
      let cx : get_or d x.0 0 < 52 = low x.0 ix in
      let cy : get_or d (a + y.0) 0 < 52 = low (a + y.0) iy in
      let same : get_or d x.0 0 ≡ get_or d (a + y.0) 0 = omega arith in
      let z : x.0 ≡ a + y.0 = inj x.0 (a + y.0) ix iy same in
      omega arith

  pub cards_cut : (a m : ℕ) → a + m ≤ 52 → bit_xor (cards_from d 0 (a + m)) (cards_from d 0 a) ≡ cards_from d a m
  unfolding cards_from
  cards_cut a m h =
      mask_is 64 (seen d a m) _ (xor_small _ _ (mask_lt 64 (seen d 0 (a + m))) (mask_lt 64 (seen d 0 a)))
      (λ c l. bit-xor (mask_of 64 (seen d 0 (a + m))) (mask_of 64 (seen d 0 a)) c
      ∙ ap₂ differs (bit_mask 64 (seen d 0 (a + m)) c l ∙ seen_plus d a m c) (bit_mask 64 (seen d 0 a) c l)
      ∙ cut (seen d 0 a c) (seen d a m c) (apart a m c h))

  pub card_alone : (a : ℕ) (b : Bool) → a < 52 → cards_from d a (bool_byte b) ≡ mask_of 52 (λ c. b && eqb (get_or d a 0) c)
  unfolding cards_from mask_of any_of
  card_alone a false l = refl
  card_alone a true l = one
    where
      one : cards_from d a 1 ≡ mask_of 52 (λ c. eqb (get_or d a 0) c)
      one =
          cards_are d a 1 (λ k q. low (a + k) (omega arith))
          ∙ mask_ext 52 (λ c. any_of 1 (λ k. eqb (get_or d (a + k) 0) c)) (λ c. eqb (get_or d a 0) c) (λ c q. any_one (λ k. eqb (get_or d (a + k) 0) c) ∙ ap (λ (y : ℕ). eqb (get_or d y 0) c) (add-zero a))

  -- one pile, whose places begin at s: its buried cards, and its head
  module _ (run : List ℕ) (is : (k : ℕ) → k ≤ 28 → get_or run k 0 ≡ cards_from d 0 k) (s n : ℕ) (h : s + n ≤ 28) where
    below : s + n - bool_byte (ltb 0 n) ≡ s + (n - 1)
    below = omega (arith, less_one n, some_le 0 n)

    under : get_or run (s + n - bool_byte (ltb 0 n)) 0 ≡ cards_from d 0 (s + (n - 1))
    under = is (s + n - bool_byte (ltb 0 n)) (omega arith) ∙ ap (cards_from d 0) below

    pub buried_turn : bit_xor (get_or run (s + n - bool_byte (ltb 0 n)) 0) (get_or run s 0) ≡ cards_from d s (n - 1)
    buried_turn = ap₂ bit_xor under (is s (omega arith)) ∙ cards_cut s (n - 1) (omega arith)

    pub heads_turn : bit_xor (get_or run (s + n) 0) (get_or run (s + n - bool_byte (ltb 0 n)) 0) ≡ mask_of 52 (λ c. ltb 0 n && eqb (get_or d (s + (n - 1)) 0) c)
    heads_turn =
        let whole : s + n ≡ s + (n - 1) + bool_byte (ltb 0 n) = omega (arith, less_one n, some_le 0 n) in
        ap₂ bit_xor (is (s + n) h ∙ ap (cards_from d 0) whole) under ∙ cards_cut (s + (n - 1)) (bool_byte (ltb 0 n)) (omega (arith, less_one n, some_le 0 n)) ∙ card_alone (s + (n - 1)) (ltb 0 n) (omega arith)

-- the piles' places are the first 28
ends : all_of 7 (λ i. leb (pile_start i + (i + 1)) 28) ≡ true
unfolding all_of pile_start
ends = refl

pub in_piles : (i n s : ℕ) → i < 7 → n ≤ i + 1 → s ≡ pile_start i → s + n ≤ 28
in_piles i n s l h e = omega (arith, leb-true (pile_start i + (i + 1)) 28 (all_yes 7 (λ k. leb (pile_start k + (k + 1)) 28) ends i l))
