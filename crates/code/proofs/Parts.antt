-- The fields of a code, as they are put together and as they are taken apart, are those of the definition.
-- Assumes nothing.
use mathlib.Core.Bool.{Bool, true, false, not, ◌||◌}
use mathlib.Core.Path.{◌≡◌, refl, ap, ap₂, ◌∙◌}
use mathlib.Core.List.{List, ◌∷◌, [], ◌++◌, map}
use Prim.Native.Nat.{ℕ, zero, suc, ◌+◌, ◌*◌, ◌/◌, ◌%◌, ◌^◌, ◌≤◌, ◌<◌}
use native.Mathlib.Omega.{arith}
use lib.Dec.{ltb, leb, lit<}
use lib.ListN.{length, get_or, take, replicate}
use lib.Bits.{bit_or, or_shifted_r}
use borrow.Author.Tests.{ltb-true, ltb-false, le-leb, lt-leb}
use Rattle.bits.specs.Bit.{bit, mask_of, count_of, list_of}
use Rattle.bits.proofs.Laws.{mask_lt}
use Rattle.bits.proofs.Algebra.{mask_self, or_masks}
use Rattle.rules.specs.declared.Position.{Position}
use Rattle.rules.specs.Bits.{any_of}
use Rattle.rules.specs.Places.{count, in_deck, is_visible, on_foundation, stock_card}
use Rattle.rules.specs.Proper.{are_cards}
use Rattle.rules.specs.Foundations.{valid_on, field_on, stacked_on}
use Rattle.rules.specs.Play.{slots}
use Rattle.rules.specs.Code.{counts_field, deck_field, stored_offset, code, code_height, code_count, code_has, code_left, code_offset, table, deck_of, code_parts}
use Rattle.bits.proofs.Searches.{all_ext, count_ext, list_ext, count_le}
use Rattle.rules.proofs.SameList.{get_d_table}
use Rattle.rules.proofs.ProperMade.{Numbers, any_none}
use Rattle.rules.proofs.PileField.{table_ext, field_low}
use Rattle.rules.proofs.Digits.{below4, has_bit, stored_fits, code_fits}
use Rattle.rules.proofs.DealLaw.{cards_low}
use Rattle.code.specs.Resuming.{Ranged}
use Rattle.code.proofs.Arranging.{all_not}
use Rattle.rules.specs.Fields.{with_counts, with_heights, with_slots, with_offset}
use Rattle.rules.specs.Code.{begun}

-- ---- put together: each field stands above the bits of those before it

joined : (h n m o : ℕ) → h < 2 ^ 16 → n < 2 ^ 16 → m < 2 ^ 24 → o < 2 ^ 8 →
    bit_or (bit_or (bit_or h (n * 2 ^ 16 % 2 ^ 64)) (m * 2 ^ 32 % 2 ^ 64)) (o * 2 ^ 56 % 2 ^ 64) ≡ h + 2 ^ 16 * n + 2 ^ 32 * m + 2 ^ 56 * o
joined h n m o lh ln lm lo =
    let en : n * 2 ^ 16 % 2 ^ 64 ≡ n * 2 ^ 16 = omega arith in
    let em : m * 2 ^ 32 % 2 ^ 64 ≡ m * 2 ^ 32 = omega arith in
    let eo : o * 2 ^ 56 % 2 ^ 64 ≡ o * 2 ^ 56 = omega arith in
    let l1 : n * 2 ^ 16 + h < 2 ^ 32 = omega arith in
    let l2 : m * 2 ^ 32 + (n * 2 ^ 16 + h) < 2 ^ 56 = omega arith in
    rw (en, em, eo, or_shifted_r n 16 h lh, or_shifted_r m 32 (n * 2 ^ 16 + h) l1, or_shifted_r o 56 (m * 2 ^ 32 + (n * 2 ^ 16 + h)) l2) (omega arith)

module _ (p : Position) (n : Numbers p) where
  heights_low : field_on p.heights < 2 ^ 16
  unfolding field_on
  heights_low = omega (arith, n.heights 0 (omega arith), n.heights 1 (omega arith), n.heights 2 (omega arith), n.heights 3 (omega arith))

  piles_low : counts_field p.counts < 2 ^ 16
  unfolding counts_field
  piles_low = omega (arith, field_low (count p) n.counts)

  deck_low : deck_field p < 2 ^ 24
  unfolding deck_field
  deck_low = mask_lt 24 (λ k. in_deck p (stock_card p k))

  pub code_is : (h c d o : ℕ) → h ≡ field_on p.heights → c ≡ counts_field p.counts → d ≡ deck_field p → o ≡ stored_offset p.left p.step p.offset →
      bit_or (bit_or (bit_or h (c * 2 ^ 16 % 2 ^ 64)) (d * 2 ^ 32 % 2 ^ 64)) (o * 2 ^ 56 % 2 ^ 64) ≡ code p
  unfolding code field_on counts_field
  code_is h c d o eh ec ed eo =
      rw (eh, ec, ed, eo)
      (joined (field_on p.heights) (counts_field p.counts) (deck_field p) (stored_offset p.left p.step p.offset) heights_low piles_low deck_low
      (omega (arith, stored_fits p.left p.step p.offset n.offset, n.left)))

  -- the cards that are neither buried nor in the deck
  pub gone_is : (m : ℕ) → m ≡ mask_of 52 (stacked_on p.heights) → bit_or p.visible m ≡ mask_of 52 (λ c. is_visible p c || on_foundation p c)
  unfolding is_visible stacked_on
  gone_is m e = ap₂ bit_or (mask_self 52 p.visible n.visible) e ∙ or_masks 52 (bit p.visible) (stacked_on p.heights)

-- ---- taken apart

not_less : (a b : ℕ) → leb a b ≡ not (ltb b a)
not_less a b = go (ltb b a) refl
  where
    go : (t : Bool) → ltb b a ≡ t → leb a b ≡ not t
    go true e = lt-leb a b (ltb-true b a e)
    go false e = le-leb a b (ltb-false b a e)

module _ (x : ℕ) where
  pub heights_is : table 4 (code_height (x % 2 ^ 16)) ≡ table 4 (code_height x)
  unfolding code_height
  heights_is =
      table_ext 4 (code_height (x % 2 ^ 16)) (code_height x)
      (below4 (λ s. x % 2 ^ 16 / 2 ^ (4 * s) % 2 ^ 4 ≡ x / 2 ^ (4 * s) % 2 ^ 4) (omega arith) (omega arith) (omega arith) (omega arith))

  pub valid_is : valid_on (table 4 (code_height x)) ≡ not (any_of 4 (λ s. ltb 13 (code_height x s)))
  unfolding valid_on
  valid_is =
      all_ext 4 _ _ (λ s l. ap (λ (h : ℕ). leb h 13) (get_d_table 4 (code_height x) s l) ∙ not_less (code_height x s) 13) ∙ all_not 4 (λ s. ltb 13 (code_height x s))

  pub left_is : count_of 24 (bit (x / 2 ^ 32 % 2 ^ 24)) ≡ code_left x
  unfolding code_left
  left_is = count_ext 24 (bit (x / 2 ^ 32 % 2 ^ 24)) (code_has x) (has_bit x)

  pub deck_is : (d : List ℕ) → deck_of d (bit (x / 2 ^ 32 % 2 ^ 24)) ≡ deck_of d (code_has x)
  deck_is d = ap (λ (l : List ℕ). slots (map (λ k. get_or d k 0) l)) (list_ext 24 28 (bit (x / 2 ^ 32 % 2 ^ 24)) (code_has x) (has_bit x))

  pub parts_are : (d deal counts heights deck : List ℕ) (step left offset : ℕ) → deal ≡ d → counts ≡ table 7 (code_count x) → heights ≡ table 4 (code_height x) → deck ≡ deck_of d (code_has x) → left ≡ code_left x → offset ≡ code_offset x →
      ◌≡◌ {A = Position} (with_offset (with_slots (with_heights (with_counts (begun deal step) counts) heights) deck left) offset) (code_parts d step x)
  unfolding code_parts
  parts_are d deal counts heights deck step left offset ed ec eh ek el eo i =
      with_offset (with_slots (with_heights (with_counts (begun (ed i) step) (ec i)) (eh i)) (ek i) (el i)) (eo i)

-- ---- the ranges of what is taken apart

-- every element of a list is below 52
abbrev Low : List ℕ → Type 0
Low l = (k : ℕ) → get_or l k 0 < 52

low_map : (f : ℕ → ℕ) → ((k : ℕ) → f k < 52) → (l : List ℕ) → Low (map f l)
low_map f h [] k = lit< tt
low_map f h (y ∷ l) zero = h y
low_map f h (y ∷ l) (suc k) = low_map f h l k

low_zeros : (n : ℕ) → Low (replicate n 0)
low_zeros zero k = lit< tt
low_zeros (suc n) zero = lit< tt
low_zeros (suc n) (suc k) = low_zeros n k

low_append : (l m : List ℕ) → Low l → Low m → Low (l ++ m)
low_append [] m hl hm k = hm k
low_append (y ∷ l) m hl hm zero = hl zero
low_append (y ∷ l) m hl hm (suc k) = low_append l m (λ j. hl (suc j)) hm k

low_take : (n : ℕ) (l : List ℕ) → Low l → Low (take n l)
low_take zero l h k = lit< tt
low_take (suc n) [] h k = lit< tt
low_take (suc n) (y ∷ l) h zero = h zero
low_take (suc n) (y ∷ l) h (suc k) = low_take n l (λ j. h (suc j)) k

past_end : (l : List ℕ) (k : ℕ) → length l ≤ k → get_or l k 0 ≡ 0
past_end [] k h = refl
past_end (y ∷ l) zero h = absurd (omega arith)
past_end (y ∷ l) (suc k) h = past_end l k (omega arith)

low_deal : (d : List ℕ) → length d ≡ 52 → are_cards d ≡ true → Low d
low_deal d e h k = go (ltb k 52) refl
  where
    go : (b : Bool) → ltb k 52 ≡ b → get_or d k 0 < 52
    go true t = cards_low d h k (ltb-true k 52 t)
    go false t = omega (arith, past_end d k (omega (arith, ltb-false k 52 t)))

counts_fit : (d : List ℕ) (step x i : ℕ) → i < 7 → get_or (table 7 (code_count x)) i 0 ≤ i + 1
unfolding code_parts
counts_fit d step x i l = code_fits d step x i l

pub ranged : (d : List ℕ) (step x : ℕ) → length d ≡ 52 → are_cards d ≡ true → any_of 4 (λ s. ltb 13 (code_height x s)) ≡ false → Ranged (code_parts d step x)
unfolding code_parts code_left slots
ranged d step x e h low =
    record {
      cards = cards_low d h;
      counts = counts_fit d step x;
      heights = λ s l. omega (arith, get_d_table 4 (code_height x) s l, ltb-false 13 (code_height x s) (any_none 4 (λ s. ltb 13 (code_height x s)) low s l));
      left = count_le 24 (code_has x);
      deck = λ k l. low_take 24 (map (λ k. get_or d k 0) (list_of 24 28 (code_has x)) ++ replicate 24 0) (low_append (map (λ k. get_or d k 0) (list_of 24 28 (code_has x))) (replicate 24 0) (low_map (λ k. get_or d k 0) (low_deal d e h) (list_of 24 28 (code_has x))) (low_zeros 24)) k;
    }
