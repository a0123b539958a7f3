-- Refusals 8 and 9 as tests of masks, for a position whose visible mask is worked out.
-- Assumes nothing.
use mathlib.Core.Bool.{Bool, true, false, not, ◌&&◌, ◌||◌}
use mathlib.Core.Path.{◌≡◌, refl, sym, ap, ap₂, ◌∙◌}
use Prim.Native.Nat.{ℕ, zero, suc, ◌+◌, ◌-◌, ◌^◌}
use lib.Dec.{eqb, ltb, leb, lit≤}
use lib.ListN.{get_or}
use lib.Bits.{bit_and, bit_or}
use Rattle.bits.specs.Bit.{bit, mask_of, count_of}
use Rattle.bits.proofs.Laws.{bit_mask, mask_ext}
use Rattle.bits.proofs.Algebra.{and_masks, or_masks, and_not_masks}
use Rattle.bits.proofs.Tables.{table}
use Rattle.rules.specs.declared.Position.{Position}
use Rattle.rules.specs.Bits.{any_of, all_of}
use Rattle.rules.specs.Places.{is_buried, is_head, is_visible, is_free, in_deck, on_foundation}
use Rattle.rules.specs.Proper.{pair_rule, seven_rule}
use Rattle.rules.specs.Code.{worked_out}
use Rattle.rules.specs.Refusals.{◌refuses◌else◌, overlapping, unarranged}
use Rattle.rules.specs.Answers.{overlaps}
use Rattle.bits.proofs.Searches.{any_ext}
use Rattle.rules.proofs.ProperLaw.{locked_is}
use Rattle.proper.specs.Tests.{pairs_fit}
use Rattle.proper.proofs.Judgement.{pairs_were, seven_was}
use Rattle.bits.proofs.Full.{ones_mask}
use Rattle.proper.proofs.Tricks.{empty_mask}
use Rattle.code.specs.declared.Sets.{Sets}
use Rattle.code.specs.Resuming.{sets_of, worked, arrange_refusal}
use Rattle.rules.specs.Foundations.{stacked_on}
use Rattle.rules.specs.Hidden.{buried_in, head_in}

pub all_not : (n : ℕ) (f : ℕ → Bool) → all_of n (λ k. not (f k)) ≡ not (any_of n f)
unfolding all_of any_of
all_not zero f = refl
all_not (suc n) f = ap (λ (b : Bool). not (f 0) && b) (all_not n (λ k. f (suc k))) ∙ both (f 0) (any_of n (λ k. f (suc k)))
  where
    both : (a b : Bool) → (not a && not b) ≡ not (a || b)
    both true b = refl
    both false b = refl

-- the visible and the free cards, as they are worked out from the four sets
abbrev pub visible_of : Sets → ℕ
visible_of s = bit_and (2 ^ 52 - 1) ((2 ^ 64 - 1) - bit_or (bit_or s.foundation s.deck) s.buried)

abbrev pub free_of : Sets → ℕ
free_of s = bit_and (visible_of s) ((2 ^ 64 - 1) - s.heads)

-- the foundation and what it must not meet
abbrev pub meets_of : Sets → ℕ
meets_of s = bit_and s.foundation (bit_or (bit_or s.deck s.buried) s.heads)

module _ (p : Position) where
  abbrev others : ℕ → Bool
  others c = not (on_foundation p c || in_deck p c || is_buried p c)

  visible_of_lem : visible_of (sets_of p) ≡ worked_out p
  unfolding sets_of worked_out
  visible_of_lem =
      ap₂ (λ (x y : ℕ). bit_and x ((2 ^ 64 - 1) - y)) (ones_mask 52)
      (ap (λ (x : ℕ). bit_or x (mask_of 52 (is_buried p))) (or_masks 52 (on_foundation p) (in_deck p)) ∙ or_masks 52 (λ c. on_foundation p c || in_deck p c) (is_buried p))
      ∙ and_not_masks 52 52 (λ c. true) (λ c. on_foundation p c || in_deck p c || is_buried p c) (lit≤ tt) (lit≤ tt)

  meets_of_lem : eqb (meets_of (sets_of p)) 0 ≡ not (overlaps (worked p))
  unfolding sets_of overlaps stacked_on in_deck buried_in head_in
  meets_of_lem =
      ap (λ (x : ℕ). eqb x 0)
      (ap (bit_and (mask_of 52 (on_foundation p))) (ap (λ (x : ℕ). bit_or x (mask_of 52 (is_head p))) (or_masks 52 (in_deck p) (is_buried p)) ∙ or_masks 52 (λ c. in_deck p c || is_buried p c) (is_head p))
      ∙ and_masks 52 52 (on_foundation p) (λ c. in_deck p c || is_buried p c || is_head p c) (lit≤ tt))
      ∙ empty_mask 52 (λ c. on_foundation p c && (in_deck p c || is_buried p c || is_head p c))
      ∙ all_not 52 (λ c. on_foundation p c && (in_deck p c || is_buried p c || is_head p c))
      ∙ ap not (any_ext 52 _ _ (λ c l. meets (on_foundation p c) (in_deck p c) (is_head p c) (is_buried p c) ∙ ap (λ (b : Bool). on_foundation p c && (in_deck p c || b)) (sym (locked_is (worked p) c))))
    where
      meets : (f d h b : Bool) → (f && (d || b || h)) ≡ (f && (d || (h || b)))
      meets = table 4 (λ f d h b. f && (d || b || h)) (λ f d h b. f && (d || (h || b))) tt

  free_of_lem : bit_and (worked_out p) ((2 ^ 64 - 1) - mask_of 52 (is_head p)) ≡ mask_of 52 (is_free (worked p))
  unfolding worked_out is_free is_visible buried_in head_in
  free_of_lem =
      and_not_masks 52 52 others (is_head p) (lit≤ tt) (lit≤ tt)
      ∙ mask_ext 52 _ _ (λ c l. seen (on_foundation p c) (in_deck p c) (is_head p c) (is_buried p c)
      ∙ ap₂ (λ (v b : Bool). v && not b) (sym (bit_mask 52 others c l)) (sym (locked_is (worked p) c)))
    where
      seen : (f d h b : Bool) → (not (f || d || b) && not h) ≡ (not (f || d || b) && not (h || b))
      seen = table 4 (λ f d h b. not (f || d || b) && not h) (λ f d h b. not (f || d || b) && not (h || b)) tt

  -- the same of any sets that are the position's
  module _ (s : Sets) (e : s ≡ sets_of p) where
    pub visible_is : visible_of s ≡ worked_out p
    visible_is = ap visible_of e ∙ visible_of_lem

    pub meets_is : eqb (meets_of s) 0 ≡ not (overlaps (worked p))
    meets_is = ap (λ (s : Sets). eqb (meets_of s) 0) e ∙ meets_of_lem

    pub free_is : free_of s ≡ mask_of 52 (is_free (worked p))
    unfolding sets_of
    free_is = ap₂ (λ (v h : ℕ). bit_and v ((2 ^ 64 - 1) - h)) visible_is (ap (λ (s : Sets). s.heads) e) ∙ free_of_lem

    pub pairs_is : pairs_fit (free_of s) (visible_of s) ≡ pair_rule (worked p)
    pairs_is = ap₂ pairs_fit free_is visible_is ∙ pairs_were (worked p)

    pub seven_is : leb (count_of 7 (λ i. ltb 0 (get_or p.counts i 0)) + count_of 4 (λ k. bit (free_of s) (48 + k))) 7 ≡ seven_rule (worked p)
    seven_is = ap (λ (f : ℕ). leb (count_of 7 (λ i. ltb 0 (get_or p.counts i 0)) + count_of 4 (λ k. bit f (48 + k))) 7) free_is ∙ seven_was (worked p)

-- the refusal by what the two tests say
pub arrange_tests : (q : Position) (a b : Bool) → overlaps q ≡ a → (pair_rule q && seven_rule q) ≡ b → (a refuses overlapping else not b refuses unarranged else 0) ≡ arrange_refusal q
unfolding arrange_refusal
arrange_tests q a b ea eb = rw (ea, eb)
