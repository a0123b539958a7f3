-- The code of `masks`, over what it starts from, is the five masks of the rules.
-- Assumes nothing.
use mathlib.Core.Bool.{Bool, true, false, not, ◌&&◌, true≢false}
use mathlib.Core.Path.{◌≡◌, refl, sym, ap, ap₂, ◌∙◌}
use Prim.Native.Nat.{ℕ, ◌+◌, ◌-◌, ◌/◌, ◌<◌, ◌^◌}
use native.Mathlib.Omega.{arith}
use lib.Dec.{T, eqb, ltb, lit≤}
use lib.Bits.{bit_and}
use borrow.Author.Tests.{eqb-true, ltb-true}
use Rattle.bits.specs.Bit.{bit, mask_of}
use Rattle.card.specs.Methods.{twin}
use Rattle.bits.proofs.Laws.{mask_ext, bit_mask}
use Rattle.bits.proofs.Tables.{upto, T_true, and_left, and_right}
use Rattle.bits.proofs.Algebra.{mask_and, and_masks, and_not_masks, shr_mask}
use Rattle.rules.specs.declared.Position.{Position}
use Rattle.rules.specs.declared.Masks.{Masks}
use Rattle.rules.specs.Cards.{pair, is_king, rank, suit, flipped}
use Rattle.rules.specs.Places.{is_head, is_base, is_visible, alone}
use Rattle.rules.specs.Dealing.{available}
use Rattle.rules.specs.Legal.{is_open, has_room, is_next, next_on, is_top, reveal_legal, pile_stack_legal, deck_pile_legal, deck_stack_legal, stack_pile_legal, unpruned}
use Rattle.rules.specs.Proper.{proper}
use Rattle.rules.proofs.ProperLaw.{sound}
use Rattle.rules.proofs.HeadPlaces.{base_is}
use Rattle.rules.proofs.Facts.{facts}
use Rattle.rules.proofs.HeadsLaw.{head_seen}
use Rattle.legal.specs.declared.Sight.{Sight}
use Rattle.legal.specs.Sight.{sight}
use Rattle.legal.proofs.Room.{kings}

-- what the code makes of its parts: `sw` is the next cards, a rank lower
unfoldable pub code : Sight → ℕ → ℕ → ℕ → Masks
code s room dm sw =
    record {
      reveal = bit_and (bit_and (bit_and s.vis s.locked) room) ((2 ^ 64 - 1) - bit_and s.alone 0xF_0000_0000_0000);
      pile_stack = bit_and (bit_and s.bm s.vis) s.sm;
      deck_pile = bit_and dm room;
      deck_stack = bit_and dm s.sm;
      stack_pile = bit_and sw room;
    }

-- the card above on the same foundation: four higher, with the pairs of its rank changed
above : ℕ → Bool
above k = ltb (twin k) 52 && (eqb (rank (twin k + 4)) (rank k + 1) && eqb (suit (twin k + 4)) (suit k))

above_is : (k : ℕ) → k < 52 → T (above k)
unfolding above twin bit rank suit flipped
above_is = upto 52 above tt

pub reveal_table : (v h r a k b : Bool) → (h ≡ true → v ≡ true) → (h ≡ true → b ≡ a) → (((v && h) && r) && not (a && k)) ≡ ((h && r) && not (k && b))
reveal_table v false r a k b e f = ap (λ (x : Bool). (x && r) && not (a && k)) (flat v)
  where
    flat : (v : Bool) → (v && false) ≡ false
    flat true = refl
    flat false = refl
reveal_table false true r a k b e f = absurd (true≢false (sym (e refl)))
reveal_table true true false a k b e f = refl
reveal_table true true true a true b e f = ap not (swap a) ∙ ap not (sym (f refl))
  where
    swap : (a : Bool) → (a && true) ≡ a
    swap true = refl
    swap false = refl
reveal_table true true true true false b e f = refl
reveal_table true true true false false b e f = refl

swap_and : (a b c : Bool) → ((a && b) && c) ≡ ((b && a) && c)
swap_and true true c = refl
swap_and true false c = refl
swap_and false true c = refl
swap_and false false c = refl

module _ (p : Position) (t : T (proper p)) where
  reveal_is : bit_and (bit_and (bit_and (mask_of 52 (is_visible p)) (mask_of 52 (is_head p))) (mask_of 52 (has_room p))) ((2 ^ 64 - 1) - bit_and (mask_of 52 (alone p)) 0xF_0000_0000_0000) ≡ mask_of 52 (reveal_legal p)
  unfolding reveal_legal
  reveal_is =
      ap₂ (λ (x y : ℕ). bit_and x ((2 ^ 64 - 1) - y))
      (ap (λ (x : ℕ). bit_and x (mask_of 52 (has_room p))) (and_masks 52 52 (is_visible p) (is_head p) (lit≤ tt)) ∙ and_masks 52 52 (λ c. is_visible p c && is_head p c) (has_room p) (lit≤ tt))
      (ap (bit_and (mask_of 52 (alone p))) (kings p (facts p t)) ∙ and_masks 52 52 (alone p) is_king (lit≤ tt))
      ∙ and_not_masks 52 52 (λ c. (is_visible p c && is_head p c) && has_room p c) (λ c. alone p c && is_king c) (lit≤ tt) (lit≤ tt)
      ∙ mask_ext 52 (λ c. ((is_visible p c && is_head p c) && has_room p c) && not (alone p c && is_king c)) (reveal_legal p)
      (λ c l. reveal_table (is_visible p c) (is_head p c) (has_room p c) (alone p c) (is_king c) (is_base p c) (head_seen p (facts p t) c) (base_is p (sound p (T_true (proper p) t)) c))

  pub pile_stack_is : bit_and (bit_and (mask_of 52 (λ c. is_open p (pair c))) (mask_of 52 (is_visible p))) (mask_of 56 (is_next p)) ≡ mask_of 52 (pile_stack_legal p)
  unfolding pile_stack_legal
  pile_stack_is =
      ap (λ (x : ℕ). bit_and x (mask_of 56 (is_next p))) (and_masks 52 52 (λ c. is_open p (pair c)) (is_visible p) (lit≤ tt))
      ∙ and_masks 52 56 (λ c. is_open p (pair c) && is_visible p c) (is_next p) (lit≤ tt)
      ∙ mask_ext 52 (λ c. (is_open p (pair c) && is_visible p c) && is_next p c) (pile_stack_legal p) (λ c l. swap_and (is_open p (pair c)) (is_visible p c) (is_next p c))

  pub top_is : (k : ℕ) → k < 52 → bit (mask_of 56 (is_next p) / 16) (twin k) ≡ is_top p k
  unfolding is_next next_on is_top above
  top_is k l =
      let a : T (ltb (twin k) 52 && (eqb (rank (twin k + 4)) (rank k + 1) && eqb (suit (twin k + 4)) (suit k))) = above_is k l in
      let b : T (eqb (rank (twin k + 4)) (rank k + 1) && eqb (suit (twin k + 4)) (suit k)) = and_right (ltb (twin k) 52) (eqb (rank (twin k + 4)) (rank k + 1) && eqb (suit (twin k + 4)) (suit k)) a in
      let low : twin k < 52 = ltb-true (twin k) 52 (T_true (ltb (twin k) 52) (and_left (ltb (twin k) 52) (eqb (rank (twin k + 4)) (rank k + 1) && eqb (suit (twin k + 4)) (suit k)) a)) in
      let r : rank (twin k + 4) ≡ rank k + 1 = eqb-true (rank (twin k + 4)) (rank k + 1) (T_true (eqb (rank (twin k + 4)) (rank k + 1)) (and_left (eqb (rank (twin k + 4)) (rank k + 1)) (eqb (suit (twin k + 4)) (suit k)) b)) in
      let s : suit (twin k + 4) ≡ suit k = eqb-true (suit (twin k + 4)) (suit k) (T_true (eqb (suit (twin k + 4)) (suit k)) (and_right (eqb (rank (twin k + 4)) (rank k + 1)) (eqb (suit (twin k + 4)) (suit k)) b)) in
      ap (λ (m : ℕ). bit m (twin k)) (shr_mask 52 4 (is_next p)) ∙ bit_mask 52 (λ c. is_next p (c + 4)) (twin k) low
      ∙ ap₂ (λ (x y : ℕ). eqb x (lib.ListN.get_or p.heights y 0)) r s

  pub stack_pile_is : bit_and (mask_of 64 (λ k. bit (mask_of 56 (is_next p) / 16) (twin k))) (mask_of 52 (has_room p)) ≡ mask_of 52 (stack_pile_legal p)
  unfolding stack_pile_legal
  stack_pile_is =
      mask_and 52 (has_room p) (mask_of 64 (λ k. bit (mask_of 56 (is_next p) / 16) (twin k)))
      ∙ mask_ext 52 (λ k. bit (mask_of 64 (λ k. bit (mask_of 56 (is_next p) / 16) (twin k))) k && has_room p k) (stack_pile_legal p)
      (λ k l. ap (λ (b : Bool). b && has_room p k) (bit_mask 64 (λ k. bit (mask_of 56 (is_next p) / 16) (twin k)) k (omega arith) ∙ top_is k l))

  deck_pile_is : bit_and (mask_of 52 (available p)) (mask_of 52 (has_room p)) ≡ mask_of 52 (deck_pile_legal p)
  unfolding deck_pile_legal
  deck_pile_is = and_masks 52 52 (available p) (has_room p) (lit≤ tt)

  deck_stack_is : bit_and (mask_of 52 (available p)) (mask_of 56 (is_next p)) ≡ mask_of 52 (deck_stack_legal p)
  unfolding deck_stack_legal
  deck_stack_is = and_masks 52 56 (available p) (is_next p) (lit≤ tt)

  pub code_is : code (sight p) (mask_of 52 (has_room p)) (mask_of 52 (available p)) (mask_of 64 (λ k. bit (mask_of 56 (is_next p) / 16) (twin k))) ≡ unpruned p
  unfolding code sight unpruned
  code_is = cc (reveal_is, pile_stack_is, deck_pile_is, deck_stack_is, stack_pile_is)
