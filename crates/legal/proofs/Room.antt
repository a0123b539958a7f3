-- The laws behind the masks: open pairs, room, tops, bases.
-- Assumes nothing.
use mathlib.Core.Bool.{Bool, true, false, ◌&&◌, ◌||◌, cond, and-false, or-false, and-true}
use mathlib.Core.Path.{◌≡◌, refl, sym, ap, ap₂, ◌∙◌, subst}
use Prim.Native.Nat.{ℕ, ◌+◌, ◌-◌, ◌*◌, ◌/◌, ◌≤◌, ◌<◌}
use native.Mathlib.Omega.{arith}
use lib.Dec.{ltb, lit≤}
use lib.Bits.{bit_and, bit_or}
use borrow.Author.Tests.{lt-ltb, le-ltb, le-leb, lt-leb, ltb-true, ltb-false}
use Rattle.bits.specs.Bit.{bit, num, mask_of, count_of}
use Rattle.legal.specs.Pairs.{pair_of, lower}
use Rattle.bits.proofs.Laws.{mask_ext, mask_lt, bit_mask, bit_high}
use Rattle.bits.proofs.Counts.{ones_count, ones_mask}
use Rattle.bits.proofs.Algebra.{and_masks, or_masks, mask_cut, shr_mask}
use Rattle.rules.specs.declared.Position.{Position}
use Rattle.rules.specs.Cards.{pair, higher, is_king, rank}
use Rattle.rules.specs.Places.{is_head, is_visible, is_free, visible_in, free_in, heads_and_kings}
use Rattle.rules.specs.Legal.{is_open, has_room}
use Rattle.rules.proofs.Facts.{Facts}
use Rattle.rules.proofs.HeadsLaw.{vis_mask, tops}

module _ (p : Position) (f : Facts p) where
  two : (k : ℕ) → pair_of (bit p.visible) k ≡ visible_in p k
  unfolding visible_in is_visible count_of
  two k = let e : 2 * k ≡ 2 * k + 0 = omega arith in ap (λ (x : ℕ). num (bit p.visible x) + num (bit p.visible (2 * k + 1))) e ∙ omega arith

  low : (k : ℕ) → k < 26 → pair_of (lower (bit (mask_of 52 (is_free p)))) k ≡ cond (ltb k 2) 0 (free_in p (k - 2))
  unfolding free_in count_of
  low k l = go (ltb k 2) refl
    where
      m : ℕ
      m = mask_of 52 (is_free p)

      go : (b : Bool) → ltb k 2 ≡ b → pair_of (lower (bit m)) k ≡ cond b 0 (count_of 2 (λ j. is_free p (2 * (k - 2) + j)))
      go true e =
          let h : k < 2 = ltb-true k 2 e in
          ap₂ (λ (x y : Bool). num (x && bit m (2 * k - 4)) + num (y && bit m (2 * k + 1 - 4))) (lt-leb 4 (2 * k) (omega arith)) (lt-leb 4 (2 * k + 1) (omega arith))
      go false e =
          let h : 2 ≤ k = ltb-false k 2 e in
          let a : 2 * k - 4 ≡ 2 * (k - 2) + 0 = omega arith in
          let b : 2 * k + 1 - 4 ≡ 2 * (k - 2) + 1 = omega arith in
          ap₂ (λ (x y : Bool). num (x && bit m (2 * k - 4)) + num (y && bit m (2 * k + 1 - 4))) (le-leb 4 (2 * k) (omega arith)) (le-leb 4 (2 * k + 1) (omega arith))
          ∙ ap₂ (λ (x y : Bool). num x + num y) (ap (bit m) a ∙ bit_mask 52 (is_free p) (2 * (k - 2) + 0) (omega arith)) (ap (bit m) b ∙ bit_mask 52 (is_free p) (2 * (k - 2) + 1) (omega arith))
          ∙ omega arith

  -- what bottom_mask asks
  pub ruled : (k : ℕ) → k < 26 → pair_of (lower (bit (mask_of 52 (is_free p)))) k ≤ pair_of (bit p.visible) k
  ruled k l = rw (low k l, two k) (go (ltb k 2) refl)
    where
      go : (b : Bool) → ltb k 2 ≡ b → cond b 0 (free_in p (k - 2)) ≤ visible_in p k
      go true e = omega arith
      go false e =
          let h : 2 ≤ k = ltb-false k 2 e in
          let x : k - 2 + 2 ≡ k = omega arith in
          subst (λ (j : ℕ). free_in p (k - 2) ≤ visible_in p j) x (f.pairs (k - 2) (omega arith))

  pub open_is : (c : ℕ) → c < 52 → ltb (pair_of (lower (bit (mask_of 52 (is_free p)))) (c / 2)) (pair_of (bit p.visible) (c / 2)) ≡ is_open p (pair c)
  unfolding is_open pair
  open_is c l = ap₂ ltb (low (c / 2) (omega arith)) (two (c / 2)) ∙ go (ltb (c / 2) 2)
    where
      go : (b : Bool) → ltb (cond b 0 (free_in p (c / 2 - 2))) (visible_in p (c / 2)) ≡ cond b (ltb 0 (visible_in p (c / 2))) (ltb (free_in p (c / 2 - 2)) (visible_in p (c / 2)))
      go true = refl
      go false = refl

  -- no pair past the kings is open
  pub closed : (k : ℕ) → 26 ≤ k → is_open p k ≡ false
  unfolding is_open visible_in count_of is_visible
  closed k l =
      ap₂ (λ (t : Bool) (v : ℕ). cond t (ltb 0 v) (ltb (free_in p (k - 2)) v)) (le-ltb k 2 (omega arith))
      (ap₂ (λ (x y : Bool). num x + (num y + 0)) (bit_high 52 p.visible (2 * k + 0) f.visible (omega arith)) (bit_high 52 p.visible (2 * k + 1) f.visible (omega arith)))
      ∙ le-ltb (free_in p (k - 2)) 0 (omega arith)

  -- bm >> 4
  pub below_open : mask_of 52 (λ c. is_open p (pair c)) / 16 ≡ mask_of 52 (λ c. is_open p (higher (pair c)))
  unfolding pair higher
  below_open =
      shr_mask 48 4 (λ c. is_open p (c / 2))
      ∙ mask_ext 48 (λ c. is_open p ((c + 4) / 2)) (λ c. is_open p (c / 2 + 2)) (λ c l. let e : (c + 4) / 2 ≡ c / 2 + 2 = omega arith in ap (is_open p) e)
      ∙ mask_cut 48 52 (λ c. is_open p (c / 2 + 2)) (lit≤ tt) (λ c a b. closed (c / 2 + 2) (omega arith))

  pub kings : 0xF_0000_0000_0000 ≡ mask_of 52 is_king
  unfolding mask_of is_king rank
  kings = refl

  -- how many cards `top` has
  pub top_count : count_of 64 (bit (bit_and p.visible (bit_or (mask_of 52 (is_head p)) 0xF_0000_0000_0000))) ≡ heads_and_kings p
  top_count =
      ap (λ (m : ℕ). count_of 64 (bit m)) e ∙ sym (ones_count 64 (mask_of 52 top) (omega (arith, mask_lt 52 top))) ∙ ones_mask 52 top ∙ tops p f
    where
      top : ℕ → Bool
      top c = is_visible p c && (is_head p c || is_king c)

      e : bit_and p.visible (bit_or (mask_of 52 (is_head p)) 0xF_0000_0000_0000) ≡ mask_of 52 top
      e =
          ap₂ bit_and (vis_mask p f) (ap (bit_or (mask_of 52 (is_head p))) kings ∙ or_masks 52 (is_head p) is_king)
          ∙ and_masks 52 52 (is_visible p) (λ c. is_head p c || is_king c) (lit≤ tt)

  pub room_some : heads_and_kings p < 7 → bit_or (mask_of 52 (λ c. is_open p (pair c)) / 16) 0xF_0000_0000_0000 ≡ mask_of 52 (has_room p)
  unfolding has_room
  room_some h =
      ap₂ bit_or below_open kings ∙ or_masks 52 (λ c. is_open p (higher (pair c))) is_king
      ∙ mask_ext 52 (λ c. is_open p (higher (pair c)) || is_king c) (has_room p) (λ c l. ap (λ (b : Bool). is_open p (higher (pair c)) || b) (sym (ap (λ (t : Bool). is_king c && t) (lt-ltb (heads_and_kings p) 7 h) ∙ and-true (is_king c))))

  pub room_none : 7 ≤ heads_and_kings p → mask_of 52 (λ c. is_open p (pair c)) / 16 ≡ mask_of 52 (has_room p)
  unfolding has_room
  room_none h =
      below_open
      ∙ mask_ext 52 (λ c. is_open p (higher (pair c))) (has_room p) (λ c l. sym (ap (λ (b : Bool). is_open p (higher (pair c)) || b) (ap (λ (t : Bool). is_king c && t) (le-ltb (heads_and_kings p) 7 h) ∙ and-false (is_king c)) ∙ or-false (is_open p (higher (pair c)))))
