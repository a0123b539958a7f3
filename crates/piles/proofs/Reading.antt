-- What the filler reads from its masks is what the definitions of `rules` say of the position.
-- Assumes nothing.
use mathlib.Core.Bool.{Bool, true, false, not, ◌&&◌}
use mathlib.Core.Path.{◌≡◌, refl, sym, ap, ◌∙◌}
use mathlib.Core.List.{List, [], ◌∷◌, map}
use Prim.Native.Nat.{ℕ, zero, suc, ◌+◌, ◌-◌, ◌≤◌}
use native.Mathlib.Nat.{zero-add}
use lib.Dec.{T, ltb}
use lib.ListN.{get_or}
use borrow.Author.Tests.{ltb-true, ltb-false}
use Rattle.bits.specs.Bit.{bit, mask_of}
use Rattle.bits.proofs.Laws.{bit_mask, bit_high, mask_lt}
use Rattle.bits.proofs.Counts.{list_ext}
use Rattle.rules.specs.declared.Position.{Position}
use Rattle.rules.specs.Cards.{partner, card_of}
use Rattle.rules.specs.Places.{pile_start, count, head, is_visible, is_locked, is_free}
use Rattle.rules.specs.Proper.{proper}
use Rattle.rules.specs.Piles.{tried, run, free_kings, first_run}
use Rattle.rules.proofs.Facts.{facts}
use Rattle.piles.specs.Run.{tried_of, run_of, kings_of, first_run_of}

-- the parts of a proper position that the seven piles are filled from
pub record Reads (p : Position) (deal counts : List ℕ) (vis free : ℕ) : Type 0 where
  pub good : T (proper p)
  pub cards : deal ≡ p.deal
  pub locked : counts ≡ p.counts
  pub seen : vis ≡ p.visible
  pub loose : free ≡ mask_of 52 (is_free p)

module _ (p : Position) (deal counts : List ℕ) (vis free : ℕ) (r : Reads p deal counts vis free) where
  -- each bit, past the cards too
  sees : (c : ℕ) → bit vis c ≡ is_visible p c
  unfolding is_visible
  sees c = ap (λ (m : ℕ). bit m c) r.seen

  frees : (c : ℕ) → bit free c ≡ is_free p c
  unfolding is_free is_visible
  frees c = ap (λ (m : ℕ). bit m c) r.loose ∙ go (ltb c 52) refl
    where
      go : (b : Bool) → ltb c 52 ≡ b → bit (mask_of 52 (is_free p)) c ≡ is_free p c
      go true e = bit_mask 52 (is_free p) c (ltb-true c 52 e)
      go false e =
          let l : 52 ≤ c = ltb-false c 52 e in
          bit_high 52 (mask_of 52 (is_free p)) c (mask_lt 52 (is_free p)) l
          ∙ sym (ap (λ (b : Bool). b && not (is_locked p c)) (bit_high 52 p.visible c (facts p r.good).visible l))

  tried_is : (c : ℕ) → tried_of vis free c ≡ tried p c
  unfolding tried_of tried
  tried_is c = rw (sees (partner c), frees (c - 4))

  pub run_is : (n c : ℕ) → run_of vis free n c ≡ run p n c
  unfolding run_of run
  run_is zero c = refl
  run_is (suc n) c = rw (tried_is c, frees (tried p c), run_is n (tried p c))

  pub first_is : (ks : List ℕ) → first_run_of vis free ks ≡ first_run p ks
  first_is [] = refl
  first_is (k ∷ ks) = run_is 13 k

  pub kings_are : kings_of free 0 ≡ free_kings p
  unfolding kings_of free_kings
  kings_are =
      ap (map (card_of 12))
      (list_ext 4 0 (λ k. bit free (card_of 12 (0 + k))) (λ s. is_free p (card_of 12 s)) (λ k l. frees (card_of 12 (0 + k)) ∙ ap (λ (s : ℕ). is_free p (card_of 12 s)) (zero-add k)))

  pub count_is : (i : ℕ) → get_or counts i 0 ≡ count p i
  count_is i = ap (λ (l : List ℕ). get_or l i 0) r.locked

  pub head_is_lem : (i : ℕ) → get_or deal (pile_start i + (get_or counts i 0 - 1)) 0 ≡ head p i
  head_is_lem i = rw (r.cards, r.locked)
