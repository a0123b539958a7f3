-- Two proper positions with one veil have the same face-up piles, and find a card at the same place. A part of demand 3.
-- Assumes nothing.
use mathlib.Core.Bool.{Bool, true, false, not, ◌&&◌, ◌||◌, cond}
use mathlib.Core.Path.{◌≡◌, refl, sym, ap, ap₂, ◌∙◌}
use mathlib.Core.List.{List, [], ◌∷◌, map}
use Prim.Native.Nat.{ℕ, zero, suc, ◌+◌, ◌-◌, ◌≤◌}
use native.Mathlib.Omega.{arith}
use lib.Dec.{eqb, ltb}
use borrow.Author.Tests.{ltb-true, ltb-false}
use Rattle.rules.specs.declared.Position.{Position}
use Rattle.rules.specs.Bits.{count_of, first_of}
use Rattle.rules.specs.Cards.{rank, card_of, partner}
use Rattle.rules.specs.Places.{stock_card, in_deck, has_head, head, is_locked, is_visible, is_free}
use Rattle.facts.proofs.Veil.{veil}
use Rattle.rules.specs.Piles.{tried, run, free_kings, first_run, rest, piles_from, piles}
use Rattle.rules.specs.Answers.{stock_place, find_place}
use Rattle.bits.proofs.Searches.{count_ext, list_ext, first_ext, first_le}
use Rattle.rules.proofs.ProperLaw.{Fits, Sound, count_fits, no_card_lem}
use Rattle.laws.proofs.VeilPlaces.{has_head_same, visible_same, in_deck_same, head_same, stock_same, free_same}

-- a card that is not visible is not free
unseen : (r : Position) (c : ℕ) → is_visible r c ≡ false → is_free r c ≡ false
unfolding is_free
unseen r c h = ap (λ (b : Bool). b && not (is_locked r c)) h

module _ (p q : Position) (e : veil p ≡ veil q) (pp : Sound p) (qq : Sound q) where
  fp : Fits p
  fp = count_fits p pp.numbers

  -- ---- the face-up piles

  pub free_all : (c : ℕ) → is_free p c ≡ is_free q c
  free_all c = go (ltb c 52) refl
    where
      go : (b : Bool) → ltb c 52 ≡ b → is_free p c ≡ is_free q c
      go true t = (free_same p q e pp qq) c (ltb-true c 52 t)
      go false t = unseen p c (no_card_lem p pp.numbers c (ltb-false c 52 t)) ∙ sym (unseen q c (no_card_lem q qq.numbers c (ltb-false c 52 t)))

  pub tried_same : (c : ℕ) → tried p c ≡ tried q c
  unfolding tried
  tried_same c =
      ap₂ (λ (a b : Bool). cond (a || b) (c - 4) (partner (c - 4))) ((visible_same p q e) (partner c)) (free_all (c - 4))

  pub run_same : (n c : ℕ) → run p n c ≡ run q n c
  unfolding run
  run_same zero c = refl
  run_same (suc n) c =
      ap₂ (λ (b : Bool) (l : List ℕ). c ∷ cond (not (eqb (rank c) 0) && b) l [])
      (free_all (tried p c) ∙ ap (is_free q) (tried_same c)) (run_same n (tried p c) ∙ ap (run q n) (tried_same c))

  pub kings_list : free_kings p ≡ free_kings q
  unfolding free_kings
  kings_list = ap (map (card_of 12)) (list_ext 4 0 (λ s. is_free p (card_of 12 s)) (λ s. is_free q (card_of 12 s)) (λ s l. free_all (card_of 12 s)))

  pub first_run_lem : (ks : List ℕ) → first_run p ks ≡ first_run q ks
  first_run_lem [] = refl
  first_run_lem (k ∷ ks) = run_same 13 k

  pub from_same : (n i : ℕ) → i + n ≤ 7 → (ks : List ℕ) → piles_from p n i ks ≡ piles_from q n i ks
  unfolding piles_from
  from_same zero i h ks = refl
  from_same (suc n) i h ks =
      ap₂ {A = List ℕ} {B = List (List ℕ)} {C = List (List ℕ)} (λ r rs. r ∷ rs)
      (go (has_head p i) refl)
      (from_same n (i + 1) (omega arith) (cond (has_head p i) ks (rest ks)) ∙ ap (λ (b : Bool). piles_from q n (i + 1) (cond b ks (rest ks))) ((has_head_same p q e) i))
    where
      go : (b : Bool) → has_head p i ≡ b → cond (has_head p i) (run p 13 (head p i)) (first_run p ks) ≡ cond (has_head q i) (run q 13 (head q i)) (first_run q ks)
      go true t =
          ap (λ (b : Bool). cond b (run p 13 (head p i)) (first_run p ks)) t
          ∙ run_same 13 (head p i)
          ∙ ap (run q 13) (head_same p q e fp i (omega arith) t)
          ∙ ap (λ (b : Bool). cond b (run q 13 (head q i)) (first_run q ks)) (sym t ∙ (has_head_same p q e) i)
      go false t =
          ap (λ (b : Bool). cond b (run p 13 (head p i)) (first_run p ks)) t
          ∙ first_run_lem ks
          ∙ ap (λ (b : Bool). cond b (run q 13 (head q i)) (first_run q ks)) (sym t ∙ (has_head_same p q e) i)

  pub piles_same : piles p ≡ piles q
  unfolding piles
  piles_same = from_same 7 0 (omega arith) (free_kings p) ∙ ap (piles_from q 7 0) kings_list

  -- ---- find

  pub place_find : (c : ℕ) → find_place p c ≡ find_place q c
  unfolding find_place stock_place
  place_find c =
      let m : ℕ = first_of 24 (λ k. eqb (stock_card p k) c) in
      let l : m ≤ 24 = first_le 24 (λ k. eqb (stock_card p k) c) in
      ap (λ (x : ℕ). cond (ltb m 24) x 0) (count_ext m (λ k. in_deck p (stock_card p k)) (λ k. in_deck q (stock_card q k)) (λ k h. (in_deck_same p q e) (stock_card p k) ∙ ap (in_deck q) (stock_same p q e fp k (omega arith))))
      ∙ ap (λ (x : ℕ). cond (ltb x 24) (count_of x (λ k. in_deck q (stock_card q k))) 0) (first_ext 24 (λ k. eqb (stock_card p k) c) (λ k. eqb (stock_card q k) c) (λ k h. ap (λ (x : ℕ). eqb x c) (stock_same p q e fp k h)))
