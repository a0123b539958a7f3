-- Two proper positions with one veil have the same legal moves, the same unpruned masks and the same code. A part of demand 3.
-- Assumes nothing.
use mathlib.Core.Bool.{Bool, true, false, not, ◌&&◌, ◌||◌, cond}
use mathlib.Core.Path.{◌≡◌, refl, sym, ap, ap₂, ◌∙◌}
use Prim.Native.Nat.{ℕ, zero, suc, ◌+◌, ◌-◌, ◌*◌, ◌/◌, ◌^◌, ◌<◌}
use native.Mathlib.Omega.{arith}
use lib.Dec.{eqb, ltb}
use borrow.Author.Tests.{eqb-true, lt-ltb}
use Rattle.rules.specs.declared.Position.{Position}
use Rattle.rules.specs.Cards.{pair, higher, is_king}
use Rattle.rules.specs.Places.{stock_card, in_deck, count, has_head, head, is_head, is_base, alone}
use Rattle.facts.proofs.Veil.{veil}
use Rattle.rules.specs.Legal.{is_open, has_room, pile_stack_legal, deck_stack_legal, deck_pile_legal, stack_pile_legal, reveal_legal, unpruned, legal}
use Rattle.rules.specs.Code.{code, height_field, pile_field, deck_field, stored_offset, counts_field}
use Rattle.bits.proofs.Searches.{any_ext, mask_ext, and_under}
use Rattle.rules.proofs.ProperLaw.{Fits, Sound, count_fits}
use Rattle.rules.proofs.HeadPlaces.{base_is}
use Rattle.laws.proofs.VeilPlaces.{count_same, visible_same, next_same, top_same, available_same, in_deck_same, head_same, is_head_same, stock_same, visible_in_same, free_in_same, kings_same}
use Rattle.rules.specs.Foundations.{field_on}
use Rattle.rules.specs.Hidden.{alone_in}

module _ (p q : Position) (e : veil p ≡ veil q) where
  pub fields_same :
      ◌≡◌ {A = ℕ × ℕ × ℕ} (height_field p, pile_field p, stored_offset p.left p.step p.offset) (height_field q, pile_field q, stored_offset q.left q.step q.offset)
  unfolding veil field_on counts_field
  fields_same = λ i. (height_field (e i), pile_field (e i), stored_offset (e i).left (e i).step (e i).offset)

module _ (p q : Position) (e : veil p ≡ veil q) (pp : Sound p) (qq : Sound q) where
  fp : Fits p
  fp = count_fits p pp.numbers

  pub open_same : (k : ℕ) → k < 28 → is_open p k ≡ is_open q k
  unfolding is_open
  open_same k h =
      ap₂ (λ (a b : Bool). cond (ltb k 2) a b) (ap (λ (x : ℕ). ltb 0 x) ((visible_in_same p q e pp qq) k)) (ap₂ ltb ((free_in_same p q e pp qq) (k - 2) (omega arith)) ((visible_in_same p q e pp qq) k))

  pub room_same : (c : ℕ) → c < 52 → has_room p c ≡ has_room q c
  unfolding has_room higher pair
  room_same c l =
      ap₂ (λ (a b : Bool). a || b) (open_same (c / 2 + 2) (omega arith)) (ap (λ (x : ℕ). is_king c && ltb x 7) (kings_same p q e pp qq))

  alone_same : (c : ℕ) → alone p c ≡ alone q c
  unfolding alone_in
  alone_same c =
      any_ext 7 (λ i. eqb (count p i) 1 && eqb (head p i) c) (λ i. eqb (count q i) 1 && eqb (head q i) c)
      (λ i l.
      and_under (eqb (count p i) 1) (eqb (head p i) c) (eqb (head q i) c) (λ t. ap (λ (x : ℕ). eqb x c) (head_same p q e fp i l (one_head i t)))
      ∙ ap (λ (n : ℕ). eqb n 1 && eqb (head q i) c) ((count_same p q e) i))
    where
      one_head : (i : ℕ) → eqb (count p i) 1 ≡ true → has_head p i ≡ true
      one_head i t = let n : count p i ≡ 1 = eqb-true (count p i) 1 t in lt-ltb 0 (count p i) (omega arith)

  -- a head that is no king at its base
  pub movable_same : (c : ℕ) → (is_head p c && not (is_king c && is_base p c)) ≡ (is_head q c && not (is_king c && is_base q c))
  movable_same c =
      and_under (is_head p c) (not (is_king c && is_base p c)) (not (is_king c && is_base q c))
      (λ t. ap (λ (b : Bool). not (is_king c && b)) (base_is p pp c t ∙ alone_same c ∙ sym (base_is q qq c (sym (is_head_same p q e fp c) ∙ t))))
      ∙ ap (λ (b : Bool). b && not (is_king c && is_base q c)) (is_head_same p q e fp c)

  pub reveal_same : (c : ℕ) → c < 52 → reveal_legal p c ≡ reveal_legal q c
  unfolding reveal_legal
  reveal_same c l =
      turn (is_head p c) (has_room p c) (not (is_king c && is_base p c))
      ∙ ap₂ (λ (a b : Bool). a && b) (movable_same c) (room_same c l)
      ∙ sym (turn (is_head q c) (has_room q c) (not (is_king c && is_base q c)))
    where
      turn : (a b d : Bool) → (a && b && d) ≡ ((a && d) && b)
      turn true true true = refl
      turn true true false = refl
      turn true false true = refl
      turn true false false = refl
      turn false b d = refl

  pub pile_stack_same : (c : ℕ) → c < 52 → pile_stack_legal p c ≡ pile_stack_legal q c
  unfolding pile_stack_legal pair
  pile_stack_same c l = ap₂ (λ (a b : Bool). a && b) (ap₂ (λ (a b : Bool). a && b) ((visible_same p q e) c) (open_same (c / 2) (omega arith))) ((next_same p q e) c)

  pub deck_stack_same : (c : ℕ) → deck_stack_legal p c ≡ deck_stack_legal q c
  unfolding deck_stack_legal
  deck_stack_same c = ap₂ (λ (a b : Bool). a && b) ((available_same p q e) c) ((next_same p q e) c)

  pub deck_pile_same : (c : ℕ) → c < 52 → deck_pile_legal p c ≡ deck_pile_legal q c
  unfolding deck_pile_legal
  deck_pile_same c l = ap₂ (λ (a b : Bool). a && b) ((available_same p q e) c) (room_same c l)

  pub stack_pile_same : (c : ℕ) → c < 52 → stack_pile_legal p c ≡ stack_pile_legal q c
  unfolding stack_pile_legal
  stack_pile_same c l = ap₂ (λ (a b : Bool). a && b) ((top_same p q e) c) (room_same c l)

  pub unpruned_same : unpruned p ≡ unpruned q
  unfolding unpruned
  unpruned_same =
      λ i.
      record {
        reveal = mask_ext 52 (reveal_legal p) (reveal_legal q) reveal_same i;
        pile_stack = mask_ext 52 (pile_stack_legal p) (pile_stack_legal q) pile_stack_same i;
        deck_pile = mask_ext 52 (deck_pile_legal p) (deck_pile_legal q) deck_pile_same i;
        deck_stack = mask_ext 52 (deck_stack_legal p) (deck_stack_legal q) (λ c l. deck_stack_same c) i;
        stack_pile = mask_ext 52 (stack_pile_legal p) (stack_pile_legal q) stack_pile_same i;
      }

  pub legal_same : (kind c : ℕ) → c < 52 → legal p kind c ≡ legal q kind c
  unfolding legal
  legal_same zero c l = deck_stack_same c
  legal_same (suc zero) c l = pile_stack_same c l
  legal_same (suc (suc zero)) c l = deck_pile_same c l
  legal_same (suc (suc (suc zero))) c l = stack_pile_same c l
  legal_same (suc (suc (suc (suc n)))) c l = reveal_same c l

  -- ---- the cards of the deck, wherever they are now

  pub code_same : code p ≡ code q
  unfolding code deck_field
  code_same =
      ap₂ (λ (f : ℕ) (v : ℕ × ℕ × ℕ). v.0 + 2 ^ 16 * v.1 + 2 ^ 32 * f + 2 ^ 56 * v.2)
      (mask_ext 24 (λ k. in_deck p (stock_card p k)) (λ k. in_deck q (stock_card q k)) (λ k l. (in_deck_same p q e) (stock_card p k) ∙ ap (in_deck q) (stock_same p q e fp k l)))
      (fields_same p q e)
