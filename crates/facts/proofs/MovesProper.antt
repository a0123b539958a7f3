-- A legal move leads from a proper position to a proper one. Assumes nothing.
use mathlib.Core.Bool.{Bool, true, false, not, ◌&&◌, ◌||◌, cond, or-false}
use mathlib.Core.Path.{◌≡◌, refl, sym, ap, ap₂, ◌∙◌}
use Prim.Native.Nat.{ℕ, zero, suc, ◌+◌, ◌<◌}
use native.Mathlib.Omega.{arith}
use lib.Dec.{eqb}
use borrow.Author.Tests.{eqb-true}
use Rattle.rules.specs.declared.Position.{Position}
use Rattle.rules.specs.Bits.{num}
use Rattle.rules.specs.Cards.{pair, is_king}
use Rattle.rules.specs.Places.{is_head, is_buried, is_visible, in_deck, on_foundation, pile_of, is_base}
use Rattle.rules.specs.Proper.{deal_right, deck_right, proper, Shaped}
use Rattle.rules.specs.Dealing.{available}
use Rattle.rules.specs.Legal.{is_open, has_room, is_next, is_top, pile_stack_legal, deck_stack_legal, deck_pile_legal, stack_pile_legal, reveal_legal, legal}
use Rattle.rules.specs.Play.{raised, lowered, laid, lifted, drawn, uncovered, after}
use Rattle.rules.specs.History.{is_kind_and_card}
use Rattle.rules.specs.Demands.{MovesKeepProper}
use Rattle.bits.proofs.Searches.{and_left, and_right}
use Rattle.bits.proofs.Tables.{T_true, true-T}
use Rattle.rules.proofs.ProperMade.{Numbers}
use Rattle.rules.proofs.Facts.{Facts, sets, facts, is_proper_lem}
use Rattle.rules.proofs.Placed.{HeadOf}
use Rattle.facts.proofs.Foundation.{top_there}
use Rattle.facts.proofs.Deck.{available_in, drawn_right}
use Rattle.facts.proofs.Turned.{is_under, heads_uncovered}
use Rattle.facts.proofs.TurnedFields.{uncovered_stays, under_buried}
use Rattle.facts.proofs.Untouched.{deck_same, order_same, deal_same, heads_same}
use Rattle.facts.proofs.Ranges.{raised_numbers, lowered_numbers, laid_numbers, lifted_numbers, drawn_numbers, uncovered_numbers}
use Rattle.facts.proofs.PairRule.{seen_no_head, Once, Ruled, room_means, still_keeps, put_keeps, take_keeps}
use Rattle.facts.proofs.Allowed.{card_ok}
use Rattle.facts.proofs.Shapes.{after_shape}
use Rattle.facts.proofs.CardTables.{goes, put_free, reveal_free, take_free, turn_free, more_seen, less_seen, up_more, up_less, up_turn, up_reveal}
use Rattle.facts.proofs.Effects.{Tests, sets_are, plain, deck_stack_does, deck_pile_does, stack_pile_does, pile_stack_does, from, gone, uncovered_does}

-- free, by the tests of q
free_now : {q : Position} {F D B S H : ℕ → Bool} → Tests q F D B S H → (x : ℕ) → x < 52 → num (seen_no_head q x) ≡ num (S x && not (H x))
unfolding seen_no_head
free_now t x l = ap₂ (λ (a b : Bool). num (a && not b)) (t.seen x l) (t.head x l)

at_card : (A : ℕ → Bool) (c : ℕ) → A c ≡ true → (x : ℕ) → eqb x c ≡ true → A x ≡ true
at_card A c h x e = ap A (eqb-true x c e) ∙ h

-- the clauses of a proper position, with what the tests say of each card
made : (q : Position) → deal_right q ≡ true → Numbers q → deck_right q ≡ true → {F D B S H : ℕ → Bool} → Tests q F D B S H
    → ((x : ℕ) → x < 52 → num (F x) + num (D x) + num (B x) + num (S x) ≡ 1) → ((x : ℕ) → x < 52 → H x ≡ true → S x ≡ true) → (Once q → Ruled q) → proper q ≡ true
made q d n k t sum up rules =
    let o : Once q = λ x l. sets_are t x l ∙ sum x l in
    is_proper_lem q d n k o (λ x l h. t.seen x l ∙ up x l (sym (t.head x l) ∙ h)) (rules o).pairs (rules o).seven

module _ (p : Position) (s : Shaped p) (f : Facts p) (c : ℕ) (lc : c < 52) where
  abbrev F : ℕ → ℕ
  F x = num (on_foundation p x)

  abbrev D : ℕ → ℕ
  D x = num (in_deck p x)

  abbrev B : ℕ → ℕ
  B x = num (is_buried p x)

  abbrev S : ℕ → ℕ
  S x = num (is_visible p x)

  once : (x : ℕ) → x < 52 → F x + D x + B x + S x ≡ 1
  unfolding sets
  once x l = f.one_set x l

  abbrev n : Numbers p
  n = f.numbers

  -- c comes to the piles and no head goes
  put_made : (q : Position) → deal_right q ≡ true → Numbers q → deck_right q ≡ true → {G E : ℕ → Bool} → Tests q G E (is_buried p) (λ x. is_visible p x || eqb x c) (is_head p)
      → ((x : ℕ) → x < 52 → num (G x) + num (E x) + B x + num (is_visible p x || eqb x c) ≡ 1) → q.counts ≡ p.counts → has_room p c ≡ true → proper q ≡ true
  unfolding seen_no_head
  put_made q d m k t sum e r =
      made q d m k t sum (λ x l. up_more (is_head p x) (is_visible p x) (eqb x c) (f.up x))
      (λ o.
      put_keeps p q f o c (λ x l. omega (arith, free_now t x l, put_free (is_visible p x) (is_head p x) (eqb x c))) (λ x l. omega (arith, ap num (t.seen x l), more_seen (is_visible p x) (eqb x c))) (omega (arith, heads_same p q e))
      (room_means p f c r))

  pub deck_stack_proper : available p c ≡ true → is_next p c ≡ true → proper (drawn (raised p c) c) ≡ true
  unfolding drawn raised seen_no_head
  deck_stack_proper a e =
      made q (deal_same p q refl ∙ f.deal) (drawn_numbers r c lc (raised_numbers p c lc n s.heights e) s.deck has)
      (drawn_right r c s.deck n.left has (order_same p r refl refl refl ∙ f.order)) t
      (λ x l. omega (arith, goes (in_deck p x) (on_foundation p x) (eqb x c) (B x + S x) (omega (arith, once x l)) (at_card (in_deck p) c (available_in p c a) x)))
      (λ x l. f.up x)
      (λ o. still_keeps p q f o c (λ x l. omega (arith, free_now t x l)) (λ x l. omega (arith, ap num (t.seen x l))) (omega (arith, heads_same p q refl)))
    where
      r : Position
      r = raised p c

      q : Position
      q = drawn r c

      t : Tests q (λ x. on_foundation p x || eqb x c) (λ x. in_deck p x && not (eqb x c)) (is_buried p) (is_visible p) (is_head p)
      t = deck_stack_does p s f c lc a e

      has : in_deck r c ≡ true
      has = deck_same p r refl refl c ∙ available_in p c a

  pub deck_pile_proper : available p c ≡ true → has_room p c ≡ true → proper (drawn (laid p c) c) ≡ true
  unfolding drawn laid
  deck_pile_proper a m =
      let q : Position = drawn (laid p c) c in
      let has : in_deck (laid p c) c ≡ true = deck_same p (laid p c) refl refl c ∙ available_in p c a in
      put_made q (deal_same p q refl ∙ f.deal) (drawn_numbers (laid p c) c lc (laid_numbers p c lc n) s.deck has)
      (drawn_right (laid p c) c s.deck n.left has (order_same p (laid p c) refl refl refl ∙ f.order)) (deck_pile_does p s f c lc a)
      (λ x l. omega (arith, goes (in_deck p x) (is_visible p x) (eqb x c) (B x + F x) (omega (arith, once x l)) (at_card (in_deck p) c (available_in p c a) x)))
      refl m

  pub stack_pile_proper : is_top p c ≡ true → has_room p c ≡ true → proper (laid (lowered p c) c) ≡ true
  unfolding laid lowered
  stack_pile_proper e m =
      let q : Position = laid (lowered p c) c in
      put_made q (deal_same p q refl ∙ f.deal) (laid_numbers (lowered p c) c lc (lowered_numbers p c lc n s.heights e)) (order_same p q refl refl refl ∙ f.order) (stack_pile_does p s f c lc e)
      (λ x l. omega (arith, goes (on_foundation p x) (is_visible p x) (eqb x c) (B x + D x) (omega (arith, once x l)) (at_card (on_foundation p) c (top_there p c e) x)))
      refl m

  -- c goes up from the piles
  module _ (v : is_visible p c ≡ true) (w : is_open p (pair c) ≡ true) (e : is_next p c ≡ true) where
    abbrev up : Position
    up = lifted (raised p c) c

    up_numbers : Numbers up
    up_numbers = lifted_numbers (raised p c) c lc (raised_numbers p c lc n s.heights e)

    up_once : (x : ℕ) → x < 52 → num (is_visible p x && not (eqb x c)) + num (on_foundation p x || eqb x c) + (B x + D x) ≡ 1
    up_once x l = goes (is_visible p x) (on_foundation p x) (eqb x c) (B x + D x) (omega (arith, once x l)) (at_card (is_visible p) c v x)

    pub pile_stack_proper : is_head p c ≡ false → proper up ≡ true
    unfolding lifted raised seen_no_head pair
    pile_stack_proper h =
        made up (deal_same p up refl ∙ f.deal) up_numbers (order_same p up refl refl refl ∙ f.order) t (λ x l. omega (arith, up_once x l))
        (λ x l. up_less (is_head p x) (is_visible p x) (eqb x c) (f.up x) (λ y. ap (is_head p) (eqb-true x c y) ∙ h))
        (λ o.
        take_keeps p up f o c (λ x l. omega (arith, free_now t x l, take_free (is_visible p x) (is_head p x) (eqb x c)))
        (λ x l. omega (arith, ap num (t.seen x l ∙ sym (or-false (is_visible p x && not (eqb x c)))), less_seen (is_visible p x) (eqb x c) false)) (omega (arith, heads_same p up refl)) w)
      where
        t : Tests up (λ x. on_foundation p x || eqb x c) (in_deck p) (is_buried p) (λ x. is_visible p x && not (eqb x c)) (is_head p)
        t = pile_stack_does p s f c lc e

    pub pile_stack_head_proper : is_head p c ≡ true → proper (uncovered up (pile_of p c)) ≡ true
    unfolding lifted raised seen_no_head pair
    pile_stack_head_proper h =
        made q (deal_same up q (uncovered_stays up i).deal ∙ deal_same p up refl ∙ f.deal) (uncovered_numbers up i up_numbers (deal_same p up refl ∙ f.deal) s.counts k.is_pile k.some)
        (order_same up q (uncovered_stays up i).deal (uncovered_stays up i).deck (uncovered_stays up i).left ∙ order_same p up refl refl refl ∙ f.order) t
        (λ x l.
        omega (
          arith,
          goes (is_buried p x) (is_visible p x && not (eqb x c)) (is_under p i x) (num (on_foundation p x || eqb x c) + D x) (omega (arith, up_once x l)) (under_buried p i f.deal n.counts k.is_pile x),
        ))
        (λ x l. up_turn (is_head p x) (is_visible p x) (eqb x c) (is_under p i x) (f.up x))
        (λ o.
        take_keeps p q f o c (λ x l. omega (arith, free_now t x l, turn_free (is_visible p x) (is_head p x) (eqb x c) (is_under p i x))) (λ x l. omega (arith, ap num (t.seen x l), less_seen (is_visible p x) (eqb x c) (is_under p i x)))
        (heads_uncovered p q i f.deal n.counts k.is_pile k.some (gone p s f c lc up refl refl h)) w)
      where
        i : ℕ
        i = pile_of p c

        q : Position
        q = uncovered up i

        k : HeadOf p f.deal n.counts c
        k = from p s f c lc up refl refl h

        t : Tests q (λ x. on_foundation p x || eqb x c) (in_deck p) (λ x. is_buried p x && not (is_under p i x)) (λ x. (is_visible p x && not (eqb x c)) || is_under p i x) (λ x. (is_head p x && not (eqb x c)) || is_under p i x)
        t = uncovered_does p s f c lc up refl refl h (pile_stack_does p s f c lc e)

  pub reveal_proper : is_head p c ≡ true → has_room p c ≡ true → proper (uncovered p (pile_of p c)) ≡ true
  unfolding seen_no_head
  reveal_proper h m =
      made q (deal_same p q (uncovered_stays p i).deal ∙ f.deal) (uncovered_numbers p i n f.deal s.counts k.is_pile k.some) (order_same p q (uncovered_stays p i).deal (uncovered_stays p i).deck (uncovered_stays p i).left ∙ f.order) t
      (λ x l. omega (arith, goes (is_buried p x) (is_visible p x) (is_under p i x) (F x + D x) (omega (arith, once x l)) (under_buried p i f.deal n.counts k.is_pile x)))
      (λ x l. up_reveal (is_head p x) (is_visible p x) (eqb x c) (is_under p i x) (f.up x))
      (λ o.
      put_keeps p q f o c (λ x l. omega (arith, free_now t x l, reveal_free (is_visible p x) (is_head p x) (eqb x c) (is_under p i x))) (λ x l. omega (arith, ap num (t.seen x l), more_seen (is_visible p x) (is_under p i x)))
      (heads_uncovered p q i f.deal n.counts k.is_pile k.some (gone p s f c lc p refl refl h)) (room_means p f c m))
    where
      i : ℕ
      i = pile_of p c

      q : Position
      q = uncovered p i

      k : HeadOf p f.deal n.counts c
      k = from p s f c lc p refl refl h

      t : Tests q (on_foundation p) (in_deck p) (λ x. is_buried p x && not (is_under p i x)) (λ x. is_visible p x || is_under p i x) (λ x. (is_head p x && not (eqb x c)) || is_under p i x)
      t = uncovered_does p s f c lc p refl refl h (plain p s f c lc)

  -- the five kinds together
  pub after_proper : (kind : ℕ) → legal p kind c ≡ true → proper (after p kind c) ≡ true
  unfolding legal after deck_stack_legal pile_stack_legal deck_pile_legal stack_pile_legal reveal_legal
  after_proper zero e = deck_stack_proper (and_left (available p c) (is_next p c) e) (and_right (available p c) (is_next p c) e)
  after_proper (suc zero) e = go (is_head p c) refl
    where
      vo : (is_visible p c && is_open p (pair c)) ≡ true
      vo = and_left (is_visible p c && is_open p (pair c)) (is_next p c) e

      next : is_next p c ≡ true
      next = and_right (is_visible p c && is_open p (pair c)) (is_next p c) e

      go : (b : Bool) → is_head p c ≡ b → proper (cond b (uncovered (lifted (raised p c) c) (pile_of p c)) (lifted (raised p c) c)) ≡ true
      go true h = pile_stack_head_proper (and_left (is_visible p c) (is_open p (pair c)) vo) (and_right (is_visible p c) (is_open p (pair c)) vo) next h
      go false h = pile_stack_proper (and_left (is_visible p c) (is_open p (pair c)) vo) (and_right (is_visible p c) (is_open p (pair c)) vo) next h
  after_proper (suc (suc zero)) e = deck_pile_proper (and_left (available p c) (has_room p c) e) (and_right (available p c) (has_room p c) e)
  after_proper (suc (suc (suc zero))) e = stack_pile_proper (and_left (is_top p c) (has_room p c) e) (and_right (is_top p c) (has_room p c) e)
  after_proper (suc (suc (suc (suc m)))) e =
      let hr : (is_head p c && has_room p c) ≡ true = and_left (is_head p c && has_room p c) (not (is_king c && is_base p c)) e in
      reveal_proper (and_left (is_head p c) (has_room p c) hr) (and_right (is_head p c) (has_room p c) hr)

pub moves_keep_proper : MovesKeepProper
moves_keep_proper p kind c s h k e = (after_shape p kind c s, true-T _ (after_proper p s (facts p h) c (card_ok kind c (T_true (is_kind_and_card kind c) k)) kind (T_true (legal p kind c) e)))
