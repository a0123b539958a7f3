-- No listing of a proper position has more than 20 moves. A move by Reveal, DeckPile or StackPile takes a card that has room: as many pairs are open as
-- there are heads and free kings at most, and each gives room to two cards; kings have room where a column is left. That is 16 cards. A move by
-- PileStack or DeckStack takes the next card of one of four suits.
-- Assumes nothing.
use mathlib.Core.Bool.{Bool, true, false, not, ◌&&◌, ◌||◌}
use mathlib.Core.Path.{◌≡◌, refl, sym, ap, ◌∙◌}
use Prim.Native.Nat.{ℕ, zero, suc, ◌+◌, ◌-◌, ◌*◌, ◌/◌, ◌≤◌, ◌<◌, zero-le, suc-le-suc}
use native.Mathlib.Omega.{arith}
use lib.Dec.{T, eqb, ltb, lit≤}
use lib.ListN.{length, get_or, length-append}
use borrow.Author.Tests.{eqb-true, ltb-true, le-ltb}
use Rattle.bits.proofs.Tables.{T_true, true-T}
use Rattle.bits.proofs.Laws.{bit_mask}
use Rattle.bits.proofs.Counts.{list_length}
use Rattle.rules.specs.declared.Position.{Position}
use Rattle.rules.specs.declared.Masks.{Masks}
use Rattle.rules.specs.Bits.{num, bit, mask_of, count_of, any_of, Within}
use Rattle.rules.specs.Cards.{rank, suit, flipped, pair, higher, is_king}
use Rattle.rules.specs.Places.{is_head, is_base, is_visible, is_free, in_deck, on_foundation, visible_in, free_in, heads_and_kings}
use Rattle.rules.specs.Proper.{proper}
use Rattle.rules.specs.Dealing.{available}
use Rattle.rules.specs.Legal.{is_open, has_room, next_on, is_next, is_top, pile_stack_legal, deck_stack_legal, deck_pile_legal, stack_pile_legal, reveal_legal, unpruned, listed, listing}
use Rattle.rules.specs.Pruned.{pruned}
use Rattle.rules.specs.Moves.{AllWithin}
use Rattle.rules.specs.Hidden.{sum_of, head_in}
use Rattle.rules.specs.Answers.{masks_for}
use Rattle.bits.proofs.Searches.{and_left, and_right, num_le, num_mono}
use Rattle.rules.proofs.ProperLaw.{Parts, parts, no_card_lem}
use Rattle.rules.proofs.Facts.{Facts, facts, head_count, sets, kings}
use Rattle.rules.proofs.HeadsLaw.{head_is, heads_count}
use Rattle.rules.proofs.PrunedLaw.{pruned_within}
use Rattle.rules.specs.Demands.{ListsFew}
use Rattle.laws.proofs.Counting.{count_once}
use Rattle.facts.proofs.Deck.{available_in}
use Rattle.facts.proofs.Foundation.{top_there}
use Rattle.laws.proofs.VisibleSplit.{visible_is}

-- ---- sums and counts, number by number

sum_le : (n : ℕ) (a b c : ℕ → ℕ) → ((k : ℕ) → k < n → a k + b k ≤ c k) → sum_of n a + sum_of n b ≤ sum_of n c
unfolding sum_of
sum_le zero a b c h = omega arith
sum_le (suc n) a b c h = omega (arith, h 0 (suc-le-suc zero-le), sum_le n (λ k. a (suc k)) (λ k. b (suc k)) (λ k. c (suc k)) (λ k l. h (suc k) (suc-le-suc l)))

count_add : (n : ℕ) (f g h : ℕ → Bool) → ((k : ℕ) → k < n → num (f k) ≡ num (g k) + num (h k)) → count_of n f ≡ count_of n g + count_of n h
unfolding count_of
count_add zero f g h e = refl
count_add (suc n) f g h e = omega (arith, e 0 (suc-le-suc zero-le), count_add n (λ k. f (suc k)) (λ k. g (suc k)) (λ k. h (suc k)) (λ k l. e (suc k) (suc-le-suc l)))

count_either : (n : ℕ) (f g : ℕ → Bool) → count_of n (λ k. f k || g k) ≤ count_of n f + count_of n g
unfolding count_of
count_either zero f g = omega arith
count_either (suc n) f g = omega (arith, one (f 0) (g 0), count_either n (λ k. f (suc k)) (λ k. g (suc k)))
  where
    one : (a b : Bool) → num (a || b) ≤ num a + num b
    one true b = omega arith
    one false b = omega arith

five_le :
    (n : ℕ) (a b c d e r x : ℕ → Bool) → ((k : ℕ) → k < n → num (a k) + num (b k) + num (c k) + num (d k) + num (e k) ≤ num (r k) + num (x k))
    → count_of n a + count_of n b + count_of n c + count_of n d + count_of n e ≤ count_of n r + count_of n x
unfolding count_of
five_le zero a b c d e r x h = omega arith
five_le (suc n) a b c d e r x h =
    omega (arith, h 0 (suc-le-suc zero-le), five_le n (λ k. a (suc k)) (λ k. b (suc k)) (λ k. c (suc k)) (λ k. d (suc k)) (λ k. e (suc k)) (λ k. r (suc k)) (λ k. x (suc k)) (λ k l. h (suc k) (suc-le-suc l)))

-- the listing's length: the bits of the five masks at the 52 cards
long : (m : Masks) → length (listing m) ≡ count_of 52 (bit m.reveal) + count_of 52 (bit m.pile_stack) + count_of 52 (bit m.deck_pile) + count_of 52 (bit m.deck_stack) + count_of 52 (bit m.stack_pile)
unfolding listing listed
long m = simp (length-append, list_length 52 (4 * 64) (bit m.reveal), list_length 52 (1 * 64) (bit m.pile_stack), list_length 52 (2 * 64) (bit m.deck_pile), list_length 52 (0 * 64) (bit m.deck_stack), list_length 52 (3 * 64) (bit m.stack_pile))

-- ---- cards that have room

module _ (p : Position) (t : T (proper p)) where
  f : Facts p
  f = facts p t

  g : Parts p
  g = parts p (T_true (proper p) t)

  -- an open pair: more visible cards than free ones in the pair four lower
  open_is : (k : ℕ) → is_open p (k + 2) ≡ ltb (free_in p k) (visible_in p (k + 2))
  unfolding is_open
  open_is k =
      let e : k + 2 - 2 ≡ k = omega arith in
      rw (le-ltb (k + 2) 2 (omega arith), e)

  open_le : (k : ℕ) → k < 24 → num (is_open p (k + 2)) + free_in p k ≤ visible_in p (k + 2)
  open_le k l = rw (open_is k) (go (ltb (free_in p k) (visible_in p (k + 2))) refl)
    where
      go : (b : Bool) → ltb (free_in p k) (visible_in p (k + 2)) ≡ b → num b + free_in p k ≤ visible_in p (k + 2)
      go true e = omega (arith, ltb-true (free_in p k) (visible_in p (k + 2)) e)
      go false e = omega (arith, f.pairs k l)

  -- no card is above the kings, so their pairs are open to nothing
  past : (k : ℕ) → 24 ≤ k → is_open p (k + 2) ≡ false
  unfolding visible_in count_of
  past k l =
      let a : is_visible p (2 * (k + 2) + 0) ≡ false = no_card_lem p g.numbers (2 * (k + 2) + 0) (omega arith) in
      let b : is_visible p (2 * (k + 2) + 1) ≡ false = no_card_lem p g.numbers (2 * (k + 2) + 1) (omega arith) in
      let none : visible_in p (k + 2) ≡ 0 = omega (arith, ap num a, ap num b) in
      open_is k ∙ le-ltb (free_in p k) (visible_in p (k + 2)) (omega arith)

  opens : ℕ
  opens = sum_of 24 (λ k. num (is_open p (k + 2)))

  seen_all : count_of 52 (is_visible p) ≡ visible_in p 0 + visible_in p 1 + sum_of 24 (λ k. visible_in p (k + 2))
  unfolding count_of visible_in sum_of
  seen_all = omega arith

  free_all : count_of 52 (is_free p) ≡ sum_of 24 (free_in p) + free_in p 24 + free_in p 25
  unfolding count_of free_in sum_of
  free_all = omega arith

  heads_all : count_of 52 (is_head p) ≡ head_count p
  unfolding head_in head_is head_count
  heads_all = heads_count p f 7 (lit≤ tt)

  -- as many open pairs as heads and free kings, at most
  opens_few : opens ≤ heads_and_kings p
  unfolding opens
  opens_few =
      omega (arith, sum_le 24 (λ k. num (is_open p (k + 2))) (free_in p) (λ k. visible_in p (k + 2)) open_le, seen_all, free_all, heads_all, kings p, count_add 52 (is_visible p) (is_head p) (is_free p) (λ c l. visible_is p g c))

  open_cards : count_of 52 (λ c. is_open p (c / 2 + 2)) ≡ 2 * opens + 2 * num (is_open p 26) + 2 * num (is_open p 27)
  unfolding count_of sum_of opens
  open_cards = omega arith

  king_cards : count_of 52 (λ c. is_king c && ltb (heads_and_kings p) 7) ≡ 4 * num (ltb (heads_and_kings p) 7)
  unfolding count_of is_king rank
  king_cards = omega arith

  room_few : count_of 52 (has_room p) ≤ 16
  unfolding has_room higher pair
  room_few =
      omega (arith, count_either 52 (λ c. is_open p (c / 2 + 2)) (λ c. is_king c && ltb (heads_and_kings p) 7), open_cards, king_cards, ap num (past 24 (lit≤ tt)), ap num (past 25 (lit≤ tt)), most (ltb (heads_and_kings p) 7) refl)
    where
      most : (b : Bool) → ltb (heads_and_kings p) 7 ≡ b → 2 * opens + 4 * num b ≤ 16
      most true e = omega (arith, opens_few, ltb-true (heads_and_kings p) 7 e)
      most false e = omega (arith, opens_few, kings p, f.seven)

  -- ---- cards that are next on their foundations

  one_rank : (h : ℕ) → count_of 13 (λ r. eqb r h) ≤ 1
  one_rank h = omega (arith, count_once 13 (λ r. eqb r h) (λ j k lj lk x y. eqb-true j h x ∙ sym (eqb-true k h y)), num_le (any_of 13 (λ r. eqb r h)))

  -- the next card of suit s, by rank
  next_in : ℕ → ℕ
  next_in s = count_of 13 (λ r. eqb r (get_or p.heights s 0))

  by_suit : count_of 52 (is_next p) ≡ next_in 0 + next_in 1 + next_in 2 + next_in 3
  unfolding count_of is_next next_on rank suit flipped next_in
  by_suit = omega arith

  next_few : count_of 52 (is_next p) ≤ 4
  unfolding next_in
  next_few = omega (arith, by_suit, one_rank (get_or p.heights 0 0), one_rank (get_or p.heights 1 0), one_rank (get_or p.heights 2 0), one_rank (get_or p.heights 3 0))

  -- ---- a card of masks within the unpruned ones is taken by one of three kinds where it has room, and by one of two where it is next

  module _ (m : Masks) (w : AllWithin m (unpruned p)) (c : ℕ) (l : c < 52) where
    one_of : (r : Bool) (a b d v k h : ℕ) → a ≤ v → b ≤ k → d ≤ h → h + k + v ≤ 1 → a ≤ num r → b ≤ num r → d ≤ num r → a + b + d ≤ num r
    one_of true a b d v k h x y z e i j o = omega arith
    one_of false a b d v k h x y z e i j o = omega arith

    -- a bit of x is a legal move of a kind, and so has A and B
    means : (x : ℕ) (L A B : ℕ → Bool) → Within x (mask_of 52 L) → (L c ≡ true → (A c ≡ true) × (B c ≡ true)) → (num (bit x c) ≤ num (A c)) × (num (bit x c) ≤ num (B c))
    means x L A B v h = (num_mono (bit x c) (A c) (λ e. (h (is e)).0), num_mono (bit x c) (B c) (λ e. (h (is e)).1))
      where
        is : bit x c ≡ true → L c ≡ true
        is e = sym (bit_mask 52 L c l) ∙ T_true (bit (mask_of 52 L) c) (v c (true-T (bit x c) e))

    at_card : num (bit m.reveal c) + num (bit m.pile_stack c) + num (bit m.deck_pile c) + num (bit m.deck_stack c) + num (bit m.stack_pile c) ≤ num (has_room p c) + num (is_next p c)
    unfolding unpruned reveal_legal pile_stack_legal deck_pile_legal deck_stack_legal stack_pile_legal sets
    at_card =
        let rv = means m.reveal (reveal_legal p) (is_visible p) (has_room p) w.0 (λ e. let h = and_left (is_head p c && has_room p c) (not (is_king c && is_base p c)) e in (f.up c (and_left (is_head p c) (has_room p c) h), and_right (is_head p c) (has_room p c) h)) in
        let ps = means m.pile_stack (pile_stack_legal p) (is_visible p) (is_next p) w.1 (λ e. (and_left (is_visible p c) (is_open p (pair c)) (and_left (is_visible p c && is_open p (pair c)) (is_next p c) e), and_right (is_visible p c && is_open p (pair c)) (is_next p c) e)) in
        let dp = means m.deck_pile (deck_pile_legal p) (in_deck p) (has_room p) w.2 (λ e. (available_in p c (and_left (available p c) (has_room p c) e), and_right (available p c) (has_room p c) e)) in
        let ds = means m.deck_stack (deck_stack_legal p) (in_deck p) (is_next p) w.3 (λ e. (available_in p c (and_left (available p c) (is_next p c) e), and_right (available p c) (is_next p c) e)) in
        let sp = means m.stack_pile (stack_pile_legal p) (on_foundation p) (has_room p) w.4 (λ e. (top_there p c (and_left (is_top p c) (has_room p c) e), and_right (is_top p c) (has_room p c) e)) in
        let one : num (on_foundation p c) + num (in_deck p c) + num (is_visible p c) ≤ 1 = omega (arith, f.one_set c l) in
        omega (
          arith,
          one_of (has_room p c) (num (bit m.reveal c)) (num (bit m.deck_pile c)) (num (bit m.stack_pile c)) (num (is_visible p c)) (num (in_deck p c)) (num (on_foundation p c)) rv.0 dp.0 sp.0 one rv.1 dp.1 sp.1,
          one_of (is_next p c) (num (bit m.pile_stack c)) (num (bit m.deck_stack c)) 0 (num (is_visible p c)) (num (in_deck p c)) (num (on_foundation p c)) ps.0 ds.0 zero-le one ps.1 ds.1 zero-le,
        )

  few : (m : Masks) → AllWithin m (unpruned p) → length (listing m) ≤ 20
  few m w =
      omega (arith, long m, five_le 52 (bit m.reveal) (bit m.pile_stack) (bit m.deck_pile) (bit m.deck_stack) (bit m.stack_pile) (has_room p) (is_next p) (at_card m w), room_few, next_few)

pub lists_few : ListsFew
unfolding masks_for
lists_few true p s t = few p t (pruned p) (pruned_within p s t)
lists_few false p s t = few p t (unpruned p) (λ c e. e, λ c e. e, λ c e. e, λ c e. e, λ c e. e)
