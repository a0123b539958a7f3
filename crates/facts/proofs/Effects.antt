-- What each kind of move does to each card: on a foundation, in the deck, buried, visible, a head. Assumes nothing.
use mathlib.Core.Bool.{Bool, true, not, ◌&&◌, ◌||◌}
use mathlib.Core.Path.{◌≡◌, refl, ap, ap₂, ◌∙◌}
use Prim.Native.Nat.{ℕ, ◌+◌, ◌-◌, ◌<◌}
use native.Mathlib.Omega.{arith}
use lib.Dec.{eqb}
use lib.ListN.{length}
use Rattle.rules.specs.declared.Position.{Position}
use Rattle.rules.specs.Bits.{num}
use Rattle.rules.specs.Places.{is_head, is_buried, is_visible, in_deck, on_foundation, pile_of}
use Rattle.rules.specs.Dealing.{available}
use Rattle.rules.specs.Legal.{is_next, is_top}
use Rattle.rules.specs.Play.{raised, lowered, laid, lifted, drawn, uncovered}
use Rattle.rules.specs.Fields.{with_deal, with_counts}
use Rattle.rules.specs.Proper.{Shaped}
use Rattle.rules.proofs.Facts.{Facts, sets}
use Rattle.rules.proofs.Placed.{HeadOf, head_of_lem}
use Rattle.facts.proofs.Foundation.{raised_has, lowered_has}
use Rattle.facts.proofs.Shows.{laid_has, lifted_has}
use Rattle.facts.proofs.Deck.{deck_list, deck_once, available_in, drawn_has}
use Rattle.facts.proofs.Turned.{Fewer, is_under, head_uncovered, buried_uncovered}
use Rattle.facts.proofs.TurnedFields.{uncovered_stays, uncovered_fewer, uncovered_has}
use Rattle.facts.proofs.Untouched.{head_same, buried_same, found_same, deck_same, seen_same, count_same}

-- the five tests of q are these
pub record Tests (q : Position) (F D B S H : ℕ → Bool) : Type 0 where
  pub found : (x : ℕ) → x < 52 → on_foundation q x ≡ F x
  pub deck : (x : ℕ) → x < 52 → in_deck q x ≡ D x
  pub buried : (x : ℕ) → x < 52 → is_buried q x ≡ B x
  pub seen : (x : ℕ) → x < 52 → is_visible q x ≡ S x
  pub head : (x : ℕ) → x < 52 → is_head q x ≡ H x

pub sets_are : {q : Position} {F D B S H : ℕ → Bool} → Tests q F D B S H → (x : ℕ) → x < 52 → sets q x ≡ num (F x) + num (D x) + num (B x) + num (S x)
unfolding sets
sets_are t x l = omega (arith, ap num (t.found x l), ap num (t.deck x l), ap num (t.buried x l), ap num (t.seen x l))

module _ (p : Position) (s : Shaped p) (f : Facts p) (c : ℕ) (lc : c < 52) where
  pub plain : Tests p (on_foundation p) (in_deck p) (is_buried p) (is_visible p) (is_head p)
  plain = record { found = λ x l. refl; deck = λ x l. refl; buried = λ x l. refl; seen = λ x l. refl; head = λ x l. refl }

  pub deck_stack_does : available p c ≡ true → is_next p c ≡ true
      → Tests (drawn (raised p c) c) (λ x. on_foundation p x || eqb x c) (λ x. in_deck p x && not (eqb x c)) (is_buried p) (is_visible p) (is_head p)
  unfolding drawn raised deck_list
  deck_stack_does a n =
      record {
        found = λ x l. found_same (raised p c) (drawn (raised p c) c) refl x ∙ raised_has p c lc s.heights n x l;
        deck = λ x l. drawn_has (raised p c) c s.deck f.numbers.left (deck_same p (raised p c) refl refl c ∙ available_in p c a) (deck_once p f.deal f.order) x ∙ ap (λ (b : Bool). b && not (eqb x c)) (deck_same p (raised p c) refl refl x);
        buried = λ x l. buried_same p (drawn (raised p c) c) refl refl x;
        seen = λ x l. seen_same p (drawn (raised p c) c) refl x;
        head = λ x l. head_same p (drawn (raised p c) c) refl refl x;
      }

  pub deck_pile_does : available p c ≡ true
      → Tests (drawn (laid p c) c) (on_foundation p) (λ x. in_deck p x && not (eqb x c)) (is_buried p) (λ x. is_visible p x || eqb x c) (is_head p)
  unfolding drawn laid deck_list
  deck_pile_does a =
      record {
        found = λ x l. found_same p (drawn (laid p c) c) refl x;
        deck = λ x l. drawn_has (laid p c) c s.deck f.numbers.left (deck_same p (laid p c) refl refl c ∙ available_in p c a) (deck_once p f.deal f.order) x ∙ ap (λ (b : Bool). b && not (eqb x c)) (deck_same p (laid p c) refl refl x);
        buried = λ x l. buried_same p (drawn (laid p c) c) refl refl x;
        seen = λ x l. seen_same (laid p c) (drawn (laid p c) c) refl x ∙ laid_has p c x l;
        head = λ x l. head_same p (drawn (laid p c) c) refl refl x;
      }

  pub stack_pile_does : is_top p c ≡ true
      → Tests (laid (lowered p c) c) (λ x. on_foundation p x && not (eqb x c)) (in_deck p) (is_buried p) (λ x. is_visible p x || eqb x c) (is_head p)
  unfolding laid lowered
  stack_pile_does n =
      record {
        found = λ x l. found_same (lowered p c) (laid (lowered p c) c) refl x ∙ lowered_has p c lc s.heights n x l;
        deck = λ x l. deck_same p (laid (lowered p c) c) refl refl x;
        buried = λ x l. buried_same p (laid (lowered p c) c) refl refl x;
        seen = λ x l. laid_has (lowered p c) c x l ∙ ap (λ (b : Bool). b || eqb x c) (seen_same p (lowered p c) refl x);
        head = λ x l. head_same p (laid (lowered p c) c) refl refl x;
      }

  pub pile_stack_does : is_next p c ≡ true
      → Tests (lifted (raised p c) c) (λ x. on_foundation p x || eqb x c) (in_deck p) (is_buried p) (λ x. is_visible p x && not (eqb x c)) (is_head p)
  unfolding lifted raised
  pile_stack_does n =
      record {
        found = λ x l. found_same (raised p c) (lifted (raised p c) c) refl x ∙ raised_has p c lc s.heights n x l;
        deck = λ x l. deck_same p (lifted (raised p c) c) refl refl x;
        buried = λ x l. buried_same p (lifted (raised p c) c) refl refl x;
        seen = λ x l. lifted_has (raised p c) c x l ∙ ap (λ (b : Bool). b && not (eqb x c)) (seen_same p (raised p c) refl x);
        head = λ x l. head_same p (lifted (raised p c) c) refl refl x;
      }

  -- the head c of its pile goes, from a position r with p's deal and counts
  module _ (r : Position) (d : r.deal ≡ p.deal) (n : r.counts ≡ p.counts) (h : is_head p c ≡ true) where
    pub from : HeadOf p f.deal f.numbers.counts c
    from = head_of_lem p f.deal f.numbers.counts c h

    pub gone : Fewer p (uncovered r (pile_of p c)) (pile_of p c)
    gone =
        let i : ℕ = pile_of p c in
        let w : Fewer r (uncovered r i) i = uncovered_fewer r i from.is_pile (ap length n ∙ s.counts) in
        record { deal = w.deal ∙ d; here = w.here ∙ ap (λ (m : ℕ). m - 1) (count_same p r n i); there = λ j e. w.there j e ∙ count_same p r n j }

    under_same : (x : ℕ) → is_under r (pile_of p c) x ≡ is_under p (pile_of p c) x
    unfolding is_under
    under_same x = λ j. is_under (with_counts (with_deal p (d j)) (n j)) (pile_of p c) x

    pub uncovered_does : {F D S : ℕ → Bool} → Tests r F D (is_buried p) S (is_head p)
        → Tests (uncovered r (pile_of p c)) F D (λ x. is_buried p x && not (is_under p (pile_of p c) x)) (λ x. S x || is_under p (pile_of p c) x)
        (λ x. (is_head p x && not (eqb x c)) || is_under p (pile_of p c) x)
    uncovered_does t =
        let i : ℕ = pile_of p c in
        record {
          found = λ x l. found_same r (uncovered r i) (uncovered_stays r i).heights x ∙ t.found x l;
          deck = λ x l. deck_same r (uncovered r i) (uncovered_stays r i).deck (uncovered_stays r i).left x ∙ t.deck x l;
          buried = λ x l. buried_uncovered p (uncovered r i) i f.deal f.numbers.counts from.is_pile from.some gone x l;
          seen = λ x l. uncovered_has r i x l ∙ ap₂ (λ (a b : Bool). a || b) (t.seen x l) (under_same x);
          head = λ x l. head_uncovered p (uncovered r i) i f.deal f.numbers.counts from.is_pile from.some gone x l ∙ ap (λ (z : ℕ). (is_head p x && not (eqb x z)) || is_under p i x) from.is;
        }
