-- The pile that a search over the counts finds is the one that the card was dealt to; turning up and back by the counts alone is the position's.
-- Assumes nothing.
use mathlib.Core.Bool.{Bool, true, false, ◌&&◌, cond, true≢false}
use mathlib.Core.Path.{◌≡◌, refl, sym, ap, ap₂, ◌∙◌}
use mathlib.Core.List.{List}
use Prim.Native.Nat.{ℕ, ◌+◌, ◌-◌, ◌≤◌, ◌<◌}
use native.Mathlib.Omega.{arith}
use lib.Dec.{eqb, ltb, leb}
use lib.ListN.{get_or, set, length}
use lib.Seq.{get_or-set_same, set-set, set-get_or}
use borrow.Author.Tests.{eqb-true, eq-eqb, ltb-true, lt-ltb, leb-true, le-leb}
use Rattle.rules.specs.declared.Position.{Position}
use Rattle.rules.specs.declared.TurnedUp.{TurnedUp}
use Rattle.rules.specs.declared.TurnedUp.TheVariants.{Nothing, Emptied, Card}
use Rattle.rules.specs.Bits.{first_of}
use Rattle.rules.specs.Places.{pile_card, count, is_head, pile_of}
use Rattle.rules.specs.Play.{laid, lifted, uncovered, covered}
use Rattle.rules.specs.Fields.{with_counts}
use Rattle.rules.specs.Hidden.{placed, head_of, bare_of, head_in, head_pile, bare_pile, one_less, one_more, under_in, covered_in}
use Rattle.bits.proofs.Searches.{and_left, and_right, and_both, any_yes, yes_any, first_yes}
use Rattle.bits.proofs.Steps.{first_at, first_none}
use Rattle.rules.proofs.Placed.{pile_of_lem}
use Rattle.bits.proofs.Tables.{same_test}
use Rattle.rules.proofs.Facts.{Facts}

-- ---- the piles

module _ (p : Position) (f : Facts p) where
  -- a card at one place of the piles is dealt to that pile alone
  dealt_to_lem : (c i k : ℕ) → i < 7 → k ≤ i → pile_card p i k ≡ c → pile_of p c ≡ i
  dealt_to_lem c i k l m e = ap (pile_of p) (sym e) ∙ pile_of_lem p f.deal i k l m

  -- a search that finds a card at a place of each pile finds the pile that the card was dealt to
  module _ (c : ℕ) (has : ℕ → Bool) (at : ℕ → ℕ) (inside : (i : ℕ) → i < 7 → has i ≡ true → at i ≤ i) where
    found : (i : ℕ) → i < 7 → (has i && eqb (placed p.deal i (at i)) c) ≡ true → first_of 7 (λ j. has j && eqb (placed p.deal j (at j)) c) ≡ pile_of p c
    found i l t =
        first_at 7 (λ j. has j && eqb (placed p.deal j (at j)) c) i l (λ j s u. omega (arith, sym (to j (omega arith) u) ∙ to i l t)) t ∙ sym (to i l t)
      where
        to : (j : ℕ) → j < 7 → (has j && eqb (placed p.deal j (at j)) c) ≡ true → pile_of p c ≡ j
        to j m u =
            dealt_to_lem c j (at j) m (inside j m (and_left (has j) (eqb (placed p.deal j (at j)) c) u))
            (eqb-true (placed p.deal j (at j)) c (and_right (has j) (eqb (placed p.deal j (at j)) c) u))

  pub head_pile_is : (c : ℕ) → is_head p c ≡ true → head_pile p.deal p.counts c ≡ pile_of p c
  unfolding head_pile head_in
  head_pile_is c t =
      let n = p.counts in
      let u = any_yes 7 (λ i. head_of p.deal n c i) t in
      found c (λ i. ltb 0 (get_or n i 0)) (λ i. get_or n i 0 - 1) (λ i l b. omega (arith, f.counts i l)) u.0 u.1 u.2

  pub bare_pile_is : (i : ℕ) → i < 7 → count p i ≤ i → bare_pile p.deal p.counts (pile_card p i (count p i)) ≡ pile_of p (pile_card p i (count p i))
  unfolding bare_pile
  bare_pile_is i l m =
      let n = p.counts in
      let c = placed p.deal i (get_or n i 0) in
      found c (λ j. leb (get_or n j 0) j) (λ j. get_or n j 0) (λ j s b. leb-true (get_or n j 0) j b) i l
      (and_both (leb (get_or n i 0) i) (eqb c c) (le-leb (get_or n i 0) i m) (eq-eqb c c refl))

  -- and a pile that the search finds is that one
  pub bare_pile_found : (c : ℕ) → bare_pile p.deal p.counts c < 7 → bare_pile p.deal p.counts c ≡ pile_of p c
  unfolding bare_pile
  bare_pile_found c l =
      let n = p.counts in
      found c (λ j. leb (get_or n j 0) j) (λ j. get_or n j 0) (λ j s b. leb-true (get_or n j 0) j b) (bare_pile p.deal n c) l (first_yes 7 (λ j. bare_of p.deal n c j) l)

pub head_pile_none : (p : Position) (c : ℕ) → is_head p c ≡ false → head_pile p.deal p.counts c ≡ 7
unfolding head_pile head_in
head_pile_none p c h = first_none 7 _ (λ j l t. true≢false (sym (yes_any 7 (λ i. head_of p.deal p.counts c i) j l t) ∙ h))

-- ---- turning up and back: what a head's leaving and coming back does to the counts, and the card under it

-- the position with a card that was turned up visible; with a card that is covered again hidden
unfoldable pub up_turned : Position → TurnedUp → Position
up_turned p Nothing = p
up_turned p Emptied = p
up_turned p (Card c) = laid p c.0

unfoldable pub up_hidden : Position → TurnedUp → Position
up_hidden p Nothing = p
up_hidden p Emptied = p
up_hidden p (Card c) = lifted p c.0

-- a choice within a function's argument
under_cond : {A B : Type 0} (g : A → B) (b : Bool) (x y : A) → g (cond b x y) ≡ cond b (g x) (g y)
under_cond g true x y = refl
under_cond g false x y = refl

pub uncovered_is : (p : Position) (i : ℕ) → uncovered p i ≡ up_turned (with_counts p (one_less p.counts i)) (under_in p.deal p.counts i)
unfolding uncovered up_turned one_less under_in
uncovered_is p i = sym (under_cond (up_turned (with_counts p (one_less p.counts i))) (ltb 1 (get_or p.counts i 0)) _ _)

pub covered_is : (p : Position) (i : ℕ) → covered p i ≡ up_hidden (with_counts p (one_more p.counts i)) (covered_in p.deal p.counts i)
unfolding covered up_hidden one_more covered_in
covered_is p i = sym (under_cond (up_hidden (with_counts p (one_more p.counts i))) (ltb 0 (get_or p.counts i 0)) _ _)

-- a head that leaves and comes back: the counts are the old ones, and it covers what it had uncovered
module _ (n : List ℕ) (i : ℕ) (long : i < length n) (some : 0 < get_or n i 0) where
  popped : get_or (one_less n i) i 0 ≡ get_or n i 0 - 1
  unfolding one_less
  popped = get_or-set_same n i (get_or n i 0 - 1) 0 long

  pub more_less : one_more (one_less n i) i ≡ n
  unfolding one_more one_less
  more_less =
      let e : get_or n i 0 - 1 + 1 ≡ get_or n i 0 = omega arith in
      ap (set (set n i (get_or n i 0 - 1)) i) (ap (λ (x : ℕ). x + 1) popped ∙ e) ∙ set-set n i _ _ ∙ set-get_or n i 0

  pub covered_under : (d : List ℕ) → covered_in d (one_less n i) i ≡ under_in d n i
  unfolding covered_in under_in
  covered_under d =
      let e : get_or n i 0 - 1 - 1 ≡ get_or n i 0 - 2 = omega arith in
      ap (λ (x : ℕ). cond (ltb 0 x) (Card (record { 0 = placed d i (x - 1) })) Emptied) popped
      ∙ ap₂ (λ (b : Bool) (x : ℕ). cond b (Card (record { 0 = placed d i x })) Emptied)
      (same_test (ltb 0 (get_or n i 0 - 1)) (ltb 1 (get_or n i 0)) (λ t. lt-ltb 1 (get_or n i 0) (omega (arith, ltb-true 0 (get_or n i 0 - 1) t))) (λ t. lt-ltb 0 (get_or n i 0 - 1) (omega (arith, ltb-true 1 (get_or n i 0) t)))) e
