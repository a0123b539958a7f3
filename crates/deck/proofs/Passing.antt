-- The deck's 24 cards gone through with the cards left beside them: at each place, is its card the next of those left?
-- Assumes nothing.
use mathlib.Core.Bool.{Bool, true, false, ◌&&◌, cond, true≢false}
use mathlib.Core.Path.{◌≡◌, refl, sym, ap, ap₂, ◌∙◌, subst}
use mathlib.Core.List.{List, [], ◌∷◌}
use Prim.Native.Nat.{ℕ, ◌+◌, ◌-◌, ◌≤◌, ◌<◌, zero-le, suc-le-suc}
use native.Mathlib.Numerals.{add-one}
use native.Mathlib.Omega.{arith}
use lib.Dec.{T, eqb, ltb}
use lib.ListN.{length, get_or, take, drop, length-drop}
use lib.Seq.{length-take-le, drop-cons, get_or-take, get_or-drop}
use mir.Val.{bool_byte}
use borrow.Author.Tests.{eqb-true, eq-eqb, ne_eqb, ltb-true, ltb-false, lt-ltb, le-ltb}
use Rattle.bits.proofs.Tables.{T_true}
use Rattle.rules.specs.declared.Position.{Position}
use Rattle.rules.specs.Bits.{num, any_of, count_of, first_of}
use Rattle.rules.specs.Places.{in_deck}
use Rattle.rules.specs.Proper.{proper, deck_right, strike, in_order}
use Rattle.rules.specs.Answers.{stock_place, find_place}
use Rattle.bits.proofs.Steps.{first_at}
use Rattle.bits.proofs.Searches.{and_left, and_right, and_both, any_yes, yes_any, first_yes, count_snoc, is_false}
use Rattle.rules.proofs.ProperLaw.{parts}
use Rattle.rules.proofs.Shape.{Shape}
use Rattle.rules.proofs.Facts.{facts, in_order_lem}

-- `strike y xs` where y is not the first of xs
strike_miss : (y : ℕ) (xs : List ℕ) → (0 < length xs → get_or xs 0 0 ≡ y → ⊥) → strike y xs ≡ xs
unfolding strike
strike_miss y [] h = refl
strike_miss y (x ∷ xs) h = ap (λ (b : Bool). cond b xs (x ∷ xs)) (ne_eqb x y (h (suc-le-suc zero-le)))

strike_hit : (y : ℕ) (xs : List ℕ) → strike y (y ∷ xs) ≡ xs
unfolding strike
strike_hit y xs = ap (λ (b : Bool). cond b xs (y ∷ xs)) (eq-eqb y y refl)

-- a test as a number
pub byte_le : (b : Bool) → bool_byte b ≤ 1
byte_le true = omega arith
byte_le false = omega arith

-- at the place k, with `at` of the cards left passed
abbrev pub next : List ℕ → List ℕ → ℕ → ℕ → ℕ → Bool
next deal deck left k at = ltb at left && eqb (get_or deck at 0) (get_or deal (28 + k) 0)

-- the places of which the deck still has the card
abbrev pub has : List ℕ → List ℕ → ℕ → ℕ → Bool
has deal deck left k = any_of left (λ j. eqb (get_or deck j 0) (get_or deal (28 + k) 0))

-- a deal of different cards, and a deck of its cards in order
pub record Right (deal deck : List ℕ) (left : ℕ) : Type 0 where
  pub long : length deal ≡ 52
  pub full : length deck ≡ 24
  pub fits : left ≤ 24
  pub order : in_order (take left deck) (take 24 (drop 28 deal)) ≡ true
  pub apart : (j k : ℕ) → j < 24 → k < 24 → get_or deal (28 + j) 0 ≡ get_or deal (28 + k) 0 → j ≡ k

pub right : (p : Position) → T (proper p) → length p.deal ≡ 52 → length p.deck ≡ 24 → Right p.deal p.deck p.left
unfolding deck_right
right p t long full =
    let f = facts p t in
    record {
      long = long;
      full = full;
      fits = f.left;
      order = (parts p (T_true (proper p) t)).deck;
      apart = λ j k l m e. let s : 28 + j ≡ 28 + k = f.differ (28 + j) (28 + k) (omega arith) (omega arith) e in omega arith;
    }

pub shape_right : (p : Position) → T (proper p) → Shape p → Right p.deal p.deck p.left
shape_right p t h = right p t h.deal h.deck

-- what holds at the place k
pub record Walk (deal deck : List ℕ) (left k at : ℕ) : Type 0 where
  pub passed : at ≡ count_of k (has deal deck left)
  pub low : at ≤ left
  pub order : in_order (drop at (take left deck)) (drop k (take 24 (drop 28 deal))) ≡ true
  pub past : (j i : ℕ) → j < at → k ≤ i → i < 24 → get_or deck j 0 ≡ get_or deal (28 + i) 0 → ⊥

module _ (deal deck : List ℕ) (left : ℕ) (r : Right deal deck left) where
  abbrev stock : List ℕ
  stock = take 24 (drop 28 deal)

  abbrev cards : List ℕ
  cards = take left deck

  stock_length : length stock ≡ 24
  stock_length = length-take-le 24 (drop 28 deal) (simp length-drop (omega (arith, r.long)))

  cards_length : length cards ≡ left
  cards_length = length-take-le left deck (omega (arith, r.fits, r.full))

  stock_at : (k : ℕ) → k < 24 → get_or stock k 0 ≡ get_or deal (28 + k) 0
  stock_at k l = get_or-take 24 (drop 28 deal) k 0 l ∙ get_or-drop 28 deal k 0

  -- the rest of the cards left are of the places from k on: c is none of them where it is of none of these
  none_ahead : (at k c : ℕ) → in_order (drop at cards) (drop k stock) ≡ true → ((i : ℕ) → k ≤ i → i < 24 → get_or deal (28 + i) 0 ≡ c → ⊥) → (j : ℕ) → at ≤ j → j < left → get_or deck j 0 ≡ c → ⊥
  none_ahead at k c h away j a l e =
      in_order_lem (λ x. x ≡ c → ⊥) (drop at cards) (drop k stock) h
      (λ i m z.
      let w : k + i < 24 = omega (arith, length-drop k stock, stock_length) in
      away (k + i) (omega arith) w (sym (stock_at (k + i) w) ∙ sym (get_or-drop k stock i 0) ∙ z))
      (j - at) (omega (arith, length-drop at cards, cards_length)) (get_or-drop at cards (j - at) 0 ∙ ap (λ (x : ℕ). get_or cards x 0) back ∙ get_or-take left deck j 0 l ∙ e)
    where
      back : at + (j - at) ≡ j
      back = omega arith

  -- the order, past the card of place k
  order_cons : (at k : ℕ) → k < 24 → in_order (drop at cards) (drop k stock) ≡ true → in_order (strike (get_or deal (28 + k) 0) (drop at cards)) (drop (k + 1) stock) ≡ true
  unfolding in_order
  order_cons at k l h =
      let e : drop k stock ≡ get_or deal (28 + k) 0 ∷ drop (k + 1) stock = drop-cons stock k 0 (omega (arith, stock_length)) ∙ ap₂ (λ (x n : ℕ). x ∷ drop n stock) (stock_at k l) (sym (add-one k)) in
      sym (ap (in_order (drop at cards)) e) ∙ h

  pub walk_start : Walk deal deck left 0 0
  unfolding count_of
  walk_start = record { passed = refl; low = zero-le; order = r.order; past = λ j i l a b e. omega arith }

  -- the card of place k is the next of those left just where it is left
  pub walk_step : (k at : ℕ) → k < 24 → Walk deal deck left k at → (b : Bool) → next deal deck left k at ≡ b → (has deal deck left k ≡ b) × Walk deal deck left (k + 1) (at + bool_byte b)
  walk_step k at l w true h =
      let i : at < left = ltb-true at left (and_left (ltb at left) (eqb (get_or deck at 0) (get_or deal (28 + k) 0)) h) in
      let t : eqb (get_or deck at 0) (get_or deal (28 + k) 0) ≡ true = and_right (ltb at left) (eqb (get_or deck at 0) (get_or deal (28 + k) 0)) h in
      let e : get_or deck at 0 ≡ get_or deal (28 + k) 0 = eqb-true (get_or deck at 0) (get_or deal (28 + k) 0) t in
      let y : has deal deck left k ≡ true = yes_any left (λ j. eqb (get_or deck j 0) (get_or deal (28 + k) 0)) at i t in
      let d : drop at cards ≡ get_or deal (28 + k) 0 ∷ drop (at + 1) cards = drop-cons cards at 0 (omega (arith, cards_length)) ∙ ap₂ (λ (x n : ℕ). x ∷ drop n cards) (get_or-take left deck at 0 i ∙ e) (sym (add-one at)) in (
        y,
        record {
          passed = rw (add-one k, count_snoc k (has deal deck left)) (ap₂ (λ (n : ℕ) (b : Bool). n + num b) w.passed (sym y));
          low = omega arith;
          order = ap (λ (xs : List ℕ). in_order xs (drop (k + 1) stock)) (sym (ap (strike (get_or deal (28 + k) 0)) d ∙ strike_hit (get_or deal (28 + k) 0) (drop (at + 1) cards))) ∙ order_cons at k l w.order;
          past = λ j i a b c z. past j i a b c z (ltb j at) refl e;
        },
      )
    where
      past : (j i : ℕ) → j < at + 1 → k + 1 ≤ i → i < 24 → get_or deck j 0 ≡ get_or deal (28 + i) 0 → (b : Bool) → ltb j at ≡ b → get_or deck at 0 ≡ get_or deal (28 + k) 0 → ⊥
      past j i a b c z true m e = w.past j i (ltb-true j at m) (omega arith) c z
      past j i a b c z false m e =
          let s : j ≡ at = omega (arith, ltb-false j at m) in
          let n : k ≡ i = r.apart k i l c (sym e ∙ ap (λ (x : ℕ). get_or deck x 0) (sym s) ∙ z) in
          omega arith
  walk_step k at l w false h = (
    no,
    record {
      passed = rw (add-one k, count_snoc k (has deal deck left)) (ap₂ (λ (n : ℕ) (b : Bool). n + num b) w.passed (sym no));
      low = omega (arith, w.low);
      order = subst (λ (n : ℕ). in_order (drop n cards) (drop (k + 1) stock) ≡ true) none ahead;
      past = λ j i a b c z. w.past j i (omega arith) (omega arith) c z;
    },
  )
    where
      none : at ≡ at + 0
      none = omega arith

      missed : 0 < length (drop at cards) → get_or (drop at cards) 0 0 ≡ get_or deal (28 + k) 0 → ⊥
      missed n e =
          let i : at < left = omega (arith, length-drop at cards, cards_length) in
          let s : get_or deck at 0 ≡ get_or deal (28 + k) 0 = sym (get_or-take left deck at 0 i) ∙ ap (λ (x : ℕ). get_or cards x 0) none ∙ sym (get_or-drop at cards 0 0) ∙ e in
          true≢false (sym (and_both (ltb at left) (eqb (get_or deck at 0) (get_or deal (28 + k) 0)) (lt-ltb at left i) (eq-eqb (get_or deck at 0) (get_or deal (28 + k) 0) s)) ∙ h)

      ahead : in_order (drop at cards) (drop (k + 1) stock) ≡ true
      ahead = ap (λ (xs : List ℕ). in_order xs (drop (k + 1) stock)) (sym (strike_miss (get_or deal (28 + k) 0) (drop at cards) missed)) ∙ order_cons at k l w.order

      away : (i : ℕ) → k + 1 ≤ i → i < 24 → get_or deal (28 + i) 0 ≡ get_or deal (28 + k) 0 → ⊥
      away i a b e = let s : i ≡ k = r.apart i k b l e in omega arith

      differs : (j : ℕ) → j < left → get_or deck j 0 ≡ get_or deal (28 + k) 0 → (b : Bool) → ltb j at ≡ b → ⊥
      differs j i e true m = w.past j k (ltb-true j at m) (omega arith) l e
      differs j i e false m = none_ahead at (k + 1) (get_or deal (28 + k) 0) ahead away j (ltb-false j at m) i e

      no : has deal deck left k ≡ false
      no = is_false (has deal deck left k) (λ y.
          let u = any_yes left (λ j. eqb (get_or deck j 0) (get_or deal (28 + k) 0)) y in
          differs u.0 u.1 (eqb-true (get_or deck u.0 0) (get_or deal (28 + k) 0) u.2) (ltb u.0 at) refl)

  -- a card of none of the 24 places is not in the deck
  pub none_left : (card : ℕ) → ((i : ℕ) → i < 24 → get_or deal (28 + i) 0 ≡ card → ⊥) → any_of left (λ j. eqb (get_or deck j 0) card) ≡ false
  none_left card away = is_false (any_of left (λ j. eqb (get_or deck j 0) card)) (λ y.
      let u = any_yes left (λ j. eqb (get_or deck j 0) card) y in
      none_ahead 0 0 card r.order (λ i a b e. away i b e) u.0 zero-le u.1 (eqb-true (get_or deck u.0 0) card u.2))

-- ---- where a card lies

module _ (p : Position) (card : ℕ) where
  -- no place before k has the card
  abbrev pub Not-yet : ℕ → Type 0
  Not-yet k = (j : ℕ) → j < k → get_or p.deal (28 + j) 0 ≡ card → ⊥

  test : ℕ → Bool
  test j = eqb (get_or p.deal (28 + j) 0) card

  -- it is at place k
  pub found_at : (k at : ℕ) → k < 24 → Walk p.deal p.deck p.left k at → Not-yet k → get_or p.deal (28 + k) 0 ≡ card → at ≡ find_place p card
  unfolding find_place stock_place in_deck test
  found_at k at l w none e =
      let s : first_of 24 test ≡ k = first_at 24 test k l (λ j i y. none j i (eqb-true (get_or p.deal (28 + j) 0) card y)) (eq-eqb (get_or p.deal (28 + k) 0) card e) in
      w.passed ∙ sym (rw (s, lt-ltb k 24 l) refl)

  -- it is at none
  far : Not-yet 24 → 24 ≤ first_of 24 test
  unfolding test
  far none = go (ltb (first_of 24 test) 24) refl
    where
      go : (b : Bool) → ltb (first_of 24 test) 24 ≡ b → 24 ≤ first_of 24 test
      go true h = absurd (none (first_of 24 test) (ltb-true (first_of 24 test) 24 h) (eqb-true (get_or p.deal (28 + first_of 24 test) 0) card (first_yes 24 test (ltb-true (first_of 24 test) 24 h))))
      go false h = ltb-false (first_of 24 test) 24 h

  pub nowhere : Right p.deal p.deck p.left → Not-yet 24 → (false ≡ in_deck p card) × (0 ≡ find_place p card)
  unfolding find_place stock_place in_deck test
  nowhere r none = (sym (none_left p.deal p.deck p.left r card none), sym (rw (le-ltb (first_of 24 test) 24 (far none)) refl))
