-- A card drawn from the deck: the cards left, their order, and which card is among them. Assumes nothing.
use mathlib.Core.Bool.{Bool, true, false, not, ◌&&◌, and-true, and-false}
use mathlib.Core.Path.{◌≡◌, refl, sym, ap, ap₂, ◌∙◌}
use mathlib.Core.List.{List, ◌∷◌, ◌++◌}
use Prim.Native.Nat.{ℕ, ◌+◌, ◌-◌, ◌≤◌, ◌<◌}
use native.Mathlib.Numerals.{add-one}
use native.Mathlib.Omega.{arith}
use lib.Dec.{eqb, ltb}
use lib.ListN.{length, get_or, take, drop, length-append, length-take, length-drop}
use lib.Seq.{take-take, split_at, get_or-take, get_or-drop, length-take-le}
use borrow.Author.Tests.{eqb-true, eqb-false, eq-eqb, ne_eqb, le-ltb}
use Rattle.rules.specs.declared.Position.{Position}
use Rattle.rules.specs.Bits.{num, first_of, times}
use Rattle.rules.specs.Places.{deck_card, in_deck}
use Rattle.rules.specs.Proper.{deal_right, in_order, deck_right}
use Rattle.rules.specs.Dealing.{available, place_available}
use Rattle.rules.specs.Play.{deck_place, drawn}
use Rattle.bits.proofs.Searches.{and_left, any_yes, yes_any, first_yes, first_least}
use Rattle.rules.proofs.DealLaw.{one_card}
use Rattle.rules.proofs.Among.{any_front, among_times}
pub use Rattle.rules.proofs.SlotsLaw.{slots_front, slots_length}
use Rattle.facts.proofs.InOrder.{times_out, times_one, order_times, order_out}

-- the cards left
unfoldable pub deck_list : Position → List ℕ
deck_list p = take p.left p.deck

-- an available card is in the deck
pub available_in : (p : Position) (c : ℕ) → available p c ≡ true → in_deck p c ≡ true
unfolding available in_deck
available_in p c h =
    let u = any_yes p.left (λ k. eqb (deck_card p k) c && place_available p k) h in
    yes_any p.left (λ k. eqb (deck_card p k) c) u.0 u.1 (and_left (eqb (deck_card p u.0) c) (place_available p u.0) u.2)

-- in a right deck no card is twice
pub deck_once : (p : Position) → deal_right p ≡ true → deck_right p ≡ true → (c : ℕ) → times c (deck_list p) ≤ 1
unfolding deck_right deck_list
deck_once p d h c = omega (arith, order_times c stock (take p.left p.deck) h, times_one c stock differ)
  where
    stock : List ℕ
    stock = take 24 (drop 28 p.deal)

    short : length stock ≤ 24
    short = omega (arith, length-take 24 (drop 28 p.deal))

    at : (k : ℕ) → k < 24 → get_or stock k 0 ≡ get_or p.deal (28 + k) 0
    at k l = get_or-take 24 (drop 28 p.deal) k 0 l ∙ get_or-drop 28 p.deal k 0

    differ : (a b : ℕ) → a < b → b < length stock → get_or stock a 0 ≡ get_or stock b 0 → ⊥
    differ a b l m e =
        let lb : b < 24 = omega (arith, short) in
        let la : a < 24 = omega arith in
        let z : 28 + a ≡ 28 + b = one_card p d (28 + a) (28 + b) (omega arith) (omega arith) (sym (at a la) ∙ e ∙ at b lb) in
        omega arith

-- being in the deck, by the list
pub in_deck_lem : (p : Position) → length p.deck ≡ 24 → p.left ≤ 24 → (c : ℕ) → in_deck p c ≡ ltb 0 (times c (deck_list p))
unfolding in_deck deck_list
in_deck_lem p e l c = any_front p.left p.deck c (omega arith) ∙ among_times (take p.left p.deck) c

module _ (p : Position) (c : ℕ) (e : length p.deck ≡ 24) (l : p.left ≤ 24) (h : in_deck p c ≡ true) where
  -- the place of a deck card
  pub place_low : deck_place p c < p.left
  unfolding in_deck deck_place
  place_low =
      let u = any_yes p.left (λ k. eqb (deck_card p k) c) h in
      let w : first_of p.left (λ k. eqb (deck_card p k) c) ≤ u.0 = first_least p.left (λ k. eqb (deck_card p k) c) u.0 u.1 u.2 in
      omega (arith, u.1)

  pub place_card : get_or (deck_list p) (deck_place p c) 0 ≡ c
  unfolding deck_place deck_list
  place_card =
      get_or-take p.left p.deck (deck_place p c) 0 place_low
      ∙ eqb-true (deck_card p (deck_place p c)) c (first_yes p.left (λ k. eqb (deck_card p k) c) place_low)

  pub list_length : length (deck_list p) ≡ p.left
  unfolding deck_list
  list_length = length-take-le p.left p.deck (omega arith)

  -- the deck before c, c, and the deck after it
  pub around : deck_list p ≡ take (deck_place p c) (deck_list p) ++ c ∷ drop (deck_place p c + 1) (deck_list p)
  around =
      let low : deck_place p c < length (deck_list p) = omega (arith, place_low, list_length) in
      split_at (deck_list p) (deck_place p c) 0 low
      ∙ ap₂ (λ (x n : ℕ). take (deck_place p c) (deck_list p) ++ x ∷ drop n (deck_list p)) place_card (sym (add-one (deck_place p c)))

  -- drawn: what is left is the two parts
  pub drawn_list : deck_list (drawn p c) ≡ take (deck_place p c) (deck_list p) ++ drop (deck_place p c + 1) (deck_list p)
  unfolding deck_list drawn
  drawn_list =
      let k : ℕ = deck_place p c in
      let rest : List ℕ = drop (k + 1) (take p.left p.deck) in
      let low : k < p.left = place_low in
      let front : take k p.deck ≡ take k (take p.left p.deck) = sym (take-take k p.left p.deck (omega arith)) in
      let len : length (take k p.deck ++ rest) ≡ p.left - 1 =
      omega (arith, length-append (take k p.deck) rest, length-take k p.deck, length-drop (k + 1) (take p.left p.deck), list_length) in
      slots_front (take k p.deck ++ rest) (p.left - 1) len (omega arith) ∙ ap (λ (xs : List ℕ). xs ++ rest) front

  pub drawn_length : length (drawn p c).deck ≡ 24
  unfolding drawn
  drawn_length = slots_length (take (deck_place p c) p.deck ++ drop (deck_place p c + 1) (take p.left p.deck))

  pub drawn_left : (drawn p c).left ≤ 24
  unfolding drawn
  drawn_left = omega arith

  pub drawn_offset : (drawn p c).offset ≤ (drawn p c).left
  unfolding drawn
  drawn_offset = omega (arith, place_low)

  pub drawn_right : deck_right p ≡ true → deck_right (drawn p c) ≡ true
  unfolding deck_right drawn deck_list
  drawn_right r =
      let stock : List ℕ = take 24 (drop 28 p.deal) in
      ap (λ (xs : List ℕ). in_order xs stock) drawn_list
      ∙ order_out stock (take (deck_place p c) (deck_list p)) c (drop (deck_place p c + 1) (deck_list p)) (ap (λ (xs : List ℕ). in_order xs stock) (sym around) ∙ r)

  pub drawn_has : ((x : ℕ) → times x (deck_list p) ≤ 1) → (x : ℕ) → in_deck (drawn p c) x ≡ (in_deck p x && not (eqb x c))
  drawn_has once x =
      in_deck_lem (drawn p c) drawn_length drawn_left x ∙ ap (λ (xs : List ℕ). ltb 0 (times x xs)) drawn_list
      ∙ go (eqb x c) refl
      ∙ ap (λ (b : Bool). b && not (eqb x c)) (sym (in_deck_lem p e l x))
    where
      a : List ℕ
      a = take (deck_place p c) (deck_list p)

      b : List ℕ
      b = drop (deck_place p c + 1) (deck_list p)

      sum : times x (deck_list p) ≡ times x (a ++ b) + num (eqb c x)
      sum = ap (times x) around ∙ times_out x c a b

      go : (t : Bool) → eqb x c ≡ t → ltb 0 (times x (a ++ b)) ≡ (ltb 0 (times x (deck_list p)) && not (eqb x c))
      go true y =
          let z : num (eqb c x) ≡ 1 = ap num (eq-eqb c x (sym (eqb-true x c y))) in
          rw y (le-ltb 0 (times x (a ++ b)) (omega (arith, once x, sum)) ∙ sym (and-false (ltb 0 (times x (deck_list p)))))
      go false y =
          let z : num (eqb c x) ≡ 0 = ap num (ne_eqb c x (λ w. eqb-false x c y (sym w))) in
          let w : times x (a ++ b) ≡ times x (deck_list p) = omega (arith, sum) in
          rw y (ap (ltb 0) w ∙ sym (and-true (ltb 0 (times x (deck_list p)))))
