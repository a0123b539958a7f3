-- Cards in the order of a list: how often a card is among them, and that leaving one out keeps the order. Assumes nothing.
use mathlib.Core.Bool.{Bool, true, false, cond, true≢false}
use mathlib.Core.Path.{◌≡◌, refl, sym, ap, ◌∙◌}
use mathlib.Core.List.{List, [], ◌∷◌, ◌++◌}
use Prim.Native.Nat.{ℕ, suc, ◌+◌, ◌≤◌, ◌<◌, zero-le, suc-le-suc}
use native.Mathlib.Omega.{arith}
use lib.Dec.{eqb}
use lib.ListN.{length, get_or}
use borrow.Author.Tests.{eqb-true, eq-eqb, ne_eqb}
use Rattle.rules.specs.Bits.{num, times}
use Rattle.rules.specs.Proper.{strike, is_none, in_order}
use Rattle.bits.proofs.Searches.{num_le}
use Rattle.rules.proofs.Among.{times_append}

pub eqb_refl : (x : ℕ) → eqb x x ≡ true
eqb_refl x = eq-eqb x x refl

-- ---- how often a card is in a list

pub times_out : (c x : ℕ) (a b : List ℕ) → times c (a ++ x ∷ b) ≡ times c (a ++ b) + num (eqb x c)
unfolding times
times_out c x a b = times_append c a (x ∷ b) ∙ omega (arith, times_append c a b)

-- different numbers: none is there twice
pub times_one : (c : ℕ) (xs : List ℕ) → ((a b : ℕ) → a < b → b < length xs → get_or xs a 0 ≡ get_or xs b 0 → ⊥) → times c xs ≤ 1
unfolding times
times_one c [] h = omega arith
times_one c (x ∷ xs) h = go (eqb x c) refl (times_one c xs (λ a b l m. h (suc a) (suc b) (suc-le-suc l) (suc-le-suc m)))
  where
    -- c is x, so it is not in xs
    none : (ys : List ℕ) → ((b : ℕ) → b < length ys → x ≡ get_or ys b 0 → ⊥) → x ≡ c → times c ys ≡ 0
    none [] d e = refl
    none (y ∷ ys) d e =
        let here : num (eqb y c) ≡ 0 = ap num (ne_eqb y c (λ z. d 0 (suc-le-suc zero-le) (e ∙ sym z))) in
        let there : times c ys ≡ 0 = none ys (λ b l. d (suc b) (suc-le-suc l)) e in
        omega arith

    go : (b : Bool) → eqb x c ≡ b → times c xs ≤ 1 → num (eqb x c) + times c xs ≤ 1
    go true y rest = let z : times c xs ≡ 0 = none xs (λ b l. h 0 (suc b) (suc-le-suc zero-le) (suc-le-suc l)) (eqb-true x c y) in omega (arith, num_le (eqb x c))
    go false y rest = let z : num (eqb x c) ≡ 0 = ap num y in omega arith

-- ---- xs are some of ys, in order

strike_times : (c y : ℕ) (xs : List ℕ) → times c xs ≤ num (eqb y c) + times c (strike y xs)
unfolding times strike
strike_times c y [] = omega arith
strike_times c y (x ∷ xs) = go (eqb x y) refl
  where
    go : (b : Bool) → eqb x y ≡ b → num (eqb x c) + times c xs ≤ num (eqb y c) + times c (cond b xs (x ∷ xs))
    go true e = let z : num (eqb x c) ≡ num (eqb y c) = ap (λ (w : ℕ). num (eqb w c)) (eqb-true x y e) in omega arith
    go false e = omega arith

pub order_times : (c : ℕ) (ys xs : List ℕ) → in_order xs ys ≡ true → times c xs ≤ times c ys
unfolding in_order is_none times
order_times c [] [] h = omega arith
order_times c [] (x ∷ xs) h = absurd (true≢false (sym h))
order_times c (y ∷ ys) xs h = omega (arith, order_times c ys (strike y xs) h, strike_times c y xs)

-- without the first; without one
pub order_tail : (ys : List ℕ) (x : ℕ) (xs : List ℕ) → in_order (x ∷ xs) ys ≡ true → in_order xs ys ≡ true
unfolding in_order is_none strike
order_tail [] x xs h = absurd (true≢false (sym h))
order_tail (y ∷ ys) x xs h = go (order_tail ys) (eqb x y) h
  where
    Tails : Type 0
    Tails = (z : ℕ) (zs : List ℕ) → in_order (z ∷ zs) ys ≡ true → in_order zs ys ≡ true

    struck : Tails → (zs : List ℕ) → in_order zs ys ≡ true → in_order (strike y zs) ys ≡ true
    struck r [] e = e
    struck r (z ∷ zs) e = at (eqb z y)
      where
        at : (b : Bool) → in_order (cond b zs (z ∷ zs)) ys ≡ true
        at true = r z zs e
        at false = e

    go : Tails → (b : Bool) → in_order (cond b xs (x ∷ xs)) ys ≡ true → in_order (strike y xs) ys ≡ true
    go r true e = struck r xs e
    go r false e = struck r xs (r x xs e)

pub order_out : (ys a : List ℕ) (x : ℕ) (b : List ℕ) → in_order (a ++ x ∷ b) ys ≡ true → in_order (a ++ b) ys ≡ true
unfolding in_order is_none strike
order_out ys [] x b h = order_tail ys x b h
order_out [] (z ∷ a) x b h = h
order_out (y ∷ ys) (z ∷ a) x b h = go (order_out ys a x b) (order_out ys (z ∷ a) x b) (eqb z y) h
  where
    go :
        (in_order (a ++ x ∷ b) ys ≡ true → in_order (a ++ b) ys ≡ true) → (in_order (z ∷ (a ++ x ∷ b)) ys ≡ true → in_order (z ∷ (a ++ b)) ys ≡ true)
        → (t : Bool) → in_order (cond t (a ++ x ∷ b) (z ∷ (a ++ x ∷ b))) ys ≡ true → in_order (cond t (a ++ b) (z ∷ (a ++ b))) ys ≡ true
    go r s true e = r e
    go r s false e = s e

-- a list is in its own order
pub order_self : (ys : List ℕ) → in_order ys ys ≡ true
unfolding in_order is_none strike
order_self [] = refl
order_self (y ∷ ys) = ap (λ (b : Bool). in_order (cond b ys (y ∷ ys)) ys) (eqb_refl y) ∙ order_self ys
