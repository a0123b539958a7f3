-- What is a matter of the deal: a move keeps it, and it says which pile a card was dealt to.
-- Assumes nothing.
use mathlib.Core.Bool.{true, ◌&&◌}
use mathlib.Core.Path.{◌≡◌, refl, ap}
use mathlib.Core.List.{List}
use Prim.Native.Nat.{ℕ, zero, suc, ◌+◌, ◌-◌, ◌≤◌, ◌<◌}
use native.Mathlib.Omega.{arith}
use lib.Dec.{eqb, ltb}
use lib.ListN.{get_or}
use borrow.Author.Tests.{ltb-true}
use Rattle.rules.specs.declared.Position.{Position}
use Rattle.rules.specs.Bits.{any_of, first_of}
use Rattle.rules.specs.Places.{pile_start, pile_card, count, is_head, pile_of}
use Rattle.rules.specs.Play.{raised, lowered, laid, lifted, drawn, uncovered, after}
use Rattle.bits.proofs.Searches.{and_left, and_right, any_yes, yes_any, first_least}
use Rattle.rules.proofs.ProperLaw.{Fits}
use Rattle.rules.proofs.UndoLaw.{same_either}
use Rattle.rules.specs.Hidden.{dealt_to, head_in}

-- a move keeps the deal
uncovered_deal : (p : Position) (i : ℕ) → (uncovered p i).deal ≡ p.deal
unfolding uncovered laid
uncovered_deal p i = same_either (λ q. q.deal) (ltb 1 (count p i)) _ _ p refl refl

pub after_deal : (p : Position) (kind c : ℕ) → (after p kind c).deal ≡ p.deal
unfolding after drawn lowered raised laid lifted
after_deal p zero c = refl
after_deal p (suc zero) c =
    same_either (λ q. q.deal) (is_head p c) (uncovered (lifted (raised p c) c) (pile_of p c)) (lifted (raised p c) c) p (uncovered_deal (lifted (raised p c) c) (pile_of p c)) refl
after_deal p (suc (suc zero)) c = refl
after_deal p (suc (suc (suc zero))) c = refl
after_deal p (suc (suc (suc (suc n)))) c = uncovered_deal p (pile_of p c)

-- the pile that a card was dealt to
pub pile_of_deal : (p q : Position) → p.deal ≡ q.deal → (c : ℕ) → pile_of p c ≡ pile_of q c
unfolding dealt_to
pile_of_deal p q e c = ap (λ (d : List ℕ). first_of 7 (λ i. any_of (i + 1) (λ k. eqb (get_or d (pile_start i + k) 0) c))) e

-- a head was dealt to one of the seven piles
pub head_pile_lem : (p : Position) → Fits p → (c : ℕ) → is_head p c ≡ true → pile_of p c < 7
unfolding head_in dealt_to
head_pile_lem p f c t =
    let u = any_yes 7 (λ i. ltb 0 (count p i) && eqb (pile_card p i (count p i - 1)) c) t in
    let n : 0 < count p u.0 = ltb-true 0 (count p u.0) (and_left (ltb 0 (count p u.0)) (eqb (pile_card p u.0 (count p u.0 - 1)) c) u.2) in
    let m : count p u.0 ≤ u.0 + 1 = f u.0 u.1 in
    omega (
      arith,
      u.1,
      first_least 7 (λ i. any_of (i + 1) (λ k. eqb (pile_card p i k) c)) u.0 u.1
          (yes_any (u.0 + 1) (λ k. eqb (pile_card p u.0 k) c) (count p u.0 - 1) (omega arith) (and_right (ltb 0 (count p u.0)) (eqb (pile_card p u.0 (count p u.0 - 1)) c) u.2)),
    )
