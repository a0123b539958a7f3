-- A pile that gets its head back: `turnedBack`, its fields, and what is visible. Assumes nothing.
use mathlib.Core.Bool.{Bool, true, false, not, ◌&&◌, cond, and-true}
use mathlib.Core.List.{List}
use mathlib.Core.Path.{◌≡◌, refl, sym, ap, ap₂, ◌∙◌}
use Prim.Native.Nat.{ℕ, ◌+◌, ◌-◌, ◌<◌, ◌^◌}
use native.Mathlib.Omega.{arith}
use lib.Dec.{eqb, ltb}
use lib.ListN.{get_or, set}
use lib.Seq.{set-set, set-get_or}
use borrow.Author.Tests.{lt-ltb, le-ltb, ltb-true, ltb-false}
use Rattle.rules.specs.declared.Position.{Position}
use Rattle.rules.specs.Bits.{without}
use Rattle.rules.specs.Places.{pile_start, pile_card, count, is_visible}
use Rattle.rules.specs.Play.{lifted, covered}
use Rattle.rules.specs.Fields.{with_counts}
use Rattle.facts.proofs.Shows.{lifted_has, lifted_low}
use Rattle.facts.proofs.Turned.{Fewer, is_under}
use Rattle.facts.proofs.TurnedFields.{Stays, recounted}

pub back_stays : (p : Position) (i : ℕ) → Stays p (covered p i) (set p.counts i (count p i + 1))
unfolding covered lifted
back_stays p i =
    recounted p (set p.counts i (count p i + 1)) (without (with_counts p (set p.counts i (count p i + 1))).visible (pile_card p i (count p i - 1))) (ltb 0 (count p i))

-- x is the head of pile i
unfoldable pub head_at : Position → ℕ → ℕ → Bool
head_at p i x = ltb 0 (count p i) && eqb x (pile_card p i (count p i - 1))

pub back_has : (p : Position) (i x : ℕ) → x < 52 → is_visible (covered p i) x ≡ (is_visible p x && not (head_at p i x))
unfolding covered head_at is_visible
back_has p i x l = go (ltb 0 (count p i))
  where
    m : Position
    m = with_counts p (set p.counts i (count p i + 1))

    go : (b : Bool) → is_visible (cond b (lifted m (pile_card p i (count p i - 1))) m) x ≡ (is_visible p x && not (b && eqb x (pile_card p i (count p i - 1))))
    go true = lifted_has m (pile_card p i (count p i - 1)) x l
    go false = sym (and-true (is_visible p x))

pub back_low : (p : Position) (i : ℕ) → p.visible < 2 ^ 52 → (covered p i).visible < 2 ^ 52
unfolding covered
back_low p i v = go (ltb 0 (count p i))
  where
    m : Position
    m = with_counts p (set p.counts i (count p i + 1))

    go : (b : Bool) → (cond b (lifted m (pile_card p i (count p i - 1))) m).visible < 2 ^ 52
    go true = lifted_low m (pile_card p i (count p i - 1)) v
    go false = v

-- the head that a pile has once its own is gone is the card that was under it
pub under_head_lem : (p q : Position) (i : ℕ) → Fewer p q i → (x : ℕ) → head_at q i x ≡ is_under p i x
unfolding head_at is_under
under_head_lem p q i f x =
    ap₂ (λ (n : ℕ) (d : List ℕ). ltb 0 n && eqb x (get_or d (pile_start i + (n - 1)) 0)) f.here f.deal
    ∙ ap₂ (λ (b : Bool) (k : ℕ). b && eqb x (get_or p.deal (pile_start i + k) 0)) positive two
  where
    two : count p i - 1 - 1 ≡ count p i - 2
    two = omega arith

    positive : ltb 0 (count p i - 1) ≡ ltb 1 (count p i)
    positive = go (ltb 1 (count p i)) refl
      where
        go : (b : Bool) → ltb 1 (count p i) ≡ b → ltb 0 (count p i - 1) ≡ ltb 1 (count p i)
        go true y = lt-ltb 0 (count p i - 1) (omega (arith, ltb-true 1 (count p i) y)) ∙ sym y
        go false y = le-ltb 0 (count p i - 1) (omega (arith, ltb-false 1 (count p i) y)) ∙ sym y

-- one number of a list changed and changed back
pub set_back : (l : List ℕ) (i v w : ℕ) → w ≡ get_or l i 0 → set (set l i v) i w ≡ l
set_back l i v w e = set-set l i v w ∙ ap (set l i) e ∙ set-get_or l i 0
