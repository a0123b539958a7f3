-- Laws of a height: going up and going down are inverse, and what the definitions over a position say of its heights.
-- Assumes nothing.
use mathlib.Core.Path.{◌≡◌, refl, ap, ◌∙◌}
use mathlib.Core.List.{List}
use Prim.Native.Nat.{ℕ, ◌+◌, ◌-◌, ◌<◌, min}
use native.Mathlib.Omega.{arith}
use lib.ListN.{length, get_or, set}
use lib.Seq.{set-get_or, set-set, get_or-set_same}
use Rattle.rules.specs.declared.Position.{Position}
use Rattle.rules.specs.Foundations.{raised_on, lowered_on, pushed_on}
use Rattle.rules.specs.Play.{raised, lowered}
use Rattle.rules.specs.Fields.{with_heights}
use Rattle.rules.specs.Cards.{suit}

-- ---- up and down

-- a byte below the highest goes up by one
pub push_raises : (h : List ℕ) (s : ℕ) → get_or h s 0 < 255 → pushed_on h s ≡ raised_on h s
unfolding pushed_on raised_on
push_raises h s l = let e : min (get_or h s 0 + 1) 255 ≡ get_or h s 0 + 1 = omega arith in ap (set h s) e

pub raise_lower : (h : List ℕ) (s : ℕ) → s < length h → lowered_on (raised_on h s) s ≡ h
unfolding lowered_on raised_on
raise_lower h s l =
    let e : get_or (set h s (get_or h s 0 + 1)) s 0 - 1 ≡ get_or h s 0 = omega (arith, get_or-set_same h s (get_or h s 0 + 1) 0 l) in
    set-set h s (get_or h s 0 + 1) (get_or (set h s (get_or h s 0 + 1)) s 0 - 1) ∙ ap (set h s) e ∙ set-get_or h s 0

-- ---- over a position

pub raised_heights : (p : Position) (c : ℕ) → raised p c ≡ with_heights p (raised_on p.heights (suit c))
unfolding raised
raised_heights p c = refl

pub lowered_heights : (p : Position) (c : ℕ) → lowered p c ≡ with_heights p (lowered_on p.heights (suit c))
unfolding lowered
lowered_heights p c = refl
