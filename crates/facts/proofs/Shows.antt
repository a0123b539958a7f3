-- A position that shows one card more or hides one: what is visible, and the range of the mask. Assumes nothing.
use mathlib.Core.Bool.{not, ◌&&◌, ◌||◌}
use mathlib.Core.Path.{◌≡◌}
use Prim.Native.Nat.{ℕ, ◌<◌, ◌^◌}
use lib.Dec.{eqb}
use Rattle.rules.specs.declared.Position.{Position}
use Rattle.rules.specs.Places.{is_visible}
use Rattle.rules.specs.Play.{laid, lifted}
use Rattle.facts.proofs.MaskBits.{with_bit, with_low, without_bit, without_low}

pub laid_has : (p : Position) (c x : ℕ) → x < 52 → is_visible (laid p c) x ≡ (is_visible p x || eqb x c)
unfolding is_visible laid
laid_has p c x h = with_bit p.visible c x h

pub lifted_has : (p : Position) (c x : ℕ) → x < 52 → is_visible (lifted p c) x ≡ (is_visible p x && not (eqb x c))
unfolding is_visible lifted
lifted_has p c x h = without_bit p.visible c x h

pub laid_low : (p : Position) (c : ℕ) → p.visible < 2 ^ 52 → c < 52 → (laid p c).visible < 2 ^ 52
unfolding laid
laid_low p c h l = with_low p.visible c h l

pub lifted_low : (p : Position) (c : ℕ) → p.visible < 2 ^ 52 → (lifted p c).visible < 2 ^ 52
unfolding lifted
lifted_low p c h = without_low p.visible c h
