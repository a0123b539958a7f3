-- Laws of the four heights: the save field and its heights are inverse, and what the definitions over a position say of its heights.
-- Assumes nothing.
use mathlib.Core.Path.{◌≡◌, refl}
use mathlib.Core.List.{List, [], ◌∷◌}
use Prim.Native.Nat.{ℕ, zero, suc, ◌%◌, ◌^◌, ◌<◌}
use native.Mathlib.Omega.{arith}
use lib.Dec.{leb, lit<}
use lib.ListN.{length, get_or}
use Rattle.rules.specs.declared.Position.{Position}
use Rattle.rules.specs.Bits.{all_of}
use Rattle.rules.specs.Places.{height}
use Rattle.rules.specs.Foundations.{valid_on, full_on, field_on}
use Rattle.rules.specs.Code.{table, code_height}
use Rattle.rules.specs.Answers.{is_win}

-- ---- the save field

-- heights of four bits make a field of 16
pub field_low : (h : List ℕ) → ((s : ℕ) → s < 4 → get_or h s 0 < 16) → field_on h < 2 ^ 16
unfolding field_on
field_low h l = omega (arith, l 0 (lit< tt), l 1 (lit< tt), l 2 (lit< tt), l 3 (lit< tt))

-- the heights read off their field are the heights
pub decode_encode : (h : List ℕ) → length h ≡ 4 → ((s : ℕ) → s < 4 → get_or h s 0 < 16) → table 4 (code_height (field_on h)) ≡ h
unfolding table code_height field_on
decode_encode (a ∷ b ∷ c ∷ d ∷ []) e l =
    four (omega (arith, l0, l1, l2, l3)) (omega (arith, l0, l1, l2, l3)) (omega (arith, l0, l1, l2, l3)) (omega (arith, l0, l1, l2, l3))
  where
    l0 : a < 16
    l0 = l 0 (lit< tt)

    l1 : b < 16
    l1 = l 1 (lit< tt)

    l2 : c < 16
    l2 = l 2 (lit< tt)

    l3 : d < 16
    l3 = l 3 (lit< tt)

    four : {w x y z : ℕ} → w ≡ a → x ≡ b → y ≡ c → z ≡ d → w ∷ x ∷ y ∷ z ∷ [] ≡ a ∷ b ∷ c ∷ d ∷ []
    four p q r s = cc
decode_encode [] e l = absurd (omega arith)
decode_encode (a ∷ []) e l = absurd (omega arith)
decode_encode (a ∷ b ∷ []) e l = absurd (omega arith)
decode_encode (a ∷ b ∷ c ∷ []) e l = absurd (omega arith)
decode_encode (a ∷ b ∷ c ∷ d ∷ f ∷ h) e l = absurd (omega arith)

-- the heights of a save code stand in its lowest 16 bits
pub height_low : (x s : ℕ) → s < 4 → code_height (x % 2 ^ 16) s ≡ code_height x s
unfolding code_height
height_low x zero l = omega arith
height_low x (suc zero) l = omega arith
height_low x (suc (suc zero)) l = omega arith
height_low x (suc (suc (suc zero))) l = omega arith
height_low x (suc (suc (suc (suc s)))) l = absurd (omega arith)

-- ---- over a position

pub win_full : (p : Position) → is_win p ≡ full_on p.heights
unfolding is_win
win_full p = refl

pub valid_heights : (p : Position) → all_of 4 (λ s. leb (height p s) 13) ≡ valid_on p.heights
unfolding valid_on
valid_heights p = refl
