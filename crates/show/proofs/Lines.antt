-- Lines of hex digits: the next digit, and one line written after another.
-- Assumes nothing.
use mathlib.Core.Path.{◌≡◌, refl, sym, ap, ap₂, ◌∙◌}
use mathlib.Core.List.{List, ◌∷◌, ◌++◌}
use Prim.Native.Nat.{ℕ, zero, suc, ◌+◌, ◌-◌, ◌*◌, ◌/◌, ◌%◌, ◌^◌, ◌<◌}
use native.Mathlib.Nat.{pow-suc, mul-suc}
use native.Mathlib.Omega.{arith}
use lib.ListN.{length, length-append}
use lib.Pow.{pow-add}
use lib.Seq.{sets}
use Rattle.rules.specs.declared.Masks.{Masks}
use Rattle.rules.specs.Show.{digit, digits, hex_line, masks_text}
use Rattle.moves.proofs.Writes.{sets_append}

-- four bits are a hex digit
nibbles : (n : ℕ) → 2 ^ (4 * n) ≡ 16 ^ n
nibbles zero = refl
nibbles (suc n) = ap (λ (k : ℕ). 2 ^ k) (mul-suc 4 n) ∙ pow-add 2 (4 * n) 4 ∙ ap (λ (k : ℕ). k * 16) (nibbles n) ∙ sym (pow-suc 16 n)

-- the next digit, by its shift
pub digits_next : (k x : ℕ) → 0 < k → digits k x ≡ digit (x / 2 ^ (4 * (k - 1)) % 16) ∷ digits (k - 1) x
unfolding digits
digits_next zero x h = absurd (omega arith)
digits_next (suc n) x h =
    let e : suc n - 1 ≡ n = omega arith in
    rw (← nibbles n, e)

-- x is l with w written from i on, and r is the place after it
pub record Wrote (l : List ℕ) (i : ℕ) (x : List ℕ) (r : ℕ) (w : List ℕ) : Type 0 where
  pub place : r ≡ i + length w
  pub over : x ≡ sets l i w

pub line : (n : ℕ) {l : List ℕ} {i : ℕ} (x : List ℕ) (r : ℕ) → (r ≡ i + 17) × (x ≡ sets l i (hex_line n)) → Wrote l i x r (hex_line n)
unfolding hex_line digits
line n x r e = record { place = e.0; over = e.1 }

pub lines : (m : Masks) {l : List ℕ} {i : ℕ} (x : List ℕ) (r : ℕ) → (r ≡ i + 85) × (x ≡ sets l i (masks_text m)) → Wrote l i x r (masks_text m)
unfolding masks_text hex_line digits
lines m x r e = record { place = e.0; over = e.1 }

pub then : {l x y v w : List ℕ} {i r s : ℕ} → Wrote l i x r v → Wrote x r y s w → Wrote l i y s (v ++ w)
then {l} {x} {y} {v} {w} {i} {r} {s} a b =
    record {
      place = omega (arith, a.place, b.place, length-append v w);
      over = b.over ∙ ap₂ (λ (t : List ℕ) (k : ℕ). sets t k w) a.over a.place ∙ sets_append v w l i;
    }
