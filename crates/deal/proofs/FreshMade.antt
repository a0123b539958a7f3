-- A fresh position, put together from the deal, its last 24 cards and the mask of its heads.
-- Assumes nothing.
use mathlib.Core.Path.{◌≡◌, sym, ap₂, ◌∙◌}
use mathlib.Core.List.{List, [], ◌∷◌}
use Prim.Native.Nat.{ℕ, ◌+◌, ◌≤◌, ◌<◌}
use native.Mathlib.Omega.{arith}
use lib.ListN.{length, get_or, take, drop, replicate, length-drop}
use lib.Seq.{take_at, length-take-le}
use Rattle.rules.specs.declared.Position.{Position}
use Rattle.rules.specs.Bits.{mask_of}
use Rattle.rules.specs.Play.{slots}
use Rattle.rules.specs.Fields.{with_counts, with_slots, with_visible}
use Rattle.rules.specs.Code.{table, fresh_parts, fresh}
use Rattle.rules.proofs.SameList.{get_d_table}
use Rattle.rules.specs.Hidden.{head_in}
use Rattle.rules.specs.Code.{begun}

-- "Pile i takes i+1 cards": every pile whole
abbrev pub whole : List ℕ
whole = 1 ∷ 2 ∷ 3 ∷ 4 ∷ 5 ∷ 6 ∷ 7 ∷ []

pub whole_fits : (i : ℕ) → i < 7 → get_or whole i 0 ≤ i + 1
unfolding table
whole_fits i l = omega (arith, get_d_table 7 (λ k. k + 1) i l)

-- a full deck fills the slots
pub slots_full : (xs : List ℕ) → length xs ≡ 24 → slots xs ≡ xs
unfolding slots
slots_full xs e = take_at xs (replicate 24 0) 24 e

stock_long : (d : List ℕ) → length d ≡ 52 → length (take 24 (drop 28 d)) ≡ 24
stock_long d e = length-take-le 24 (drop 28 d) (simp length-drop (omega arith))

pub fresh_made : (d deck : List ℕ) (step heads : ℕ) → length d ≡ 52 → deck ≡ take 24 (drop 28 d) → heads ≡ mask_of 52 (head_in d whole) →
    ◌≡◌ {A = Position} (with_visible (with_slots (with_counts (begun d step) whole) deck 24) heads) (fresh d step)
unfolding fresh fresh_parts table head_in
fresh_made d deck step heads l ed eh =
    ap₂ (λ (x : List ℕ) (m : ℕ). with_visible (with_slots (with_counts (begun d step) whole) x 24) m)
    (ed ∙ sym (slots_full (take 24 (drop 28 d)) (stock_long d l))) eh
