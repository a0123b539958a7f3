-- Lists that a test finds equal, and lists that are tables.
-- Assumes nothing.
use mathlib.Core.Bool.{true, true≢false}
use mathlib.Core.List.{List, [], ◌∷◌}
use mathlib.Core.Path.{◌≡◌, refl, sym, ap₂}
use Prim.Native.Nat.{ℕ, zero, suc, ◌<◌}
use native.Mathlib.Nat.{le_of_suc-le-suc, not-suc-le-zero}
use lib.Dec.{eqb}
use lib.ListN.{get_or}
use borrow.Author.Tests.{eqb-true, eq-eqb}
use Rattle.bits.proofs.Searches.{and_left, and_right, and_both}
use Rattle.rules.specs.Bits.{same_list, table}

pub same_list_lem : (x y : List ℕ) → same_list x y ≡ true → x ≡ y
unfolding same_list
same_list_lem [] [] h = refl
same_list_lem [] (b ∷ y) h = absurd (true≢false (sym h))
same_list_lem (a ∷ x) [] h = absurd (true≢false (sym h))
same_list_lem (a ∷ x) (b ∷ y) h =
    ap₂ {A = ℕ} {B = List ℕ} {C = List ℕ} (λ c z. c ∷ z) (eqb-true a b (and_left (eqb a b) (same_list x y) h)) (same_list_lem x y (and_right (eqb a b) (same_list x y) h))

pub list_same : (x : List ℕ) → same_list x x ≡ true
unfolding same_list
list_same [] = refl
list_same (a ∷ x) = and_both (eqb a a) (same_list x x) (eq-eqb a a refl) (list_same x)

-- ---- an entry of a table

pub get_d_table : (n : ℕ) (f : ℕ → ℕ) (k : ℕ) → k < n → get_or (table n f) k 0 ≡ f k
unfolding table
get_d_table zero f k h = absurd (not-suc-le-zero h)
get_d_table (suc n) f zero h = refl
get_d_table (suc n) f (suc k) h = get_d_table n (λ j. f (suc j)) k (le_of_suc-le-suc h)
