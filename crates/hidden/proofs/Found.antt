-- A search over the piles: a pile passes where it has the place, and the card is there. The card under a head.
-- Assumes nothing.
use mathlib.Core.Bool.{Bool, true, false, ◌&&◌, cond, and-true, true≢false}
use mathlib.Core.Path.{◌≡◌, sym, ap, ap₂, ◌∙◌}
use mathlib.Core.List.{List}
use Prim.Native.Nat.{ℕ, ◌+◌, ◌-◌, ◌≤◌, ◌<◌}
use native.Mathlib.Omega.{arith}
use lib.Dec.{eqb, ltb, leb}
use lib.ListN.{get_or}
use native.Mathlib.Nat.{add-zero}
use borrow.Author.Tests.{ltb-true, leb-true, lt-ltb, le-leb}
use Rattle.bits.proofs.Tables.{same_test}
use Rattle.rules.specs.declared.TurnedUp.TheVariants.{Emptied, Card}
use Rattle.rules.specs.Hidden.{CountsFit, placed, head_of, bare_of}
use Rattle.hidden.specs.PilePlace.{has_place, stands_at, last_of}
use Rattle.bits.proofs.Searches.{and_left, and_right, and_both}

-- d has x at the place k, which the code reads as j; b says that the pile has such a place
module _ (d : List ℕ) (x j k : ℕ) (e : j ≡ k) (b : Bool) where
  pub card_there : b ≡ true → eqb (get_or d j 0) x ≡ true → (b && eqb (get_or d k 0) x) ≡ true
  card_there h t = and_both b (eqb (get_or d k 0) x) h (ap (λ (y : ℕ). eqb (get_or d y 0) x) (sym e) ∙ t)

  pub other_card : eqb (get_or d j 0) x ≡ false → (b && eqb (get_or d k 0) x) ≡ true → ⊥
  other_card t h = true≢false (sym (and_right b (eqb (get_or d k 0) x) h) ∙ ap (λ (y : ℕ). eqb (get_or d y 0) x) (sym e) ∙ t)

pub no_place : (b t : Bool) → b ≡ false → (b && t) ≡ true → ⊥
no_place b t h e = true≢false (sym (and_left b t e) ∙ h)

-- a place that the pile has
pub place_some : (m i : ℕ) → has_place m i ≡ true → 0 < m
place_some m i h = ltb-true 0 m (and_left (ltb 0 m) (leb m (i + 1)) h)

pub place_fits : (m i : ℕ) → has_place m i ≡ true → m ≤ i + 1
place_fits m i h = leb-true m (i + 1) (and_right (ltb 0 m) (leb m (i + 1)) h)

-- a head stands at the place of its pile's count, a bare card one after it
pub head_stands : (d n : List ℕ) → CountsFit n → (c i : ℕ) → i < 7 → stands_at d n 0 c i ≡ head_of d n c i
head_stands d n f c i l =
    let m = get_or n i 0 in
    let z : m + 0 ≡ m = add-zero m in
    ap (λ (x : ℕ). has_place x i && eqb (placed d i (x - 1)) c) z ∙ ap (λ (b : Bool). b && eqb (placed d i (m - 1)) c) (ap (λ (b : Bool). ltb 0 m && b) (le-leb m (i + 1) (f i l)) ∙ and-true (ltb 0 m))

pub bare_stands : (d n : List ℕ) (c i : ℕ) → stands_at d n 1 c i ≡ bare_of d n c i
bare_stands d n c i =
    let m = get_or n i 0 in
    ap₂ ◌&&◌ (same_test (has_place (m + 1) i) (leb m i) (λ h. le-leb m i (omega (arith, place_fits (m + 1) i h))) (λ h. and_both (ltb 0 (m + 1)) (leb (m + 1) (i + 1)) (lt-ltb 0 (m + 1) (omega arith)) (le-leb (m + 1) (i + 1) (omega (arith, leb-true m i h)))))
    (ap (λ (x : ℕ). eqb (placed d i x) c) (omega arith))

-- the card under a head: the last when one fewer is locked
pub under_last : (d : List ℕ) (i n : ℕ) → last_of d i (n - 1) ≡ cond (ltb 1 n) (Card (record { 0 = placed d i (n - 2) })) Emptied
under_last d i n =
    ap₂ (λ (b : Bool) (k : ℕ). cond b (Card (record { 0 = placed d i k })) Emptied)
    (same_test (ltb 0 (n - 1)) (ltb 1 n) (λ h. lt-ltb 1 n (omega (arith, ltb-true 0 (n - 1) h))) (λ h. lt-ltb 0 (n - 1) (omega (arith, ltb-true 1 n h))))
    (omega arith)
