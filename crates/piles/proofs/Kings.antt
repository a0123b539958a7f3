-- The free kings from a suit on, as a search meets them.
-- Assumes nothing.
use mathlib.Core.Bool.{Bool, true, false, cond}
use mathlib.Core.Path.{◌≡◌, refl, sym, ap, ap₂, ◌∙◌}
use mathlib.Core.List.{List, [], ◌∷◌, map}
use Prim.Native.Nat.{ℕ, suc, ◌+◌, ◌-◌, ◌≤◌, ◌<◌}
use native.Mathlib.Numerals.{add-one}
use native.Mathlib.Omega.{arith}
use Rattle.bits.specs.Bit.{bit, list_of, cons_if}
use Rattle.bits.proofs.Counts.{list_ext}
use Rattle.rules.specs.Cards.{card_of, flipped}
use Rattle.piles.specs.Run.{kings_of}

pub kings_end : (free s : ℕ) → 4 ≤ s → kings_of free s ≡ []
unfolding kings_of list_of
kings_end free s l = let e : 4 - s ≡ 0 = omega arith in rw e

pub kings_step : (free s : ℕ) → s < 4 → kings_of free s ≡ cond (bit free (48 + s)) ((48 + s) ∷ kings_of free (s + 1)) (kings_of free (s + 1))
unfolding kings_of list_of card_of flipped
kings_step free s l =
    let left : 4 - s ≡ suc (4 - (s + 1)) = omega arith in
    ap (λ (n : ℕ). map (card_of 12) (list_of n s (λ k. bit free (card_of 12 (s + k))))) left
    ∙ ap₂ (λ (b : Bool) (r : List ℕ). map (card_of 12) (cons_if b s r)) (ap (λ (k : ℕ). bit free (48 + k)) here) others
    ∙ go (bit free (48 + s))
  where
    here : s + 0 ≡ s
    here = omega arith

    next : (k : ℕ) → 48 + (s + suc k) ≡ 48 + (s + 1 + k)
    next k = omega arith

    others : list_of (4 - (s + 1)) (suc s) (λ k. bit free (48 + (s + suc k))) ≡ list_of (4 - (s + 1)) (s + 1) (λ k. bit free (48 + (s + 1 + k)))
    others =
        ap (λ (n : ℕ). list_of (4 - (s + 1)) n (λ k. bit free (48 + (s + suc k)))) (sym (add-one s))
        ∙ list_ext (4 - (s + 1)) (s + 1) (λ k. bit free (48 + (s + suc k))) (λ k. bit free (48 + (s + 1 + k))) (λ k l. ap (bit free) (next k))

    go : (b : Bool) → map (card_of 12) (cons_if b s (list_of (4 - (s + 1)) (s + 1) (λ k. bit free (48 + (s + 1 + k))))) ≡ cond b ((48 + s) ∷ map (card_of 12) (list_of (4 - (s + 1)) (s + 1) (λ k. bit free (48 + (s + 1 + k))))) (map (card_of 12) (list_of (4 - (s + 1)) (s + 1) (λ k. bit free (48 + (s + 1 + k)))))
    go true = refl
    go false = refl
