-- `proper::running` meets its contract.
-- Assumes nothing.
use Rattle.std.proofs.Common.{◌≡◌, ℕ, ◌+◌, ◌≤◌, ◌<◌, List, length, get_or, refl, ◌∙◌, arith, get_or-set_same, get_or-set_other}
use Rattle.std.proofs.Math.ListN.{set, length-set}
use native.Mathlib.Decide.{dec_le}
use native.Mathlib.Nat.{lt_of_not-le}
use Rattle.bits.specs.Bit.{mask_of}
use Rattle.rules.specs.Bits.{any_of}
use Rattle.rules.specs.Hidden.{cards_from}
use Rattle.proper.proofs.Cuts.{front_step}
use Rattle.proper.proofs.running.Goals as goal

-- a slot more
put : (run : List ℕ) (f : ℕ → ℕ) (k v : ℕ) → k + 1 < length run → ((j : ℕ) → j ≤ k → get_or run j 0 ≡ f j) → v ≡ f (k + 1) → (j : ℕ) → j ≤ k + 1 → get_or (set run (k + 1) v) j 0 ≡ f j
put run f k v l h e j m = go (dec_le j k)
  where
    go : Dec (j ≤ k) → get_or (set run (k + 1) v) j 0 ≡ f j
    go (yes p) = get_or-set_other run (k + 1) j v 0 (λ q. omega arith) ∙ h j p
    go (no p) = let q : k + 1 ≡ j = omega (arith, lt_of_not-le p) in rw (← q) (get_or-set_same run (k + 1) v 0 l ∙ e)

pub loop-k-init : goal.loop-k-init
unfolding cards_from mask_of any_of
loop-k-init c = record { mask = refl; size = refl; slots = λ j h. let e : j ≡ 0 = omega arith in rw e refl }

pub loop-k-preserved : goal.loop-k-preserved
loop-k-preserved c =
    let l = c.loop-k in
    let d = c.args.deal.now in
    let next = front_step d l.mask l.k l.invariant.mask in
    record {
      mask = next;
      size = length-set l.run (l.k + 1) _ ∙ l.invariant.size;
      slots = put l.run (λ j. cards_from d 0 j) l.k _ (omega (arith, l.invariant.size)) l.invariant.slots next;
    }
