-- A pile's 13 bytes while a run is written over 255s: card by card, and at the end.
-- Assumes nothing.
use mathlib.Core.Bool.{Bool, true, false, not, ◌&&◌, cond}
use mathlib.Core.Path.{◌≡◌, sym, ap, ◌∙◌}
use mathlib.Core.List.{List, [], ◌++◌, append_assoc, append-nil}
use Prim.Native.Nat.{ℕ, suc, ◌+◌, ◌-◌, ◌/◌, ◌≤◌, ◌<◌}
use native.Mathlib.Numerals.{add-one}
use native.Mathlib.Omega.{arith}
use lib.Dec.{eqb}
use lib.ListN.{length, take, drop, set, replicate, length-set, take-append-drop, replicate-append-replicate}
use lib.Seq.{take-suc-set, drop-set-lt, drop-drop, take_at, length-take-le}
use borrow.Author.Tests.{eq-eqb, ne_eqb}
use Rattle.bits.specs.Bit.{bit}
use Rattle.rules.specs.Cards.{rank}
use Rattle.piles.specs.Run.{tried_of, run_of, row}
use Rattle.piles.proofs.Pairs.{tried_rank}

-- n cards of the run are written, card is the next, and the other bytes are 255
pub record Written (vis free start : ℕ) (part : List ℕ) (card n : ℕ) : Type 0 where
  pub size : length part ≡ 13
  pub ranks : n + card / 4 ≤ 12
  pub cards : run_of vis free 13 start ≡ take n part ++ run_of vis free (13 - n) card
  pub others : drop n part ≡ replicate (13 - n) 255

-- the run is written whole, m cards long
abbrev pub Whole : List ℕ → List ℕ → ℕ → Type 0
Whole run part m = (m ≡ length run) × (part ≡ row run)

whole : (run part : List ℕ) (m : ℕ) → length part ≡ 13 → m ≤ 13 → run ≡ take m part → drop m part ≡ replicate (13 - m) 255 → Whole run part m
whole run part m size l e d =
    let parted : 13 ≡ 13 - m + m = omega arith in (
      sym (length-take-le m part (omega arith)) ∙ ap length (sym e),
      sym
          (ap (λ (k : ℕ). take 13 (run ++ replicate k 255)) parted
          ∙ rw (← replicate-append-replicate, ← d, e, ← append_assoc, take-append-drop)
          (take_at part (replicate m 255) 13 size)),
    )

module _ (vis free start card n : ℕ) (part : List ℕ) (w : Written vis free start part card n) where
  goes : Bool
  goes = not (eqb (rank card) 0) && bit free (tried_of vis free card)

  -- the card is written
  placed : run_of vis free 13 start ≡ take (n + 1) (set part n card) ++ cond goes (run_of vis free (13 - (n + 1)) (tried_of vis free card)) []
  unfolding run_of goes
  placed =
      let left : 13 - n ≡ suc (13 - (n + 1)) = omega (arith, w.ranks) in
      let low : n < length part = omega (arith, w.ranks, w.size) in
      w.cards ∙ rw (left, add-one, take-suc-set part n card low, append_assoc)

  others : drop (n + 1) (set part n card) ≡ replicate (13 - (n + 1)) 255
  others =
      let left : 13 - n ≡ suc (13 - (n + 1)) = omega (arith, w.ranks) in
      drop-set-lt (n + 1) part n card (omega arith) ∙ sym (drop-drop 1 n part) ∙ ap (drop 1) (w.others ∙ ap (λ (k : ℕ). replicate k 255) left)

  ends : goes ≡ false → Whole (run_of vis free 13 start) (set part n card) (n + 1)
  ends e =
      whole (run_of vis free 13 start) (set part n card) (n + 1) (length-set part n card ∙ w.size) (omega (arith, w.ranks))
      (placed ∙ rw (e, append-nil)) others

  -- under an ace goes nothing
  pub ends_ace : card < 4 → Whole (run_of vis free 13 start) (set part n card) (n + 1)
  unfolding goes rank
  ends_ace l = let ace : card / 4 ≡ 0 = omega arith in ends (rw (eq-eqb (card / 4) 0 ace))

  goes_high : 4 ≤ card → goes ≡ bit free (tried_of vis free card)
  unfolding goes rank
  goes_high l = rw (ne_eqb (card / 4) 0 (λ z. omega arith))

  pub ends_here : 4 ≤ card → bit free (tried_of vis free card) ≡ false → Whole (run_of vis free 13 start) (set part n card) (n + 1)
  ends_here l e = ends (goes_high l ∙ e)

  pub goes_on : 4 ≤ card → bit free (tried_of vis free card) ≡ true → Written vis free start (set part n card) (tried_of vis free card) (n + 1)
  goes_on l e =
      record {
        size = length-set part n card ∙ w.size;
        ranks = omega (arith, w.ranks, tried_rank vis free card l);
        cards = placed ∙ rw (goes_high l ∙ e);
        others = others;
      }
