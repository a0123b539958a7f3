-- `proper::piles` meets its contract.
-- Assumes nothing.
use Rattle.std.proofs.Common.{◌≡◌, ℕ, ◌+◌, ◌-◌, ◌≤◌, Bool, ◌&&◌, ◌||◌, ltb, eqb, get_or, refl, sym, ap, ap₂, ◌∙◌, arith}
use lib.Bits.{bit_or, bit_xor}
use mir.Val.{bool_byte}
use Rattle.bits.proofs.Algebra.{or_masks}
use Rattle.bits.proofs.Laws.{mask_ext}
use Rattle.bits.proofs.Searches.{and_left, and_right}
use Rattle.bits.proofs.Steps.{any_more}
use Rattle.rules.specs.Bits.{mask_of, any_of}
use Rattle.rules.specs.Hidden.{placed, buried_in, head_in}
use Rattle.rules.specs.Proper.{are_cards, are_different}
use Rattle.rules.proofs.DealLaw.{cards_low, different_inj}
use Rattle.hidden_counts.proofs.Head.{some_le}
use Rattle.hidden_masks.proofs.Collected.{fronts_step}
use Rattle.proper.proofs.Cuts.{buried_turn, heads_turn, in_piles}
use Rattle.proper.proofs.piles.Goals as goal

pub loop-i-init : goal.loop-i-init
unfolding mask_of any_of
loop-i-init c = record { buried = λ t. refl; heads = λ t. refl }

pub bounds-run-start : goal.bounds-run-start
bounds-run-start c = omega (arith, in_piles c.loop-i.i _ c.pile_start-start.result c.loop-i-test.true (c.requires c.loop-i.i c.loop-i-test.true) c.pile_start-start.ensures, some_le 0 (get_or c.args.counts.now c.loop-i.i 0))

pub bounds-run-start-in-loop-i : goal.bounds-run-start-in-loop-i
bounds-run-start-in-loop-i c = omega (arith, in_piles c.loop-i.i _ c.pile_start-start.result c.loop-i-test.true (c.requires c.loop-i.i c.loop-i-test.true) c.pile_start-start.ensures, some_le 0 (get_or c.args.counts.now c.loop-i.i 0))

pub bounds-run-start-in-loop-i-2 : goal.bounds-run-start-in-loop-i-2
bounds-run-start-in-loop-i-2 c = omega (arith, in_piles c.loop-i.i _ c.pile_start-start.result c.loop-i-test.true (c.requires c.loop-i.i c.loop-i-test.true) c.pile_start-start.ensures, some_le 0 (get_or c.args.counts.now c.loop-i.i 0))

pub loop-i-preserved : goal.loop-i-preserved
loop-i-preserved c =
    let l = c.loop-i in
    let d = c.args.deal.now in
    let counts = c.args.counts.now in
    let n = get_or counts l.i 0 in
    let fits : n ≤ l.i + 1 = c.requires l.i c.loop-i-test.true in
    let s = c.pile_start-start.result in
    let within : s + n ≤ 28 = in_piles l.i n s c.loop-i-test.true fits c.pile_start-start.ensures in
    let r = c.running-run.result in
    let run = c.running-run.ensures in
    let m : ℕ → ℕ = λ j. get_or counts j 0 - 1 in
    let f : ℕ → ℕ → Bool = λ k j. ltb 0 (get_or counts j 0) && eqb (placed d j (get_or counts j 0 - 1)) k in
    record {
      buried = λ t.
          let low = cards_low d (and_left (are_cards d) (are_different d) t) in
          let apart = different_inj d (and_right (are_cards d) (are_different d) t) in
          rw (l.invariant.buried t) (fronts_step d m l.i s (n - 1) (bit_xor (get_or r (s + n - bool_byte (ltb 0 n)) 0) (get_or r s 0)) low c.loop-i-test.true (omega arith) c.pile_start-start.ensures refl
          (buried_turn d low apart r run s n within));
      heads = λ t.
          let low = cards_low d (and_left (are_cards d) (are_different d) t) in
          let apart = different_inj d (and_right (are_cards d) (are_different d) t) in
          ap₂ bit_or (l.invariant.heads t)
          (heads_turn d low apart r run s n within ∙ ap (λ (u : ℕ). mask_of 52 (λ k. ltb 0 n && eqb (get_or d (u + (n - 1)) 0) k)) c.pile_start-start.ensures)
          ∙ or_masks 52 (λ k. any_of l.i (f k)) (λ k. f k l.i) ∙ mask_ext 52 (λ k. any_of l.i (f k) || f k l.i) (λ k. any_of (l.i + 1) (f k)) (λ k q. sym (any_more l.i (f k)));
    }

pub returns : goal.returns
unfolding buried_in head_in
returns c =
    let l = c.loop-i in
    let e : l.i ≡ 7 = omega arith in
    (c.running-run.ensures 28 (omega arith), λ t. rw e at (l.invariant.buried t), λ t. rw e at (l.invariant.heads t))
