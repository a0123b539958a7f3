-- `piles::compute_visible_piles` meets its contract.
-- Assumes nothing.
use Rattle.std.proofs.Common.{◌≡◌, ℕ, ◌+◌, ◌-◌, ◌*◌, ◌^◌, ◌<◌, ◌≤◌, T, List, length, get_or, bit_and, refl, ap, ◌∙◌, arith}
use Rattle.std.proofs.Math.ListN.{take, drop, length-set}
use borrow.Author.Tests.{lt-ltb}
use borrow.Rule.Slice.PartMut.{mid_len}
use Rattle.bits.specs.Bit.{mask_of}
use Rattle.rules.specs.declared.Position.{Position}
use Rattle.rules.specs.Places.{pile_start, is_free}
use Rattle.rules.specs.Proper.{proper}
use Rattle.rules.proofs.Facts.{facts}
use Rattle.rules.proofs.HeadsLaw.{head_low, free_mask}
use Rattle.rules.proofs.PilePlaces.{pile_place}
use Rattle.piles.proofs.Turn.{none_yet, head_turn, empty_turn, all_shown}
use Rattle.piles.proofs.compute_visible_piles.Goals as goal
use Rattle.piles.proofs.compute_visible_piles.Goals.{then-n-gt0, else-n-gt0}

-- the head of pile i stands at a place of the deal, and is a card
place : (p : Position) → T (proper p) → (i : ℕ) → i < 7 → 0 < get_or p.counts i 0 → pile_start i + (get_or p.counts i 0 - 1) < 52
place p t i l n = pile_place i (get_or p.counts i 0 - 1) l (omega (arith, (facts p t).counts i l))

card : (p : Position) → T (proper p) → (i : ℕ) → i < 7 → 0 < get_or p.counts i 0 → get_or p.deal (pile_start i + (get_or p.counts i 0 - 1)) 0 < 52
card p t i l n = head_low p (facts p t) i l (lt-ltb 0 (get_or p.counts i 0) n)

-- a pile's part has 13 bytes
part-size : (out : List ℕ) (i : ℕ) → i < 7 → 91 ≤ length out → length (take (13 * i + 13 - 13 * i) (drop (13 * i) out)) ≡ 13
part-size out i l n = mid_len (13 * i) (13 * i + 13) out (omega arith) ∙ omega arith

pub loop-i-init : goal.loop-i-init
loop-i-init c = record { size = refl; seven = refl; shown = λ p r. none_yet p _ _ _ _ r _ _ }

pub bounds-deal-at : goal.bounds-deal-at
bounds-deal-at c =
    omega (arith, place c.args.p.position c.args.p.good c.loop-i.i c.loop-i-test.true c.if-n-gt0.true, c.pile_start.ensures, c.if-n-gt0.true)

pub fill_run-requires : goal.fill_run-requires
fill_run-requires c =
    let l = c.loop-i in
    let n = get_or c.args.p.position.counts l.i 0 in
    let e : c.pile_start.result + n - 1 ≡ pile_start l.i + (n - 1) = omega (arith, c.pile_start.ensures, c.if-n-gt0.true) in (
      part-size l.out l.i c.loop-i-test.true (omega (arith, l.invariant.size, c.requires)),
      rw e (card c.args.p.position c.args.p.good l.i c.loop-i-test.true c.if-n-gt0.true),
    )

pub loop-i-preserved : goal.loop-i-preserved
loop-i-preserved c =
    let l = c.loop-i in
    let v = l.invariant in
    let i = l.i in
    let low : i < 7 = c.loop-i-test.true in
    let big : 91 ≤ length l.out = omega (arith, v.size, c.requires) in
    let n = get_or c.args.p.position.counts i 0 in
    elim c.if-n-gt0.branch [
      | then-n-gt0 w ↦
          let e : w.pile_start.result + n - 1 ≡ pile_start i + (n - 1) = omega (arith, w.pile_start.ensures, w.if-n-gt0.true) in
          record {
            size = omega (arith, c.if-n-gt0.auto.out, v.size);
            seven = ap length w.lens-is ∙ length-set l.lens i w.fill_run.result ∙ v.seven;
            shown = λ p r. rw (w.out-is, w.lens-is, w.from-is) (head_turn p _ _ _ _ r _ _ _ _ _ low v.seven big (v.shown p r) _ _ w.if-n-gt0.true (rw e at w.fill_run.ensures.0) (rw e at w.fill_run.ensures.1));
          }
      | else-n-gt0 w ↦ record {
        size = omega (arith, c.if-n-gt0.auto.out, v.size);
        seven = ap length w.lens-is ∙ length-set l.lens i w.fill_empty-f.result.len ∙ v.seven;
        shown = λ p r. rw (w.out-is, w.lens-is, w.from-is) (empty_turn p _ _ _ _ r _ _ _ _ _ low v.seven big (v.shown p r) _ w.fill_empty-f.result w.if-n-gt0.false w.fill_empty-f.ensures.0 w.fill_empty-f.ensures.1 w.fill_empty-f.ensures.2);
      }
    ]

pub returns : goal.returns
returns c =
    let h = c.heads-heads in
    let l = c.loop-i in
    let p = c.args.p.position in
    let t = c.args.p.good in
    let free : bit_and p.visible ((2 ^ 64 - 1) - h.result.all) ≡ mask_of 52 (is_free p) = ap (λ (m : ℕ). bit_and p.visible ((2 ^ 64 - 1) - m)) h.ensures.0 ∙ free_mask p (facts p t) in
    all_shown p _ _ _ _ _ l.i (omega arith) l.invariant.seven
    (l.invariant.shown p (record { good = t; cards = refl; locked = refl; seen = refl; loose = free }))
