-- `proper::stock` meets its contract.
-- Assumes nothing.
use Rattle.std.proofs.Common.{◌≡◌, ℕ, ◌+◌, ◌%◌, ◌/◌, ◌^◌, length, get_or, take, drop, bit_and, refl, ap, ◌∙◌, arith}
use Rattle.std.proofs.Math.ListN.{set, length-set}
use lib.Bits.{and_le_r, and_mask}
use Rattle.bits.specs.Bit.{mask_of}
use Rattle.bits.proofs.Laws.{has_shr}
use Rattle.rules.specs.Bits.{any_of}
use Rattle.rules.specs.Hidden.{cards_from}
use Rattle.card.proofs.Gathering.{cards_step}
use Rattle.proper.specs.Sets.{picked}
use Rattle.proper.proofs.Deck.{stock_length, stock_at}
use Rattle.proper.proofs.Picking.{pick_step}
use Rattle.proper.proofs.stock.Goals as goal

pub loop-k-init : goal.loop-k-init
unfolding cards_from mask_of any_of picked
loop-k-init c = record { few = omega arith; all = refl; size = refl; cards = λ h. refl }

pub loop-k-preserved : goal.loop-k-preserved
loop-k-preserved c =
    let l = c.loop-k in
    let d = c.args.deal.now in
    let m = c.args.mask in
    let ld : length d ≡ 52 = omega arith in
    let x = bit_and (get_or d (28 + l.k) 0) 63 in
    record {
      few = omega (arith, and_le_r (m / 2 ^ x) 1);
      all = rw l.invariant.all (cards_step d 28 l.k);
      size = length-set l.cards l.n x ∙ l.invariant.size;
      cards = λ fit.
          let low = fit (28 + l.k) (omega arith) in
          let small : get_or d (28 + l.k) 0 % 64 ≡ get_or d (28 + l.k) 0 = omega arith in
          let y : x ≡ get_or d (28 + l.k) 0 = and_mask (get_or d (28 + l.k) 0) 6 ∙ small in
          ap (λ (i : ℕ). take (l.n + i) (set l.cards l.n x)) (has_shr m x)
          ∙ pick_step m (take 24 (drop 28 d)) l.cards l.n l.k x (omega (arith, stock_length d ld)) (y ∙ stock_at d ld l.k (omega arith)) (omega (arith, l.invariant.size)) (l.invariant.cards fit);
    }
