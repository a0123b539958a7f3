-- `proper::all_small` meets its contract.
-- Assumes nothing.
use Rattle.std.proofs.Common.{refl, sym, ap, ◌∙◌, ◌&&◌, ltb, get_or}
use native.Mathlib.Numerals.{add-one}
use Rattle.rules.specs.Bits.{all_of}
use Rattle.bits.proofs.Searches.{all_snoc}
use Rattle.bits.proofs.Full.{or_ltb}
use Rattle.proper.proofs.all_small.Goals as goal

pub loop-card-init : goal.loop-card-init
unfolding all_of
loop-card-init c = refl

pub loop-card-preserved : goal.loop-card-preserved
loop-card-preserved c =
    let l = c.loop-card in
    let d = c.args.cards.now in
    or_ltb 6 l.any _ ∙ ap (λ b. b && ltb (get_or d l.card-index 0) 64) l.invariant ∙ sym (all_snoc l.card-index (λ j. ltb (get_or d j 0) 64))
    ∙ ap (λ n. all_of n (λ j. ltb (get_or d j 0) 64)) (sym (add-one l.card-index))
