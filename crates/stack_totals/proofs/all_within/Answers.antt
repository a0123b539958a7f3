-- `stack_totals::all_within` meets its contract.
-- Assumes nothing.
use Rattle.std.proofs.Common.{◌&&◌, ◌∙◌, Bool, ℕ, leb, get_or, sym, refl, ap, add-one}
use Rattle.rules.specs.Bits.{all_of}
use Rattle.bits.proofs.Searches.{all_snoc}
use Rattle.stack_totals.proofs.all_within.Goals as goal

pub loop-height-init : goal.loop-height-init
unfolding all_of
loop-height-init c = refl

pub loop-height-preserved : goal.loop-height-preserved
loop-height-preserved c =
    let i = c.loop-height.height-index in
    let within = λ (s : ℕ). leb c.args.low (get_or c.args.heights s 0) && leb (get_or c.args.heights s 0) c.args.high in
    ap (λ (b : Bool). b && within i) c.loop-height.invariant ∙ sym (ap (λ (j : ℕ). all_of j within) (add-one i) ∙ all_snoc i within)
