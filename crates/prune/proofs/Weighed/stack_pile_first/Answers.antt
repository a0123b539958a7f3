-- `prune::Weighed::stack_pile_first` meets its contract.
-- Assumes nothing.
use Rattle.std.proofs.Common.{ℕ, ◌-◌, ◌/◌, ◌^◌, bit_and, ap, ap₂, ◌∙◌, arith}
use Rattle.bits.specs.Bit.{bit, mask_of}
use Rattle.bits.proofs.Laws.{mask_lt}
use Rattle.card.specs.Methods.{twin}
use Rattle.rules.specs.Legal.{stack_pile_legal, unpruned}
use Rattle.rules.specs.Pruned.{dom_mask, next_mask, stack_pile_first}
use Rattle.rules.proofs.Sets.{minus_is}
use Rattle.legal.proofs.Unpruned.{stack_pile_is}
use Rattle.prune.proofs.Ending.{dom_small}
use Rattle.prune.proofs.Weighed.stack_pile_first.Goals as goal

pub returns : goal.returns
unfolding next_mask stack_pile_first unpruned
returns c =
    let w = c.args.self.now in
    let p = w.p.position in
    let t = w.p.good in
    ap₂ (λ (x y : ℕ). bit_and x ((2 ^ 64 - 1) - y))
    (ap₂ bit_and (c.swap_pair.ensures ∙ ap (λ (m : ℕ). mask_of 64 (λ k. bit (m / 16) (twin k))) w.sm_is) c.requires ∙ stack_pile_is p t)
    w.dom_is
    ∙ minus_is (mask_of 52 (stack_pile_legal p)) (dom_mask p) (omega (arith, mask_lt 52 (stack_pile_legal p))) (dom_small p t)
