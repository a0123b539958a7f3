-- `card::cards_from` meets its contract.
-- Assumes nothing.
use Rattle.std.proofs.Common.{◌+◌, ◌-◌, ◌<◌, ℕ, drop, refl, arith}
use Rattle.std.proofs.lemmas.List.{get_or-take, get_or-drop, length-take}
use Rattle.bits.specs.Bit.{mask_of, any_of}
use Rattle.card.specs.Cards.{cards_from}
use Rattle.card.proofs.Gathering.{cards_step}
use Rattle.card.proofs.cards_from.Goals as goal

pub loop-card-init : goal.loop-card-init
unfolding cards_from mask_of any_of
loop-card-init c = refl

pub loop-card-preserved : goal.loop-card-preserved
loop-card-preserved c =
    let s = c.args.start in
    let n = c.args.n in
    let d = c.args.cards.now in
    let k = c.loop-card.card-index in
    let h : k < s + n - s = omega (arith, length-take {A = ℕ}) in
    rw (get_or-take (s + n - s) (drop s d) k 0 h, get_or-drop s d k 0, c.loop-card.invariant) (cards_step d s k)
