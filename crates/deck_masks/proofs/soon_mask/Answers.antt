-- The walk starts where the definition says, and the last card comes with every deal.
use Rattle.std.proofs.Common.{◌≡◌, ℕ, ◌-◌, ◌<◌, ◌≤◌, ◌&&◌, eqb, bit_or, sym, ap, ap₂, ◌∙◌, subst, arith}
use Rattle.bits.specs.Bit.{mask_of}
use Rattle.rules.specs.declared.Position.{Position}
use Rattle.rules.specs.Bits.{any_of}
use Rattle.rules.specs.Places.{deck_card}
use Rattle.rules.specs.Dealing.{available_soon, place_soon}
use Rattle.rules.proofs.Facts.{facts}
use Rattle.rules.proofs.Collect.{none_yet}
use Rattle.rules.proofs.Held.{held_cards}
use Rattle.deck_masks.proofs.Stride.{find}
use Rattle.deck_masks.proofs.Reach.{Starts, starts_zero, starts_pos, soon}
use Rattle.deck_masks.proofs.soon_mask.Goals as goal
use Rattle.deck_masks.proofs.soon_mask.Goals.{then-offset-gt0, else-offset-gt0}

empty : (p : Position) → p.left ≡ 0 → 0 ≡ mask_of 52 (available_soon p)
unfolding available_soon
empty p e = none_yet (λ c k. eqb (deck_card p k) c && place_soon p k) ∙ ap (λ (n : ℕ). mask_of 52 (λ c. any_of n (λ k. eqb (deck_card p k) c && place_soon p k))) (sym e)

pub returns-then-left-eq0 : goal.returns-then-left-eq0
returns-then-left-eq0 c = empty c.args.p.position c.if-left-eq0.true

pub overflow_sub-from-else-offset-gt0 : goal.overflow_sub-from-else-offset-gt0
overflow_sub-from-else-offset-gt0 c = (facts c.args.p.position c.args.p.good).step_pos

pub walk-requires : goal.walk-requires
walk-requires c =
    let f = facts c.args.p.position c.args.p.good in
    let low : c.if-offset-gt0.from ≤ 24 = elim c.if-offset-gt0.branch [ then-offset-gt0 w ↦ omega (arith, f.left, f.offset) | else-offset-gt0 w ↦ omega (arith, f.step) ] in
    (f.step_pos, f.step, low, omega (arith, f.left), λ k l. held_cards c.args.p _ c.well_formed.0 k (omega arith))

pub bounds-deck-last : goal.bounds-deck-last
bounds-deck-last c = omega (arith, (facts c.args.p.position c.args.p.good).left)

pub card_mask-requires : goal.card_mask-requires
card_mask-requires c = omega (arith, held_cards c.args.p _ c.well_formed.0 (c.args.p.position.left - 1) (omega arith))

pub returns : goal.returns
unfolding find
returns c =
    let p = c.args.p.position in
    let f = facts p c.args.p.good in
    let n : 0 < p.left = omega arith in
    let from = c.if-offset-gt0.from in
    let s : Starts from p.offset p.step =
    elim c.if-offset-gt0.branch [
      | then-offset-gt0 w ↦ subst (λ (x : ℕ). Starts x p.offset p.step) (sym w.from-is) (starts_pos p.offset p.step w.if-offset-gt0.true)
      | else-offset-gt0 w ↦ subst (λ (x : ℕ). Starts x p.offset p.step) (sym w.from-is) (starts_zero p.offset p.step f.step_pos w.if-offset-gt0.false)
    ] in
    ap₂ bit_or c.walk.ensures c.card_mask.ensures
    ∙ soon p from f.left f.step_pos f.offset n (held_cards c.args.p _ c.well_formed.0 (p.left - 1) (omega arith)) s
