-- `prune::deck_choice` meets its contract.
-- Assumes nothing.
use Rattle.std.proofs.Common.{◌≡◌, ℕ, ◌-◌, ◌<◌, ◌^◌, true, false, eqb, bit_and, sym, ap, ap₂, ◌∙◌, subst, arith}
use Rattle.std.proofs.lemmas.Bool.{false≢true}
use Rattle.bits.specs.Bit.{mask_of}
use Rattle.bits.proofs.Laws.{mask_lt}
use Rattle.rules.specs.declared.Position.{Position}
use Rattle.rules.specs.Places.{deck_card}
use Rattle.rules.specs.Dealing.{available}
use Rattle.rules.specs.Pruned.{◌∩◌, lowest, dom_next, last_up, is_pure}
use Rattle.rules.proofs.Facts.{facts}
use Rattle.rules.proofs.Held.{held_cards}
use Rattle.rules.proofs.Sets.{and_is}
use Rattle.prune.specs.declared.DeckChoice.TheVariants.{Forced, Open}
use Rattle.prune.proofs.Choice.{one_up, one_none, not_up, up_pure, up_soon, empty_up, last_up_lem, card_pow}
use Rattle.prune.proofs.Ending.{cap_small}
use Rattle.prune.proofs.deck_choice.Goals as goal

-- the cards that can go up at once
up : (p : Position) (mask dom : ℕ) → mask ≡ mask_of 52 (available p) → dom ≡ dom_next p → bit_and mask dom ≡ (mask_of 52 (available p) ∩ dom_next p)
up p mask dom em ed = ap₂ bit_and em ed ∙ and_is (mask_of 52 (available p)) (dom_next p) (omega (arith, mask_lt 52 (available p)))

-- the deck's last card, alone
module _ (p : Position) (some : 0 < p.left) (low : deck_card p (p.left - 1) < 52) (dom last : ℕ) (ed : dom ≡ dom_next p) (el : last ≡ mask_of 64 (λ k. eqb k (deck_card p (p.left - 1)))) where
  alone : last ≡ 2 ^ deck_card p (p.left - 1)
  alone = el ∙ card_pow (deck_card p (p.left - 1)) (omega arith)

  stays : bit_and dom last ≡ 0 → last_up p ≡ false
  stays e = last_up_lem p some (omega arith) false (λ h. absurd (false≢true h)) (λ h. sym (ap₂ bit_and ed alone) ∙ e)

  goes : 0 < bit_and dom last → last_up p ≡ true
  goes l = last_up_lem p some (omega arith) true (λ h. subst (λ (x : ℕ). 0 < x) (ap₂ bit_and ed alone) l) (λ h. absurd (false≢true (sym h)))

pub returns-then-up-gt0 : goal.returns-then-up-gt0
unfolding lowest
returns-then-up-gt0 c =
    let p = c.args.p.position in
    let e = up p _ _ c.compute_mask-mask.ensures c.requires in
    ap Forced (c.lowest.ensures ∙ ap lowest e) ∙ sym (one_up p c.if-p-eq1.true (subst (λ (x : ℕ). 0 < x) e c.if-up-gt0.true) (cap_small p c.args.p.good (mask_of 52 (available p)) (dom_next p)))

pub returns-else-up-gt0 : goal.returns-else-up-gt0
returns-else-up-gt0 c =
    let p = c.args.p.position in
    let z : bit_and c.compute_mask-mask.result c.args.dom ≡ 0 = omega (arith, c.if-up-gt0.false) in
    ap Open c.compute_mask-mask.ensures ∙ sym (one_none p c.if-p-eq1.true (sym (up p _ _ c.compute_mask-mask.ensures c.requires) ∙ z))

pub returns-then-left-eq0 : goal.returns-then-left-eq0
returns-then-left-eq0 c = ap Open c.compute_mask.ensures ∙ sym (not_up c.args.p.position c.if-p-eq1.false (empty_up c.args.p.position c.if-left-eq0.true))

pub bounds-p-left : goal.bounds-p-left
bounds-p-left c = omega (arith, (facts c.args.p.position c.args.p.good).left)

pub card_mask-last-requires : goal.card_mask-last-requires
card_mask-last-requires c =
    let low = held_cards c.args.p _ c.well_formed.0 (c.args.p.position.left - 1) (omega arith) in
    omega (arith, c.from.ensures, low)

pub is_pure-requires : goal.is_pure-requires
is_pure-requires c = (facts c.args.p.position c.args.p.good).step_pos

pub returns-then-dom-last-eq0 : goal.returns-then-dom-last-eq0
returns-then-dom-last-eq0 c =
    let p = c.args.p.position in
    let some : 0 < p.left = omega arith in
    let low = held_cards c.args.p _ c.well_formed.0 (p.left - 1) (omega arith) in
    let el = c.card_mask-last.ensures ∙ ap (λ (x : ℕ). mask_of 64 (λ k. eqb k x)) c.from.ensures in
    ap Open c.compute_mask-then-dom-last-eq0.ensures ∙ sym (not_up p c.if-p-eq1.false (stays p some low _ _ c.requires el c.if-dom-last-eq0.true))

pub returns-then-is_pure : goal.returns-then-is_pure
unfolding is_pure
returns-then-is_pure c =
    let p = c.args.p.position in
    let some : 0 < p.left = omega arith in
    let low = held_cards c.args.p _ c.well_formed.0 (p.left - 1) (omega arith) in
    let el = c.card_mask-last.ensures ∙ ap (λ (x : ℕ). mask_of 64 (λ k. eqb k x)) c.from.ensures in
    ap Forced (alone p some low _ _ c.requires el) ∙ sym (up_pure p c.if-p-eq1.false (goes p some low _ _ c.requires el (omega (arith, c.if-dom-last-eq0.false))) (sym c.is_pure.ensures ∙ c.if-is_pure.true))

pub returns-else-is_pure : goal.returns-else-is_pure
unfolding is_pure
returns-else-is_pure c =
    let p = c.args.p.position in
    let some : 0 < p.left = omega arith in
    let low = held_cards c.args.p _ c.well_formed.0 (p.left - 1) (omega arith) in
    let el = c.card_mask-last.ensures ∙ ap (λ (x : ℕ). mask_of 64 (λ k. eqb k x)) c.from.ensures in
    ap Open c.compute_mask-else-is_pure.ensures ∙ sym (up_soon p c.if-p-eq1.false (goes p some low _ _ c.requires el (omega (arith, c.if-dom-last-eq0.false))) (sym c.is_pure.ensures ∙ c.if-is_pure.false))
