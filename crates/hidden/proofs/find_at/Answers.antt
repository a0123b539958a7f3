-- `hidden::find_at` meets its contract.
-- Assumes nothing.
use Rattle.std.proofs.Common.{◌≡◌, ◌+◌, ◌-◌, sym, ◌∙◌, eq-eqb, get_or, ◌<◌, ℕ, Some, lt-ltb, arith}
use Rattle.rules.specs.Places.{pile_start}
use Rattle.bits.proofs.Steps.{first_at, first_none}
use Rattle.hidden.specs.PilePlace.{has_place, some_below, stands_at}
use Rattle.hidden_masks.proofs.Collected.{in_deal}
use Rattle.hidden.proofs.Found.{card_there, place_fits, place_some}
use Rattle.hidden.proofs.find_at.Goals as goal

pub bounds-deal-pile_start : goal.bounds-deal-pile_start
bounds-deal-pile_start c =
    let i = c.loop-i.i in
    let m = get_or c.args.counts.now i 0 + c.args.up in
    let h = sym c.has_place.ensures ∙ c.if-has_place.true in
    omega (arith, in_deal i m c.pile_start.result (omega arith) (place_fits m i h) c.pile_start.ensures, place_some m i h)

-- a pile that is found, as the search's end; and none
found : (k n : ℕ) → k < n → (e : ℕ) → e ≡ k → Some k ≡ some_below n e
found k n l e q = rw (q, lt-ltb k n l)

pub returns-then-deal-pile_start : goal.returns-then-deal-pile_start
returns-then-deal-pile_start c =
    let a = c.args in
    let i = c.loop-i.i in
    let m = get_or a.counts.now i 0 + a.up in
    let s = c.pile_start.result in
    let h = sym c.has_place.ensures ∙ c.if-has_place.true in
    let k : s + m - 1 ≡ pile_start i + (m - 1) = omega (arith, c.pile_start.ensures, place_some m i h) in
    found i 7 (omega arith) _
    (first_at 7 (λ j. stands_at a.deal.now a.counts.now a.up a.card j) i (omega arith) c.loop-i.invariant
    (card_there a.deal.now a.card (s + m - 1) (pile_start i + (m - 1)) k (has_place m i) h (eq-eqb _ _ c.if-deal-pile_start.true)))

pub returns : goal.returns
returns c =
    let a = c.args in
    let e : c.loop-i.i ≡ 7 = omega arith in
    rw (first_none 7 (λ j. stands_at a.deal.now a.counts.now a.up a.card j) (rw e at c.loop-i.invariant))
