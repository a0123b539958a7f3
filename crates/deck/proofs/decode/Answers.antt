-- A place that is set writes its card behind those written before.
use Rattle.std.proofs.Common.{◌≡◌, ℕ, ◌+◌, List, true, false, get_or, take, drop, set, sym, ap, ap₂, ◌∙◌, arith}
use Rattle.bits.specs.Bit.{bit, count_of}
use Rattle.bits.proofs.Searches.{count_le}
use Rattle.deck_slots.proofs.Slots.{filled, fill_start, fill_turn, fill_end}
use Rattle.deck.proofs.Fields.{item_at, placed, placed_length, placed_at, count_none, count_next, count_below, is_set, is_clear}
use Rattle.deck.proofs.decode.Goals as goal
use Rattle.deck.proofs.decode.Goals.{then-field-k-ne0, else-field-k-ne0}

pub loop-k-init : goal.loop-k-init
loop-k-init c = (count_none (bit c.args.field), fill_start (placed c.args.deal (bit c.args.field)))

pub bounds-deck-left : goal.bounds-deck-left
bounds-deck-left c = omega (arith, count_le c.loop-k.k (bit c.args.field))

pub overflow_add-left : goal.overflow_add-left
overflow_add-left c = omega (arith, count_le c.loop-k.k (bit c.args.field))

pub loop-k-preserved : goal.loop-k-preserved
loop-k-preserved c =
    let l = c.loop-k in
    let a = c.args in
    let f = bit a.field in
    let xs = placed a.deal f in
    elim c.if-field-k-ne0.branch [
      | then-field-k-ne0 w ↦
          let e : f l.k ≡ true = is_set a.field l.k w.if-field-k-ne0.true in
          let v : ℕ = get_or a.deal (28 + l.k) 0 in
          let item : get_or (take 24 (drop 28 a.deal)) l.k 0 ≡ v = item_at a.deal 24 l.k (omega arith) in
          let card : v ≡ get_or xs l.left 0 = placed_at a.deal f l.k (omega arith) e ∙ ap (λ (i : ℕ). get_or xs i 0) (sym l.invariant.0) in (
            omega (arith, w.left-is, count_next f l.k true e),
            w.deck-is ∙ ap₂ (λ (d : List ℕ) (x : ℕ). set d l.left x) l.invariant.1 item
                ∙ fill_turn xs l.left v (omega (arith, placed_length a.deal f, count_below 24 f l.k (omega arith) e)) (omega (arith, count_le l.k f)) card
                ∙ ap (filled xs) (sym w.left-is),
          )
      | else-field-k-ne0 w ↦
          let e : f l.k ≡ false = is_clear a.field l.k w.if-field-k-ne0.false in
          (omega (arith, w.left-is, count_next f l.k false e), w.deck-is ∙ l.invariant.1 ∙ ap (filled xs) (sym w.left-is))
    ]

pub overflow_cast-result : goal.overflow_cast-result
overflow_cast-result c = omega (arith, count_le c.loop-k.k (bit c.args.field))

pub returns : goal.returns
unfolding placed
returns c =
    let l = c.loop-k in
    let a = c.args in
    let f = bit a.field in
    let e : l.k ≡ 24 = omega arith in
    let all : l.left ≡ count_of 24 f = l.invariant.0 ∙ ap (λ (n : ℕ). count_of n f) e in
    (l.invariant.1 ∙ fill_end (placed a.deal f) l.left (placed_length a.deal f ∙ sym all) (omega (arith, count_le 24 f, all)), all)
