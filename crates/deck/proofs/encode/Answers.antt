-- Each round puts one place more below those that the field has.
use Rattle.std.proofs.Common.{◌≡◌, ℕ, suc, ◌+◌, ◌-◌, ◌*◌, ◌/◌, ◌%◌, ◌^◌, ◌<◌, Bool, not, ◌||◌, bit_and, bit_or, get_or, ap, ◌∙◌, arith}
use Rattle.bits.proofs.Laws.{bit_mask, bit_not, has_shr, mask_ext, mask_lt}
use Rattle.rules.specs.Bits.{num, bit, mask_of}
use Rattle.rules.specs.Places.{is_visible, on_foundation}
use Rattle.rules.specs.Code.{deck_field}
use Rattle.rules.proofs.Facts.{facts}
use Rattle.deck.proofs.Fields.{no_places, put_first, still_there}
use Rattle.deck.proofs.encode.Goals as goal

pub loop-k-init : goal.loop-k-init
loop-k-init c = no_places (λ j. bit ((2 ^ 64 - 1) - c.args.gone) (get_or c.args.p.position.deal (28 + (24 + j)) 0))

pub overflow_shr-field : goal.overflow_shr-field
overflow_shr-field c = omega (arith, (facts c.args.p.position c.args.p.good).cards (28 + (c.loop-k.k - 1)) (omega arith))

pub loop-k-preserved : goal.loop-k-preserved
loop-k-preserved c =
    let l = c.loop-k in
    let m : ℕ = (2 ^ 64 - 1) - c.args.gone in
    let d = c.args.p.position.deal in
    let at : ℕ → ℕ → Bool = λ k j. bit m (get_or d (28 + (k + j)) 0) in
    let x : ℕ = get_or d (28 + (l.k - 1)) 0 in
    let first : l.k - 1 ≡ l.k - 1 + 0 = omega arith in
    let up : (j : ℕ) → l.k + j ≡ l.k - 1 + suc j = λ j. omega (arith, c.loop-k-test.true) in
    let more : suc (24 - l.k) ≡ 24 - (l.k - 1) = omega arith in
    ap (λ (f : ℕ). bit_or (f * 2 ^ 1 % 2 ^ 32) (bit_and (m / 2 ^ x) 1)) l.invariant
    ∙ ap (bit_or (mask_of (24 - l.k) (at l.k) * 2 ^ 1 % 2 ^ 32)) (has_shr m x ∙ ap (λ (k : ℕ). num (bit m (get_or d (28 + k) 0))) first)
    ∙ put_first (at l.k) (at (l.k - 1)) (24 - l.k) (omega arith) (λ j. ap (λ (k : ℕ). bit m (get_or d (28 + k) 0)) (up j))
    ∙ ap (λ (n : ℕ). mask_of n (at (l.k - 1))) more

pub returns : goal.returns
unfolding deck_field
returns c =
    let l = c.loop-k in
    let p = c.args.p.position in
    let d = p.deal in
    let gone = c.args.gone in
    let m : ℕ = (2 ^ 64 - 1) - gone in
    let e : l.k ≡ 0 = omega arith in
    let card : (k : ℕ) → k < 24 → get_or d (28 + k) 0 < 52 = λ k h. (facts p c.args.p.good).cards (28 + k) (omega arith) in
    let small : gone < 2 ^ 64 = rw c.requires (omega (arith, mask_lt 52 (λ x. is_visible p x || on_foundation p x))) in
    l.invariant
    ∙ ap (λ (n : ℕ). mask_of (24 - n) (λ j. bit m (get_or d (28 + (n + j)) 0))) e
    ∙ mask_ext 24 _ _ (λ k h. let z : 0 + k ≡ k = omega arith in
    ap (λ (i : ℕ). bit m (get_or d (28 + i) 0)) z
    ∙ bit_not gone (get_or d (28 + k) 0) small (omega (arith, card k h))
    ∙ ap (λ (g : ℕ). not (bit g (get_or d (28 + k) 0))) c.requires
    ∙ ap not (bit_mask 52 _ (get_or d (28 + k) 0) (card k h))
    ∙ still_there p (facts p c.args.p.good) k h)
