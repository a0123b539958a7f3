-- `proper::is_proper` meets its contract.
-- Assumes nothing.
use Rattle.std.proofs.Common.{◌≡◌, ℕ, ◌+◌, ◌-◌, ◌^◌, ◌<◌, Bool, true, false, ◌&&◌, eqb, ltb, leb, get_or, length, bit_and, refl, sym, ap, ap₂, ◌∙◌, arith, rules, take, drop}
use lib.Bits.{and_le_l}
use Rattle.bits.specs.Bit.{bit, mask_of, count_of}
use Rattle.bits.proofs.Laws.{mask_lt}
use Rattle.bits.proofs.Searches.{and_left, and_right, count_le}
use Rattle.rules.specs.declared.Position.{Position}
use Rattle.rules.specs.Bits.{any_of, same_list}
use Rattle.rules.specs.Places.{is_free}
use Rattle.rules.specs.Foundations.{stacked_on}
use Rattle.rules.specs.Hidden.{CardsFit, cards_from, buried_in}
use Rattle.rules.specs.Proper.{are_cards, are_different, deal_right, numbers_right, deck_right, each_once, heads_visible, pair_rule, seven_rule, proper}
use Rattle.rules.proofs.DealLaw.{cards_low, different_inj}
use Rattle.rules.proofs.ProperMade.{Numbers, numbers as numbers-parts}
use Rattle.proper.specs.declared.PositionSets.{PositionSets}
use Rattle.proper.specs.Sets.{IsDeal, Shown, picked}
use Rattle.proper.specs.Tests.{once_in, pairs_fit}
use Rattle.proper.proofs.Judgement.{deck_is as deck-follows-is, deck_mask_lem, once_was, heads_were, free_are, pairs_were, seven_was}
use Rattle.proper.proofs.Whole.{counts_fit, heights_fit, head_fits, no, clash}
use Rattle.proper.proofs.is_proper.Goals as goal
use Rattle.proper.proofs.is_proper.Goals.{Joined-s-visible-eq0, then-each_once, else-each_once, then-s-visible-eq0, else-s-visible-eq0}

-- of a position whose numbers are right and whose deal is one
module _ (p : Position) (ld : length p.deal ≡ 52) (lk : length p.deck ≡ 24) (n : Numbers p) (t : IsDeal p.deal) where
  low : CardsFit p.deal
  low = cards_low p.deal (and_left (are_cards p.deal) (are_different p.deal) t)

  apart : (a b : ℕ) → a < 52 → b < 52 → get_or p.deal a 0 ≡ get_or p.deal b 0 → a ≡ b
  apart = different_inj p.deal (and_right (are_cards p.deal) (are_different p.deal) t)

  deck_is : same_list (take p.left p.deck) (picked (cards_from p.deck 0 p.left) (take 24 (drop 28 p.deal))) ≡ deck_right p
  unfolding deck_right
  deck_is = deck-follows-is p.deal p.deck p.left ld lk n.left low apart

-- what the sets that were gathered say
module _ (p : Position) (s : PositionSets) (ld : length p.deal ≡ 52) (lk : length p.deck ≡ 24) (n : Numbers p) (g : Shown p.deal p.counts p.deck p.left s) where
  deck-right : deck_right p ≡ true
  deck-right = sym (deck_is p ld lk n g.deal) ∙ g.deck

  drawn_is : s.drawn ≡ mask_of 52 (λ k. any_of p.left (λ j. eqb (get_or p.deck j 0) k))
  unfolding deck_right
  drawn_is = g.drawn ∙ deck_mask_lem p.deal p.deck p.left ld lk n.left (low p ld lk n g.deal) (apart p ld lk n g.deal) deck-right

  once_is : once_in (mask_of 52 (stacked_on p.heights)) s.drawn s.buried p.visible ≡ each_once p
  once_is = rw (drawn_is, g.buried) (once_was p)

  heads_is : eqb (bit_and s.heads ((2 ^ 64 - 1) - p.visible)) 0 ≡ heads_visible p
  heads_is = rw g.heads (heads_were p (omega (arith, n.visible)) (λ i l q. head_fits p n (low p ld lk n g.deal) i l))

  free_is : each_once p ≡ true → bit_and p.visible ((2 ^ 64 - 1) - s.heads) ≡ mask_of 52 (is_free p)
  free_is e = rw g.heads (free_are p n.visible e)

  -- the last four tests are those that are left
  the_rest : numbers_right p ≡ true → (((each_once p && heads_visible p) && pair_rule p) && seven_rule p) ≡ proper p
  unfolding proper deal_right
  the_rest e = rw (g.deal, e, deck-right) (chain (each_once p) (heads_visible p) (pair_rule p) (seven_rule p))
    where
      chain : (a b c d : Bool) → (((a && b) && c) && d) ≡ (a && b && c && d)
      chain true true c d = refl
      chain true false c d = refl
      chain false b c d = refl

numbers-is : (p : Position) (r : Bool) → r ≡ numbers_right p → r ≡ true → Numbers p
numbers-is p r e t = numbers-parts p (sym e ∙ t)

pub returns-then-not-numbers_right : goal.returns-then-not-numbers_right
returns-then-not-numbers_right c = no c.args.p (λ q. clash _ q.numbers (sym c.numbers_right.ensures ∙ c.if-not-numbers_right.true))

pub gather-requires : goal.gather-requires
gather-requires c =
    let n = numbers-is c.args.p _ c.numbers_right.ensures c.if-not-numbers_right.false in
    (counts_fit c.args.p n, n.left)

pub returns-in_default : goal.returns-in_default
unfolding deal_right
returns-in_default c =
    let p = c.args.p in
    let n = numbers-is p _ c.numbers_right.ensures c.if-not-numbers_right.false in
    let ld : length p.deal ≡ 52 = search rules in
    let lk : length p.deck ≡ 24 = search rules in
    no p (λ q. clash _ q.deck (sym (deck_is p ld lk n q.deal) ∙ c.in_default.ensures q.deal))

pub foundation_mask-up-requires : goal.foundation_mask-up-requires
foundation_mask-up-requires c = heights_fit c.args.p (numbers-is c.args.p _ c.numbers_right.ensures c.if-not-numbers_right.false)

pub each_once-requires : goal.each_once-requires
each_once-requires c =
    let p = c.args.p in
    let s = c.in-Some.s in
    let n = numbers-is p _ c.numbers_right.ensures c.if-not-numbers_right.false in
    let g : Shown p.deal p.counts p.deck p.left s = c.in-Some.ensures in
    let ld : length p.deal ≡ 52 = search rules in
    let lk : length p.deck ≡ 24 = search rules in (
      omega (arith, c.foundation_mask-up.ensures, mask_lt 52 (stacked_on p.heights)),
      omega (arith, drawn_is p s ld lk n g, mask_lt 52 (λ k. any_of p.left (λ j. eqb (get_or p.deck j 0) k))),
      omega (arith, g.buried, mask_lt 52 (buried_in p.deal p.counts)),
      n.visible,
    )

pub kings-requires : goal.kings-requires
kings-requires c =
    let n = numbers-is c.args.p _ c.numbers_right.ensures c.if-not-numbers_right.false in
    omega (arith, n.visible, and_le_l c.args.p.visible ((2 ^ 64 - 1) - c.in-Some.s.heads))

pub overflow_add-result : goal.overflow_add-result
overflow_add-result c =
    let p = c.args.p in
    let f = bit_and p.visible ((2 ^ 64 - 1) - c.in-Some.s.heads) in
    omega (arith, c.count_heads.ensures, c.kings.ensures, count_le 7 (λ i. ltb 0 (get_or p.counts i 0)), count_le 4 (λ s. bit f (48 + s)))

-- the tests before the last
before : (c : Joined-s-visible-eq0) → c.if-s-visible-eq0.value ≡ ((each_once c.args.p && heads_visible c.args.p) && pair_rule c.args.p)
before c =
    let p = c.args.p in
    let s = c.in-Some.s in
    let n = numbers-is p _ c.numbers_right.ensures c.if-not-numbers_right.false in
    let g : Shown p.deal p.counts p.deck p.left s = c.in-Some.ensures in
    let ld : length p.deal ≡ 52 = search rules in
    let lk : length p.deck ≡ 24 = search rules in
    let once : c.each_once.result ≡ each_once p = c.each_once.ensures ∙ rw c.foundation_mask-up.ensures (once_is p s ld lk n g) in
    let v1 : c.if-each_once.value ≡ (each_once p && heads_visible p) =
    elim c.if-each_once.branch [
      | then-each_once w ↦ w.value-is ∙ heads_is p s ld lk n g ∙ rw (← once, w.if-each_once.true)
      | else-each_once w ↦ w.value-is ∙ w.if-each_once.false ∙ rw (← once, w.if-each_once.false)
    ] in
    elim c.if-s-visible-eq0.branch [
      | then-s-visible-eq0 w ↦
          let e = and_left (each_once p) (heads_visible p) (sym v1 ∙ w.if-s-visible-eq0.true) in
          w.value-is ∙ w.pair_rule.ensures ∙ ap (λ (f : ℕ). pairs_fit f p.visible) (free_is p s ld lk n g e) ∙ pairs_were p ∙ rw (← v1, w.if-s-visible-eq0.true)
      | else-s-visible-eq0 w ↦ w.value-is ∙ w.if-s-visible-eq0.false ∙ rw (← v1, w.if-s-visible-eq0.false)
    ]

pub returns-then-pair_rule : goal.returns-then-pair_rule
returns-then-pair_rule c =
    let p = c.args.p in
    let s = c.in-Some.s in
    let right = sym c.numbers_right.ensures ∙ c.if-not-numbers_right.false in
    let n = numbers-parts p right in
    let g : Shown p.deal p.counts p.deck p.left s = c.in-Some.ensures in
    let ld : length p.deal ≡ 52 = search rules in
    let lk : length p.deck ≡ 24 = search rules in
    let passed = sym (before c.before.before.before.before) ∙ c.if-pair_rule.true in
    let once = and_left (each_once p) (heads_visible p) (and_left (each_once p && heads_visible p) (pair_rule p) passed) in
    ap₂ (λ (a b : ℕ). leb (a + b) 7) c.count_heads.ensures (c.kings.ensures ∙ ap (λ (x : ℕ). count_of 4 (λ s. bit x (48 + s))) (free_is p s ld lk n g once))
    ∙ seven_was p ∙ sym (ap (λ (b : Bool). b && seven_rule p) passed) ∙ the_rest p s ld lk n g right

pub returns-else-pair_rule : goal.returns-else-pair_rule
returns-else-pair_rule c =
    let p = c.args.p in
    let right = sym c.numbers_right.ensures ∙ c.if-not-numbers_right.false in
    let g : Shown p.deal p.counts p.deck p.left c.in-Some.s = c.in-Some.ensures in
    let ld : length p.deal ≡ 52 = search rules in
    let lk : length p.deck ≡ 24 = search rules in
    c.if-pair_rule.false ∙ sym (ap (λ (b : Bool). b && seven_rule p) (sym (before c.before) ∙ c.if-pair_rule.false)) ∙ the_rest p c.in-Some.s ld lk (numbers-parts p right) g right
