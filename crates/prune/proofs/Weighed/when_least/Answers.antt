-- `prune::Weighed::when_least` meets its contract.
-- Assumes nothing.
use Rattle.std.proofs.Common.{◌≡◌, ℕ, ◌*◌, ◌-◌, ◌/◌, ◌%◌, ◌<◌, ◌≤◌, ◌^◌, Bool, true, false, not, ◌&&◌, ◌||◌, eqb, bit_and, bit_or, refl, sym, ap, ap₂, ◌∙◌, subst, rules}
use borrow.Author.Tests.{lt-ltb, le-ltb}
use Rattle.bits.specs.Bit.{bit, mask_of}
use Rattle.rules.specs.declared.Position.{Position}
use Rattle.rules.specs.Bits.{any_of}
use Rattle.rules.specs.Cards.{suit}
use Rattle.rules.specs.Pruned.{◌∩◌, ◌∖◌, chosen, pairs_of, redundant, least, least_pair, extra, suit_unstack, suit_filter, stack_pile_first, triple_stackable}
use Rattle.prune.specs.declared.Weighed.{Weighed}
use Rattle.prune.proofs.Least.{extra_is, extra_small, filter_is, sp_is, both_is, ends}
use Rattle.prune.proofs.Weighed.when_least.Goals as goal

-- a suit that is unstacked
of : (p : Position) (x s : ℕ) (u : Bool) → u ≡ not (any_of 52 (λ c. bit x c && eqb (suit c) s)) → x ≡ extra p → u ≡ suit_unstack p s
unfolding suit_unstack
of p x s u h e = h ∙ ap (λ (y : ℕ). not (any_of 52 (λ c. bit y c && eqb (suit c) s))) e

-- what the code makes of the least pair
module _ (w : Weighed) (pair : ℕ) (h : pair ≡ pairs_of w.least) where
  pair_is : pair ≡ least_pair w.p.position
  unfolding least_pair
  pair_is = h ∙ ap pairs_of w.least_is

  both : bit_and (pair * 4 % 2 ^ 64) w.redundant ≡ ((least_pair w.p.position * 2 ^ 2) ∩ redundant w.p.position)
  both = ap₂ (λ (x y : ℕ). bit_and (x * 4 % 2 ^ 64) y) pair_is w.redundant_is ∙ both_is w.p.position w.p.good

  -- as the code has it
  abbrev extraOf : ℕ
  extraOf = bit_or w.redundant (bit_and (bit_and w.vis w.sm) (pair * 16 % 2 ^ 64))

  ex : extraOf ≡ extra w.p.position
  ex = rw (pair_is, w.redundant_is, w.vis_is, w.sm_is) (extra_is w.p.position w.p.good)

  low : extraOf < 2 ^ 52
  low = subst (λ (x : ℕ). x < 2 ^ 52) (sym ex) (extra_small w.p.position w.p.good)

  -- the filtered `stack_pile`
  sp : (first filter triple : ℕ) → first ≡ stack_pile_first w.p.position → filter ≡ suit_filter w.p.position → triple ≡ triple_stackable w.p.position
      → bit_and (bit_and (bit_and first filter) (w.least - 1)) ((2 ^ 64 - 1) - triple) ≡ (stack_pile_first w.p.position ∩ suit_filter w.p.position ∩ (least w.p.position - 1) ∖ triple_stackable w.p.position)
  sp first filter triple ef eg et = rw (ef, eg, et, w.least_is) (sp_is w.p.position w.p.good)

  -- the four suits
  module _ (u0 u1 u2 u3 : Bool) (h0 : u0 ≡ not (any_of 52 (λ c. bit extraOf c && eqb (suit c) 0))) (h1 : u1 ≡ not (any_of 52 (λ c. bit extraOf c && eqb (suit c) 1)))
      (h2 : u2 ≡ not (any_of 52 (λ c. bit extraOf c && eqb (suit c) 2))) (h3 : u3 ≡ not (any_of 52 (λ c. bit extraOf c && eqb (suit c) 3))) where
    joined : ((u0 || u1) && (u2 || u3)) ≡ ((suit_unstack w.p.position 0 || suit_unstack w.p.position 1) && (suit_unstack w.p.position 2 || suit_unstack w.p.position 3))
    joined = ap₂ ◌&&◌ (ap₂ ◌||◌ (of w.p.position extraOf 0 u0 h0 ex) (of w.p.position extraOf 1 u1 h1 ex)) (ap₂ ◌||◌ (of w.p.position extraOf 2 u2 h2 ex) (of w.p.position extraOf 3 u3 h3 ex))

    filter_of : mask_of 64 (λ c. (((eqb (suit c) 0 && u1) || (eqb (suit c) 1 && u0)) || (eqb (suit c) 2 && u3)) || (eqb (suit c) 3 && u2)) ≡ suit_filter w.p.position
    filter_of = filter_is w.p.position u0 u1 u2 u3 (of w.p.position extraOf 0 u0 h0 ex) (of w.p.position extraOf 1 u1 h1 ex) (of w.p.position extraOf 2 u2 h2 ex) (of w.p.position extraOf 3 u3 h3 ex)

pub unstacked-u0-requires : goal.unstacked-u0-requires
unstacked-u0-requires c = (search rules, low c.args.self.now _ c.pairs-pair.ensures)

pub unstacked-u1-requires : goal.unstacked-u1-requires
unstacked-u1-requires c = (search rules, low c.args.self.now _ c.pairs-pair.ensures)

pub unstacked-u2-requires : goal.unstacked-u2-requires
unstacked-u2-requires c = (search rules, low c.args.self.now _ c.pairs-pair.ensures)

pub unstacked-u3-requires : goal.unstacked-u3-requires
unstacked-u3-requires c = (search rules, low c.args.self.now _ c.pairs-pair.ensures)

pub triple_stackable-triple-requires : goal.triple_stackable-triple-requires
triple_stackable-triple-requires c = pair_is c.args.self.now _ c.pairs-pair.ensures

pub returns-then-not-u0-u1 : goal.returns-then-not-u0-u1
returns-then-not-u0-u1 c =
    let w = c.args.self.now in
    let none = sym (joined w _ c.pairs-pair.ensures _ _ _ _ c.unstacked-u0.ensures c.unstacked-u1.ensures c.unstacked-u2.ensures c.unstacked-u3.ensures) ∙ c.if-not-u0-u1.true in
    c.chosen.ensures ∙ ap (λ (m : ℕ). chosen w.p.position 0 m 0 0) w.least_is ∙ sym (ends w.p.position w.p.good false _ none refl)

pub returns-then-pair-self-gt0 : goal.returns-then-pair-self-gt0
returns-then-pair-self-gt0 c =
    let w = c.args.self.now in
    let h = c.pairs-pair.ensures in
    let some = sym (joined w _ h _ _ _ _ c.unstacked-u0.ensures c.unstacked-u1.ensures c.unstacked-u2.ensures c.unstacked-u3.ensures) ∙ c.if-not-u0-u1.false in
    let filter = c.suit_filter-filter.ensures ∙ filter_of w _ h _ _ _ _ c.unstacked-u0.ensures c.unstacked-u1.ensures c.unstacked-u2.ensures c.unstacked-u3.ensures in
    c.chosen-then-pair-self-gt0.ensures ∙ ap₂ (λ (x m : ℕ). chosen w.p.position x m 0 0) (sp w _ h _ _ _ c.requires.0 filter c.triple_stackable-triple.ensures) w.least_is
    ∙ sym (ends w.p.position w.p.good true true some (lt-ltb 0 _ (subst (λ (x : ℕ). 0 < x) (both w _ h) c.if-pair-self-gt0.true)))

pub returns-else-pair-self-gt0 : goal.returns-else-pair-self-gt0
returns-else-pair-self-gt0 c =
    let w = c.args.self.now in
    let h = c.pairs-pair.ensures in
    let some = sym (joined w _ h _ _ _ _ c.unstacked-u0.ensures c.unstacked-u1.ensures c.unstacked-u2.ensures c.unstacked-u3.ensures) ∙ c.if-not-u0-u1.false in
    let filter = c.suit_filter-filter.ensures ∙ filter_of w _ h _ _ _ _ c.unstacked-u0.ensures c.unstacked-u1.ensures c.unstacked-u2.ensures c.unstacked-u3.ensures in
    c.chosen-else-pair-self-gt0.ensures ∙ ap₂ (λ (x m : ℕ). chosen w.p.position x m 0 (c.pairs-pair.result / 16)) (sp w _ h _ _ _ c.requires.0 filter c.triple_stackable-triple.ensures) w.least_is
    ∙ ap (λ (m : ℕ). chosen w.p.position (stack_pile_first w.p.position ∩ suit_filter w.p.position ∩ (least w.p.position - 1) ∖ triple_stackable w.p.position) (least w.p.position) 0 (m / 16)) (pair_is w _ h)
    ∙ sym (ends w.p.position w.p.good true false some (le-ltb 0 _ (subst (λ (x : ℕ). x ≤ 0) (both w _ h) c.if-pair-self-gt0.false)))
