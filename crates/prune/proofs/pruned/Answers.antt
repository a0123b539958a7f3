-- `prune::pruned` meets its contract.
-- Assumes nothing.
use Rattle.std.proofs.Common.{◌≡◌, ℕ, ◌-◌, ◌<◌, ◌≤◌, ◌^◌, T, Bool, true, false, not, ◌&&◌, cond, ltb, leb, bit_and, refl, sym, ap, ap₂, ◌∙◌, subst, arith}
use lib.Dec.{lit≤}
use borrow.Author.Tests.{lt-ltb, le-ltb}
use Rattle.bits.specs.Bit.{mask_of}
use Rattle.bits.proofs.Laws.{mask_lt, mask_ext}
use Rattle.bits.proofs.Algebra.{and_not_masks}
use Rattle.rules.specs.declared.Position.{Position}
use Rattle.rules.specs.Cards.{pair}
use Rattle.rules.specs.Places.{is_head, is_visible, is_free}
use Rattle.rules.specs.Legal.{is_next, is_open, pile_stack_legal, unpruned}
use Rattle.rules.specs.Proper.{proper}
use Rattle.rules.specs.Pruned.{lowest, size, dominant, dom_mask, dom_next, next_mask, pile_stack_dom, redundant, least, deck_forced, only_pile_stack, only_deck_stack, pruned}
use Rattle.rules.proofs.ProperLaw.{free_is}
use Rattle.rules.proofs.Facts.{facts}
use Rattle.rules.proofs.Sets.{and_is}
use Rattle.legal.specs.declared.Sight.{Sight}
use Rattle.legal.specs.Sight.{sight}
use Rattle.legal.proofs.Unpruned.{pile_stack_is}
use Rattle.prune.specs.Weigh.{settled}
use Rattle.prune.proofs.Choice.{forced_of, open_of}
use Rattle.prune.proofs.Ending.{dom_next_lem}
use Rattle.prune.proofs.pruned.Goals as goal

-- the four ends
ends : (p : Position) (a b d : Bool) → ltb 0 (pile_stack_dom p) ≡ a → leb 3 (size (redundant p)) ≡ b → ltb 0 (deck_forced p) ≡ d
    → pruned p ≡ cond a (only_pile_stack (lowest (pile_stack_dom p))) (cond b (only_pile_stack (least p)) (cond d (only_deck_stack (deck_forced p)) (settled p)))
unfolding pruned settled
ends p a b d ea eb ed =
    ap₂ (λ (x y : Bool). cond x (only_pile_stack (lowest (pile_stack_dom p))) (cond y (only_pile_stack (least p)) (cond (ltb 0 (deck_forced p)) (only_deck_stack (deck_forced p)) (settled p)))) ea eb
    ∙ ap (λ (z : Bool). cond a (only_pile_stack (lowest (pile_stack_dom p))) (cond b (only_pile_stack (least p)) (cond z (only_deck_stack (deck_forced p)) (settled p)))) ed

-- free, of cards that are visible
free-table : (v o n h f : Bool) → f ≡ (v && not h) → (((v && o) && n) && not h) ≡ (((v && o) && n) && f)
free-table true true true h f e = sym e
free-table true true false h f e = refl
free-table true false n h f e = refl
free-table false o n h f e = refl

red-is : (p : Position) → T (proper p) → bit_and (mask_of 52 (pile_stack_legal p)) ((2 ^ 64 - 1) - mask_of 52 (is_head p)) ≡ redundant p
unfolding redundant pile_stack_legal
red-is p t =
    and_not_masks 52 52 (pile_stack_legal p) (is_head p) (lit≤ tt) (lit≤ tt)
    ∙ mask_ext 52 (λ c. pile_stack_legal p c && not (is_head p c)) (λ c. pile_stack_legal p c && is_free p c)
    (λ c l. free-table (is_visible p c) (is_open p (pair c)) (is_next p c) (is_head p c) (is_free p c) (free_is p (facts p t).once c l))

-- what the code has, by name
module _ (p : Position) (t : T (proper p)) (s : Sight) (e : s ≡ sight p) (dom : ℕ) (ed : dom ≡ dom_mask p) where
  ps : bit_and (bit_and s.bm s.vis) s.sm ≡ mask_of 52 (pile_stack_legal p)
  unfolding sight
  ps = ap (λ (s : Sight). bit_and (bit_and s.bm s.vis) s.sm) e ∙ pile_stack_is p t

  up : bit_and (bit_and (bit_and s.bm s.vis) s.sm) dom ≡ pile_stack_dom p
  unfolding pile_stack_dom unpruned
  up = ap₂ bit_and ps ed ∙ and_is (mask_of 52 (pile_stack_legal p)) (dom_mask p) (omega (arith, mask_lt 52 (pile_stack_legal p)))

  red : bit_and (bit_and (bit_and s.bm s.vis) s.sm) ((2 ^ 64 - 1) - s.locked) ≡ redundant p
  unfolding sight
  red = ap₂ (λ (x : ℕ) (s : Sight). bit_and x ((2 ^ 64 - 1) - s.locked)) ps e ∙ red-is p t

  next : bit_and dom s.sm ≡ dom_next p
  unfolding sight next_mask
  next = ap₂ (λ (x : ℕ) (y : Sight). bit_and x y.sm) ed e ∙ dom_next_lem p t

  -- the tests that are passed
  first : bit_and (bit_and (bit_and s.bm s.vis) s.sm) dom ≤ 0 → ltb 0 (pile_stack_dom p) ≡ false
  first l = le-ltb 0 (pile_stack_dom p) (subst (λ (x : ℕ). x ≤ 0) up l)

  counted : (r : Bool) → r ≡ leb 3 (size (bit_and (bit_and (bit_and s.bm s.vis) s.sm) ((2 ^ 64 - 1) - s.locked))) → r ≡ leb 3 (size (redundant p))
  counted r h = h ∙ ap (λ (m : ℕ). leb 3 (size m)) red

pub dominance_mask-dom-requires : goal.dominance_mask-dom-requires
dominance_mask-dom-requires c = (facts c.args.p.position c.args.p.good).heights

pub returns-then-up-gt0 : goal.returns-then-up-gt0
unfolding lowest dom_mask dominant
returns-then-up-gt0 c =
    let p = c.args.p.position in
    let u = up p c.args.p.good _ c.look-s.ensures _ c.dominance_mask-dom.ensures in
    c.only_pile_stack.ensures ∙ ap only_pile_stack (c.lowest.ensures ∙ ap lowest u)
    ∙ sym (ends p true (leb 3 (size (redundant p))) (ltb 0 (deck_forced p)) (lt-ltb 0 (pile_stack_dom p) (subst (λ (x : ℕ). 0 < x) u c.if-up-gt0.true)) refl refl)

pub returns-then-has_three : goal.returns-then-has_three
unfolding lowest dom_mask dominant least
returns-then-has_three c =
    let p = c.args.p.position in
    let k = c.look-s.ensures in
    let d = c.dominance_mask-dom.ensures in
    c.only_pile_stack-then-has_three.ensures ∙ ap only_pile_stack (c.lowest-least.ensures ∙ ap lowest (red p c.args.p.good _ k _ d))
    ∙ sym (ends p false true (ltb 0 (deck_forced p)) (first p c.args.p.good _ k _ d c.if-up-gt0.false) (sym (counted p c.args.p.good _ k _ d _ c.has_three.ensures) ∙ c.if-has_three.true) refl)

pub deck_choice-requires : goal.deck_choice-requires
unfolding dom_mask dominant
deck_choice-requires c = next c.args.p.position c.args.p.good _ c.look-s.ensures _ c.dominance_mask-dom.ensures

pub returns-in-Forced : goal.returns-in-Forced
unfolding dom_mask dominant
returns-in-Forced c =
    let p = c.args.p.position in
    let k = c.look-s.ensures in
    let d = c.dominance_mask-dom.ensures in
    let f = forced_of p c.in-Forced.card c.in-Forced.ensures in
    c.only_deck_stack.ensures ∙ ap only_deck_stack f.0
    ∙ sym (ends p false false true (first p c.args.p.good _ k _ d c.if-up-gt0.false) (sym (counted p c.args.p.good _ k _ d _ c.has_three.ensures) ∙ c.if-has_three.false) f.1)

pub invariant_of-w : goal.invariant_of-w
unfolding sight dom_mask dominant lowest next_mask least
invariant_of-w c =
    let p = c.args.p.position in
    let k = c.look-s.ensures in
    let d = c.dominance_mask-dom.ensures in
    record {
      vis_is = ap (λ (x : Sight). x.vis) k;
      locked_is = ap (λ (x : Sight). x.locked) k;
      alone_is = ap (λ (x : Sight). x.alone) k;
      bm_is = ap (λ (x : Sight). x.bm) k;
      sm_is = ap (λ (x : Sight). x.sm) k;
      dom_is = d;
      dm_is = (open_of p c.in-Open.dm c.in-Open.ensures).0;
      ps_is = ps p c.args.p.good _ k _ d;
      redundant_is = red p c.args.p.good _ k _ d;
      least_is = c.lowest-least.ensures ∙ ap lowest (red p c.args.p.good _ k _ d);
    }

pub returns-in-Open : goal.returns-in-Open
unfolding dom_mask dominant
returns-in-Open c =
    let p = c.args.p.position in
    let k = c.look-s.ensures in
    let d = c.dominance_mask-dom.ensures in
    let f = open_of p c.in-Open.dm c.in-Open.ensures in
    c.settle.ensures
    ∙ sym (ends p false false false (first p c.args.p.good _ k _ d c.if-up-gt0.false) (sym (counted p c.args.p.good _ k _ d _ c.has_three.ensures) ∙ c.if-has_three.false) f.1)
