-- What is passed of the deal, and whether its card is the next of those left.
use Rattle.std.proofs.Common.{◌≡◌, ℕ, ◌≤◌, ◌+◌, ◌-◌, ◌<◌, Bool, true, false, ◌&&◌, List, Option, Some, Bor, eqb, ltb, get_or, take, length, refl, length-take-le, length-drop, sym, ap, ap₂, ◌∙◌, below_more, arith}
use Rattle.std.specs.Option.{option_eq}
use Rattle.std.specs.Slice.{IsItemAt}
use borrow.Author.Tests.{ltb-true}
use lib.Seq.{get_or-take}
use mir.Val.{bool_byte}
use Rattle.rules.specs.declared.Position.{Position}
use Rattle.rules.specs.Bits.{any_of}
use Rattle.rules.specs.Places.{in_deck}
use Rattle.rules.proofs.Facts.{facts}
use Rattle.rules.proofs.Held.{held}
use Rattle.deck.proofs.Fields.{item_at}
use Rattle.deck.proofs.Passing.{Right, shape_right, Walk, has, walk_start, walk_step, found_at, nowhere, next}
use Rattle.deck.proofs.find_card.Goals as goal

pub shared_ref_as_front-cards : goal.shared_ref_as_front-cards
shared_ref_as_front-cards c = (facts c.args.p.position c.args.p.good).left

pub loop-c-init : goal.loop-c-init
loop-c-init c =
    let p = c.args.p.position in
    record { walk = walk_start p.deal p.deck p.left (shape_right p c.args.p.good (held c.args.p _ c.well_formed.0)); not_yet = λ j l e. omega arith }

-- the next of the cards left is this one
is_next : (xs : List ℕ) (at : ℕ) (o : Option (Bor ℕ)) (x : Bor ℕ) → IsItemAt xs at o → option_eq (λ a b. eqb a.now b.now) o (Some x) ≡ (ltb at (length xs) && eqb (get_or xs at 0) x.now)
is_next xs at o x h = grind arith

-- so the test of a round is that of the walk
hit : (deck deal : List ℕ) (left k at : ℕ) (o : Option (Bor ℕ)) (x : Bor ℕ) (b : Bool) → left ≤ length deck → x.now ≡ get_or deal (28 + k) 0
    → IsItemAt (take left deck) at o → b ≡ option_eq (λ a b. eqb a.now b.now) o (Some x) → next deal deck left k at ≡ b
hit deck deal left k at o x b l e h r =
    go (ltb at left) refl (ap (λ n. ltb at n && eqb (get_or (take left deck) at 0) x.now) (sym (length-take-le left deck l)) ∙ sym (is_next (take left deck) at o x h) ∙ sym r)
  where
    go : (t : Bool) → ltb at left ≡ t → (ltb at left && eqb (get_or (take left deck) at 0) x.now) ≡ b → next deal deck left k at ≡ b
    go true t s = ap₂ (λ (u v : ℕ). ltb at left && eqb u v) (sym (get_or-take left deck at 0 (ltb-true at left t))) (sym e) ∙ s
    go false t s = rw t (rw t at s)

-- a round of the walk
round : (p : Position) (k at : ℕ) (o : Option (Bor ℕ)) (x : Bor ℕ) (b : Bool) → Right p.deal p.deck p.left → k < 24 → Walk p.deal p.deck p.left k at → x.now ≡ get_or p.deal (28 + k) 0
    → IsItemAt (take p.left p.deck) at o → b ≡ option_eq (λ a b. eqb a.now b.now) o (Some x) → (has p.deal p.deck p.left k ≡ b) × Walk p.deal p.deck p.left (k + 1) (at + bool_byte b)
round p k at o x b d m w e h r = walk_step p.deal p.deck p.left d k at m w b (hit p.deck p.deal p.left k at o x b (omega (arith, d.fits, d.full)) e h r)

pub returns-then-c-card : goal.returns-then-c-card
unfolding in_deck
returns-then-c-card c =
    let p = c.args.p.position in
    let l = c.loop-c in
    let d = shape_right p c.args.p.good (held c.args.p _ c.well_formed.0) in
    let low : l.c-index < 24 = omega (arith, d.long) in
    let item = item_at p.deal (length p.deal - 28) l.c-index (omega arith) in
    let s = round p l.c-index l.at c.get.result _ c.eq-hit.result d low l.invariant.walk item c.get.ensures.lookup c.eq-hit.ensures in (
      sym s.0 ∙ ap (λ (x : ℕ). any_of p.left (λ j. eqb (get_or p.deck j 0) x)) (sym item ∙ c.if-c-card.true),
      found_at p c.args.card l.c-index l.at low l.invariant.walk l.invariant.not_yet (sym item ∙ c.if-c-card.true),
    )

pub loop-c-preserved : goal.loop-c-preserved
loop-c-preserved c =
    let p = c.args.p.position in
    let l = c.loop-c in
    let d = shape_right p c.args.p.good (held c.args.p _ c.well_formed.0) in
    let item = item_at p.deal (length p.deal - 28) l.c-index (omega arith) in
    let s = round p l.c-index l.at c.get.result _ c.eq-hit.result d (omega (arith, d.long)) l.invariant.walk item c.get.ensures.lookup c.eq-hit.ensures in
    record { walk = s.1; not_yet = below_more _ _ l.invariant.not_yet (λ e. c.if-c-card.false (item ∙ e)) }

pub returns : goal.returns
returns c =
    let p = c.args.p.position in
    let d = shape_right p c.args.p.good (held c.args.p _ c.well_formed.0) in
    nowhere p c.args.card d (λ j m. c.loop-c.invariant.not_yet j (omega (arith, d.long, length-drop {A = ℕ})))
