-- Two positions are the same just where they are one without their spare slots. Each part that counts is named here once. Assumes nothing.
use mathlib.Core.Bool.{Bool, true, ◌&&◌}
use mathlib.Core.List.{List}
use mathlib.Core.Path.{◌≡◌, refl, sym, ap, ◌∙◌, subst}
use Prim.Native.Nat.{ℕ, ◌+◌, ◌-◌}
use lib.Dec.{eqb}
use lib.ListN.{take, set}
use borrow.Author.Tests.{eqb-true, eq-eqb}
use Rattle.bits.proofs.Searches.{and_left, and_right, and_both}
use Rattle.rules.specs.declared.Position.{Position}
use Rattle.rules.specs.Bits.{same_list}
use Rattle.rules.specs.Fields.{with_deal, with_step, with_counts, with_heights, with_slots, with_offset, with_visible}
use Rattle.rules.specs.Places.{count}
use Rattle.rules.specs.Play.{uncovered, covered}
use Rattle.rules.specs.History.{same_deck, same_in_deal, same_position}
use Rattle.rules.proofs.SameList.{same_list_lem, list_same}
use Rattle.facts.proofs.Deck.{deck_list}
use Rattle.facts.proofs.TurnedFields.{uncovered_stays}
use Rattle.facts.proofs.TurnedBack.{back_stays}

-- the position without its spare slots
unfoldable pub tidy : Position → Position
tidy p = with_slots p (take p.left p.deck) p.left

-- ---- "Spare slots of arrays don't count": the same position

-- what the test of sameness has compared, the deal apart
record Parts (p q : Position) : Type 0 where
  step : p.step ≡ q.step
  counts : p.counts ≡ q.counts
  heights : p.heights ≡ q.heights
  left : p.left ≡ q.left
  deck : take p.left p.deck ≡ take q.left q.deck
  offset : p.offset ≡ q.offset
  visible : p.visible ≡ q.visible

parts : (p q : Position) → same_in_deal p q ≡ true → Parts p q
unfolding same_in_deal same_deck
parts p q h =
    let S : Bool = eqb p.step q.step in
    let C : Bool = same_list p.counts q.counts in
    let H : Bool = same_list p.heights q.heights in
    let D : Bool = same_deck p q in
    let O : Bool = eqb p.offset q.offset in
    let M : Bool = eqb p.visible q.visible in
    let L : Bool = eqb p.left q.left in
    let K : Bool = same_list (take p.left p.deck) (take q.left q.deck) in
    let h5 = and_left (S && C && H && D && O) M h in
    let h4 = and_left (S && C && H && D) O h5 in
    let h3 = and_left (S && C && H) D h4 in
    let h2 = and_left (S && C) H h3 in
    let d = and_right (S && C && H) D h4 in
    record {
      step = eqb-true p.step q.step (and_left S C h2);
      counts = same_list_lem p.counts q.counts (and_right S C h2);
      heights = same_list_lem p.heights q.heights (and_right (S && C) H h3);
      left = eqb-true p.left q.left (and_left L K d);
      deck = same_list_lem (take p.left p.deck) (take q.left q.deck) (and_right L K d);
      offset = eqb-true p.offset q.offset (and_right (S && C && H && D) O h5);
      visible = eqb-true p.visible q.visible (and_right (S && C && H && D && O) M h);
    }

pub same_tidy : (p q : Position) → same_position p q ≡ true → tidy p ≡ tidy q
unfolding same_position tidy
same_tidy p q h =
    let d : p.deal ≡ q.deal = same_list_lem p.deal q.deal (and_left (same_list p.deal q.deal) (same_in_deal p q) h) in
    let s = parts p q (and_right (same_list p.deal q.deal) (same_in_deal p q) h) in
    λ i.
    with_visible (with_offset (with_slots (with_heights (with_counts (with_step (with_deal p (d i)) (s.step i)) (s.counts i)) (s.heights i)) (s.deck i) (s.left i)) (s.offset i)) (s.visible i)

pub tidy_same : (p q : Position) → tidy p ≡ tidy q → same_position p q ≡ true
unfolding same_position same_in_deal same_deck tidy
tidy_same p q e =
    both (lists (ap (λ (r : Position). r.deal) e))
    (both
    (both
    (both
    (both (both (numbers (ap (λ (r : Position). r.step) e)) (lists (ap (λ (r : Position). r.counts) e))) (lists (ap (λ (r : Position). r.heights) e)))
    (both (numbers (ap (λ (r : Position). r.left) e)) (lists (ap (λ (r : Position). r.deck) e))))
    (numbers (ap (λ (r : Position). r.offset) e)))
    (numbers (ap (λ (r : Position). r.visible) e)))
  where
    both : {a b : Bool} → a ≡ true → b ≡ true → (a && b) ≡ true
    both {a} {b} = and_both a b

    numbers : {x y : ℕ} → x ≡ y → eqb x y ≡ true
    numbers {x} {y} = eq-eqb x y

    lists : {xs ys : List ℕ} → xs ≡ ys → same_list xs ys ≡ true
    lists {xs} h = ap (same_list xs) (sym h) ∙ list_same xs

-- positions that are the same have the same counts
pub same_counts : (p q : Position) → same_position p q ≡ true → p.counts ≡ q.counts
unfolding tidy
same_counts p q h = ap (λ (r : Position). r.counts) (same_tidy p q h)

-- ---- what a move changes

-- p with the parts of q that a move may change
abbrev pub played : Position → Position → Position
played p q = with_visible (with_offset (with_slots (with_heights (with_counts p q.counts) q.heights) q.deck q.left) q.offset) q.visible

-- a position that is made of p
pub made_of : (p q r : Position) → q ≡ r → r ≡ played p r → q ≡ played p q
made_of p q r e h = subst (λ (x : Position). x ≡ played p x) (sym e) h

pub uncovered_made : (p q : Position) (i : ℕ) → q ≡ played p q → uncovered q i ≡ played p (uncovered q i)
uncovered_made p q i h =
    made_of p (uncovered q i) _
    ((uncovered_stays q i).whole ∙ ap (λ (x : Position). with_visible (with_counts x (set q.counts i (count q i - 1))) (uncovered q i).visible) h) refl

pub covered_made : (p q : Position) (i : ℕ) → q ≡ played p q → covered q i ≡ played p (covered q i)
covered_made p q i h =
    made_of p (covered q i) _
    ((back_stays q i).whole ∙ ap (λ (x : Position). with_visible (with_counts x (set q.counts i (count q i + 1))) (covered q i).visible) h) refl

-- such a position is p, spare slots apart, where those parts are p's
pub tidy_path : (p q : Position) → q ≡ played p q → q.counts ≡ p.counts → q.heights ≡ p.heights → deck_list q ≡ deck_list p → q.left ≡ p.left
    → q.offset ≡ p.offset → q.visible ≡ p.visible → tidy q ≡ tidy p
unfolding tidy deck_list
tidy_path p q w n h k l o v = ap tidy w ∙ (λ i. with_visible (with_offset (with_slots (with_heights (with_counts p (n i)) (h i)) (k i) (l i)) (o i)) (v i))
