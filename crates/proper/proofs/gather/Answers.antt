-- `proper::gather` meets its contract.
-- Assumes nothing.
use Rattle.std.proofs.Common.{◌≡◌, ℕ, Bool, ◌&&◌, eqb, ltb, get_or, List, take, drop, bit_or, sym, ap, ap₂, ◌∙◌}
use Rattle.rules.specs.Bits.{all_of, same_list}
use Rattle.rules.specs.Hidden.{CardsFit, cards_from}
use Rattle.rules.specs.Proper.{are_cards, are_different}
use Rattle.bits.proofs.Searches.{and_left, and_right}
use Rattle.rules.proofs.DealLaw.{cards_low}
use Rattle.proper.specs.Sets.{IsDeal, picked}
use Rattle.proper.proofs.Cuts.{cards_join}
use Rattle.proper.proofs.DealRight.{deal_whole}
use Rattle.proper.proofs.gather.Goals as goal

-- the deal is judged by its bytes and its cards
is_deal : (d : List ℕ) (small : Bool) (piles stock : ℕ) → small ≡ all_of 52 (λ k. ltb (get_or d k 0) 64) → piles ≡ cards_from d 0 28 → stock ≡ cards_from d 28 24
    → (small && eqb (bit_or piles stock) 4503599627370495) ≡ (are_cards d && are_different d)
is_deal d small piles stock e ep es = ap₂ ◌&&◌ e (ap (λ (x : ℕ). eqb x 4503599627370495) (ap₂ bit_or ep es ∙ cards_join d 28 24)) ∙ deal_whole d

-- the deck is held against the picked cards of the stock
is_deck : (d k : List ℕ) (left n drawn : ℕ) (cards : List ℕ) → IsDeal d → drawn ≡ cards_from k 0 left → (CardsFit d → take n cards ≡ picked drawn (take 24 (drop 28 d)))
    → same_list (take left k) (take n cards) ≡ same_list (take left k) (picked (cards_from k 0 left) (take 24 (drop 28 d)))
is_deck d k left n drawn cards t e h =
    ap (same_list (take left k)) (h (cards_low d (and_left (are_cards d) (are_different d) t)) ∙ ap (λ (m : ℕ). picked m (take 24 (drop 28 d))) e)

pub returns-then-right-follows : goal.returns-then-right-follows
returns-then-right-follows c =
    let d = c.args.deal.now in
    let p = c.piles-p.ensures in
    let s = c.stock-s.ensures in
    let f = c.deck_follows-follows in
    let t : IsDeal d = sym (is_deal d _ _ _ c.all_small-small.ensures p.0 s.0) ∙ and_left _ f.result c.if-right-follows.true in
    record {
      deal = t;
      deck = sym (is_deck d _ _ _ _ _ t c.cards_from-drawn.ensures s.2) ∙ sym f.ensures ∙ and_right _ f.result c.if-right-follows.true;
      drawn = c.cards_from-drawn.ensures;
      buried = p.1 t;
      heads = p.2 t;
    }

pub returns-else-right-follows : goal.returns-else-right-follows
returns-else-right-follows c =
    let d = c.args.deal.now in
    let f = c.deck_follows-follows in
    let right = is_deal d _ _ _ c.all_small-small.ensures c.piles-p.ensures.0 c.stock-s.ensures.0 in
    λ t. sym (is_deck d _ _ _ _ _ t c.cards_from-drawn.ensures c.stock-s.ensures.2) ∙ sym f.ensures ∙ sym (ap (λ (b : Bool). b && f.result) (right ∙ t)) ∙ c.if-right-follows.false
