-- Two proper positions with one veil have the same pruned masks. A part of demand 3.
-- Assumes nothing.
use mathlib.Core.Bool.{Bool, true, false, not, ◌&&◌, ◌||◌, cond}
use mathlib.Core.Path.{◌≡◌, ap, ap₂, ◌∙◌}
use Prim.Native.Nat.{ℕ, ◌+◌, ◌-◌, ◌*◌, ◌/◌, ◌%◌, ◌^◌}
use lib.Dec.{eqb, ltb, leb}
use Rattle.rules.specs.declared.Position.{Position}
use Rattle.rules.specs.declared.Masks.{Masks}
use Rattle.rules.specs.Bits.{bit, mask_of, any_of}
use Rattle.rules.specs.Cards.{suit, partner, is_king}
use Rattle.rules.specs.Places.{is_head, is_base, is_visible, is_free}
use Rattle.facts.proofs.Veil.{veil}
use Rattle.rules.specs.Dealing.{available, place_available, available_soon, place_soon}
use Rattle.rules.specs.Legal.{has_room, is_next, pile_stack_legal, unpruned}
use Rattle.rules.specs.Pruned.{◌∩◌, ◌∪◌, ◌∖◌, lowest, size, pairs_of, whole_pairs_of, lower, dom_ranks, dominant, dom_mask, next_mask, dom_next, pile_stack_dom, redundant, least, is_pure, last_up, deck_forced, deck_mask, chosen, stack_pile_first, when_none, when_paired, least_pair, extra, suit_unstack, suit_filter, triple_stackable, when_least, only_pile_stack, only_deck_stack, pruned}
use Rattle.rules.specs.Answers.{masks_for}
use Rattle.bits.proofs.Searches.{mask_ext}
use Rattle.rules.proofs.ProperLaw.{Sound}
use Rattle.laws.proofs.VeilPlaces.{visible_same, next_same, free_same}
use Rattle.laws.proofs.VeilMoves.{room_same, movable_same, pile_stack_same, unpruned_same}

module _ (p q : Position) (e : veil p ≡ veil q) where
  pub dom_same : dom_mask p ≡ dom_mask q
  unfolding veil dom_mask dominant dom_ranks lower
  dom_same = ap dom_mask e

  pub next_mask_same : next_mask p ≡ next_mask q
  unfolding veil next_mask is_next
  next_mask_same = ap next_mask e

  pub dom_next_same : dom_next p ≡ dom_next q
  unfolding dom_next
  dom_next_same = ap₂ ◌∩◌ dom_same next_mask_same

  pub forced_same : deck_forced p ≡ deck_forced q
  unfolding veil deck_forced dom_next dom_mask dominant dom_ranks lower next_mask is_next last_up is_pure available place_available
  forced_same = ap deck_forced e

  pub deck_mask_same : deck_mask p ≡ deck_mask q
  unfolding veil deck_mask dom_next dom_mask dominant dom_ranks lower next_mask is_next last_up available place_available available_soon place_soon
  deck_mask_same = ap deck_mask e

module _ (p q : Position) (e : veil p ≡ veil q) (pp : Sound p) (qq : Sound q) where
  pub pile_stack_dom_same : pile_stack_dom p ≡ pile_stack_dom q
  unfolding pile_stack_dom
  pile_stack_dom_same = ap₂ (λ (m : Masks) (d : ℕ). m.pile_stack ∩ d) (unpruned_same p q e pp qq) (dom_same p q e)

  pub redundant_same : redundant p ≡ redundant q
  unfolding redundant
  redundant_same =
      mask_ext 52 (λ c. pile_stack_legal p c && is_free p c) (λ c. pile_stack_legal q c && is_free q c)
      (λ c l. ap₂ (λ (a b : Bool). a && b) ((pile_stack_same p q e pp qq) c l) ((free_same p q e pp qq) c l))

  pub least_same : least p ≡ least q
  unfolding least
  least_same = ap lowest redundant_same

  pub chosen_same : (sp ps ds room : ℕ) → chosen p sp ps ds room ≡ chosen q sp ps ds room
  unfolding chosen
  chosen_same sp ps ds room =
      λ i.
      record {
        reveal = mask_ext 52 (λ c. is_head p c && not (is_king c && is_base p c)) (λ c. is_head q c && not (is_king c && is_base q c)) (λ c l. (movable_same p q e pp qq) c) i ∩ room;
        pile_stack = ps;
        deck_pile = (deck_mask_same p q e) i ∩ room ∖ (dom_next_same p q e) i;
        deck_stack = ds;
        stack_pile = sp;
      }

  pub first_same : stack_pile_first p ≡ stack_pile_first q
  unfolding stack_pile_first
  first_same = ap₂ (λ (m : Masks) (d : ℕ). m.stack_pile ∖ d) (unpruned_same p q e pp qq) (dom_same p q e)

  pub none_same : when_none p ≡ when_none q
  unfolding when_none
  none_same =
      chosen_same (stack_pile_first p) (unpruned p).pile_stack (deck_mask p ∩ next_mask p) (mask_of 52 (has_room p))
      ∙ (λ i. chosen q (first_same i) ((unpruned_same p q e pp qq) i).pile_stack ((deck_mask_same p q e) i ∩ (next_mask_same p q e) i) (mask_ext 52 (has_room p) (has_room q) (room_same p q e pp qq) i))

  pub paired_same : when_paired p ≡ when_paired q
  unfolding when_paired
  paired_same =
      chosen_same 0 (whole_pairs_of (unpruned p).pile_stack) 0 (whole_pairs_of (unpruned p).pile_stack / 2 ^ 4)
      ∙ (λ i. chosen q 0 (whole_pairs_of ((unpruned_same p q e pp qq) i).pile_stack) 0 (whole_pairs_of ((unpruned_same p q e pp qq) i).pile_stack / 2 ^ 4))

  pub least_pair_same : least_pair p ≡ least_pair q
  unfolding least_pair
  least_pair_same = ap pairs_of least_same

  pub extra_same : extra p ≡ extra q
  unfolding extra
  extra_same = λ i. redundant_same i ∪ (mask_ext 52 (is_visible p) (is_visible q) (λ c l. (visible_same p q e) c) i ∩ (next_mask_same p q e) i ∩ (least_pair_same i * 2 ^ 4))

  pub unstack_same : (s : ℕ) → suit_unstack p s ≡ suit_unstack q s
  unfolding suit_unstack
  unstack_same s = ap (λ (m : ℕ). not (any_of 52 (λ c. bit m c && eqb (suit c) s))) extra_same

  pub filter_same : suit_filter p ≡ suit_filter q
  unfolding suit_filter
  filter_same = mask_ext 64 (λ c. suit_unstack p (partner (suit c))) (λ c. suit_unstack q (partner (suit c))) (λ c l. unstack_same (partner (suit c)))

  pub triple_same : triple_stackable p ≡ triple_stackable q
  unfolding triple_stackable
  triple_same =
      ap₂ (λ (f m : ℕ). mask_of 52 (λ c. ltb (c % 4) 2 && bit (pairs_of f) c && bit m (c + 2)))
      (mask_ext 52 (λ d. is_free p d && is_next p d) (λ d. is_free q d && is_next q d) (λ d l. ap₂ (λ (a b : Bool). a && b) ((free_same p q e pp qq) d l) ((next_same p q e) d)))
      least_pair_same

  pub when_least_same : when_least p ≡ when_least q
  unfolding when_least
  when_least_same =
      ap₂ (λ (x y : Masks). cond ((suit_unstack p 0 || suit_unstack p 1) && (suit_unstack p 2 || suit_unstack p 3)) x y)
      (chosen_same (stack_pile_first p ∩ suit_filter p ∩ (least p - 1) ∖ triple_stackable p) (least p) 0 (cond (ltb 0 ((least_pair p * 2 ^ 2) ∩ redundant p)) 0 (least_pair p / 2 ^ 4)))
      (chosen_same 0 (least p) 0 0)
      ∙ (λ i.
      cond ((unstack_same 0 i || unstack_same 1 i) && (unstack_same 2 i || unstack_same 3 i))
      (chosen q (first_same i ∩ filter_same i ∩ (least_same i - 1) ∖ triple_same i) (least_same i) 0 (cond (ltb 0 ((least_pair_same i * 2 ^ 2) ∩ redundant_same i)) 0 (least_pair_same i / 2 ^ 4)))
      (chosen q 0 (least_same i) 0 0))

  pub pruned_same : pruned p ≡ pruned q
  unfolding pruned
  pruned_same =
      λ i.
      cond (ltb 0 (pile_stack_dom_same i)) (only_pile_stack (lowest (pile_stack_dom_same i)))
      (cond (leb 3 (size (redundant_same i))) (only_pile_stack (least_same i))
      (cond (ltb 0 ((forced_same p q e) i)) (only_deck_stack ((forced_same p q e) i))
      (cond (eqb (least_same i) 0) (none_same i)
      (cond (ltb 0 (whole_pairs_of ((unpruned_same p q e pp qq) i).pile_stack)) (paired_same i)
      (when_least_same i)))))

  pub for_same : (asked : Bool) → masks_for asked p ≡ masks_for asked q
  unfolding masks_for
  for_same true = pruned_same
  for_same false = (unpruned_same p q e pp qq)
