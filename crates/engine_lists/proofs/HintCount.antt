-- The moves that a hint lists: cards alone, so that the listing is as long as the masks have bits.
-- Assumes nothing.
use mathlib.Core.Bool.{Bool, true, false, cond}
use mathlib.Core.Path.{◌≡◌, refl, sym, ap, ◌∙◌, subst}
use mathlib.Core.List.{[]}
use Prim.Native.Nat.{ℕ, ◌≤◌}
use lib.Dec.{T, ltb}
use borrow.Author.Tests.{le-ltb}
use lib.ListN.{length}
use Rattle.rules.specs.declared.Position.{Position}
use Rattle.rules.specs.declared.Masks.{Masks}
use Rattle.rules.specs.Proper.{proper}
use Rattle.rules.specs.Legal.{listing}
use Rattle.rules.specs.Moves.{CardMasks, move_count, fitting}
use Rattle.rules.specs.Answers.{masks_for}
use Rattle.rules.proofs.Shape.{Shape}
use Rattle.rules.proofs.MoveMasks.{unpruned_cards, pruned_cards}
use Rattle.rules.proofs.ListingLaw.{listing_length}

module _ (p : Position) (s : Shape p) (t : T (proper p)) where
  cards : (asked : Bool) → CardMasks (masks_for asked p)
  unfolding masks_for
  cards true = pruned_cards p (record { deal = s.deal; counts = s.counts; heights = s.heights; deck = s.deck }) t
  cards false = unpruned_cards p

  module _ {m : Masks} (asked : Bool) (e : m ≡ masks_for asked p) where
    pub hint_cards : CardMasks m
    hint_cards = subst CardMasks (sym e) (cards asked)

    -- how long the listing is, as the code counts it
    pub hint_count : {n : ℕ} → n ≡ move_count m → length (listing (masks_for asked p)) ≡ n
    hint_count c = listing_length (masks_for asked p) (cards asked) ∙ sym (c ∙ ap move_count e)

    -- and what a buffer with that many slots gets
    pub hint_fits : {n room : ℕ} → n ≡ move_count m → n ≤ room → fitting m room ≡ listing (masks_for asked p)
    unfolding fitting
    hint_fits {n} {room} c h =
        ap (λ (x : Masks). cond (ltb room (length (listing x))) [] (listing x)) e
        ∙ rw (hint_count c, le-ltb room n h) refl
