-- Every number stays in its range, for each change that a move is made of. Assumes nothing.
use mathlib.Core.Bool.{true}
use mathlib.Core.Path.{◌≡◌, sym, subst}
use Prim.Native.Nat.{ℕ, ◌+◌, ◌-◌, ◌≤◌, ◌<◌}
use native.Mathlib.Omega.{arith}
use lib.ListN.{length, set}
use borrow.Author.Tests.{eqb-true}
use Rattle.rules.specs.declared.Position.{Position}
use Rattle.rules.specs.Cards.{rank, suit}
use Rattle.rules.specs.Places.{count, height, in_deck}
use Rattle.rules.specs.Foundations.{raised_on, lowered_on}
use Rattle.rules.specs.Proper.{deal_right}
use Rattle.rules.specs.Legal.{next_on, is_next, is_top}
use Rattle.rules.specs.Play.{raised, lowered, laid, lifted, drawn, uncovered}
use Rattle.rules.specs.Fields.{with_counts}
use Rattle.rules.proofs.ProperLaw.{Fits}
use Rattle.rules.proofs.ProperMade.{Numbers, with_counts_lem, with_heights_lem, with_deck_lem, with_visible_lem}
use Rattle.facts.proofs.Foundation.{put, put_fits, rank_low}
use Rattle.facts.proofs.Shows.{laid_low, lifted_low}
use Rattle.facts.proofs.Deck.{drawn_left, drawn_offset}
use Rattle.facts.proofs.Turned.{fewer_fits}
use Rattle.facts.proofs.TurnedFields.{uncovered_stays, uncovered_fewer, uncovered_low}

module _ (p : Position) (c : ℕ) (lc : c < 52) (n : Numbers p) where
  put_numbers : length p.heights ≡ 4 → (h : ℕ) → h ≤ 13 → Numbers (put p c h)
  unfolding put
  put_numbers e h l = with_heights_lem p n _ (put_fits p c h lc e l n.heights)

  pub raised_numbers : length p.heights ≡ 4 → is_next p c ≡ true → Numbers (raised p c)
  unfolding raised put is_next next_on raised_on
  raised_numbers e t = put_numbers e (height p (suit c) + 1) (omega (arith, rank_low c lc, eqb-true (rank c) (height p (suit c)) t))

  pub lowered_numbers : length p.heights ≡ 4 → is_top p c ≡ true → Numbers (lowered p c)
  unfolding lowered put is_top lowered_on
  lowered_numbers e t = put_numbers e (height p (suit c) - 1) (omega (arith, rank_low c lc, eqb-true (rank c + 1) (height p (suit c)) t))

  pub laid_numbers : Numbers (laid p c)
  unfolding laid
  laid_numbers = with_visible_lem p n _ (laid_low p c n.visible lc)

  pub lifted_numbers : Numbers (lifted p c)
  unfolding lifted
  lifted_numbers = with_visible_lem p n _ (lifted_low p c n.visible)

  pub drawn_numbers : length p.deck ≡ 24 → in_deck p c ≡ true → Numbers (drawn p c)
  unfolding drawn
  drawn_numbers e h = with_deck_lem p n _ _ _ (drawn_left p c e n.left h) (drawn_offset p c e n.left h)

pub uncovered_numbers : (p : Position) (i : ℕ) → Numbers p → deal_right p ≡ true → length p.counts ≡ 7 → i < 7 → 0 < count p i → Numbers (uncovered p i)
uncovered_numbers p i n d e l h =
    subst Numbers (sym (uncovered_stays p i).whole)
    (with_visible_lem (with_counts p (set p.counts i (count p i - 1))) (with_counts_lem p n (set p.counts i (count p i - 1)) fewer) (uncovered p i).visible (uncovered_low p i d n.counts l n.visible))
  where
    fewer : Fits (with_counts p (set p.counts i (count p i - 1)))
    fewer = subst Fits (uncovered_stays p i).whole (fewer_fits p (uncovered p i) i d n.counts l h (uncovered_fewer p i l e))
