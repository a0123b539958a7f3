-- What the arrays of a position show: the sets of "The position" as masks.
use Rattle.std.specs.Prelude.{Option, Some, None, true, false, ◌&&◌, List, [], ◌∷◌, ◌≡◌, ℕ, take, drop}
use Rattle.rules.specs.Bits.{cons_if, bit, mask_of, same_list}
use Rattle.rules.specs.Hidden.{cards_from, buried_in, head_in}
use Rattle.rules.specs.Proper.{are_cards, are_different}
use Rattle.proper.specs.declared.PositionSets.{PositionSets}

-- those of a list that a mask has
unfoldable pub picked : ℕ → List ℕ → List ℕ
picked m [] = []
picked m (y ∷ ys) = cons_if (bit m y) y (picked m ys)

-- a list is a deal
abbrev pub IsDeal : List ℕ → Type 0
IsDeal d = (are_cards d && are_different d) ≡ true

-- what the deal d, the counts n and the deck k with so many cards left show
pub record Shown (d n k : List ℕ) (left : ℕ) (s : PositionSets) : Type 0 where
  pub deal : IsDeal d
  pub deck : same_list (take left k) (picked (cards_from k 0 left) (take 24 (drop 28 d))) ≡ true
  pub drawn : s.drawn ≡ cards_from k 0 left
  pub buried : s.buried ≡ mask_of 52 (buried_in d n)
  pub heads : s.heads ≡ mask_of 52 (head_in d n)

-- nothing where d is no deal, or the deck does not follow it
abbrev pub SetsOf : List ℕ → List ℕ → List ℕ → ℕ → Option PositionSets → Type 0
SetsOf d n k left None = IsDeal d → same_list (take left k) (picked (cards_from k 0 left) (take 24 (drop 28 d))) ≡ false
SetsOf d n k left (Some s) = Shown d n k left s
