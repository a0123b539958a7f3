-- What an arrangement of the visible cards in seven columns is, as a tester sees one.
use Rattle.std.specs.Prelude.{true, false, ◌⊎◌, ◌≡◌, List, [], ◌∷◌, ℕ, ◌+◌, ◌<◌, length, get_or}
use Rattle.rules.specs.declared.Position.{Position}
use Rattle.rules.specs.Bits.{num, times}
use Rattle.rules.specs.Cards.{lies_on, is_king}
use Rattle.rules.specs.Places.{has_head, head, is_visible, is_free}

-- how often c stands in the columns
unfoldable pub times_in : ℕ → List (List ℕ) → ℕ
times_in c [] = 0
times_in c (r ∷ rs) = times c r + times_in c rs

-- "A card lies on either card of the pair four higher, and on no other card": each next card lies on the one before it
abbrev pub Chain : List ℕ → Type 0
Chain [] = Unit
Chain (a ∷ []) = Unit
Chain (a ∷ b ∷ l) = (lies_on b a ≡ true) × Chain (b ∷ l)

-- the column has a first card, and that has P
abbrev pub Starts : (ℕ → Type 0) → List ℕ → Type 0
Starts P [] = ⊥
Starts P (a ∷ l) = P a

unfoldable pub column : List (List ℕ) → ℕ → List ℕ
column cols i = get_or cols i []

-- "free kings"
abbrev pub FreeKing : Position → ℕ → Type 0
FreeKing p c = (is_king c ≡ true) × (is_free p c ≡ true)

-- the columns are an arrangement of the visible cards of p
pub record Arrangement (p : Position) (cols : List (List ℕ)) : Type 0 where
  -- "Seven lengths come back": one column for each pile
  pub seven : length cols ≡ 7
  -- "a pile with a head starts there"
  pub heads : (i : ℕ) → i < 7 → has_head p i ≡ true → Starts (λ c. c ≡ head p i) (column cols i)
  -- "other piles take free kings": they start with one, or are empty
  pub others : (i : ℕ) → i < 7 → has_head p i ≡ false → (column cols i ≡ []) ⊎ Starts (FreeKing p) (column cols i)
  -- "A card lies on either card of the pair four higher, and on no other card"
  pub chains : (i : ℕ) → i < 7 → Chain (column cols i)
  -- "Every visible card is shown exactly once", and no other card
  pub once : (c : ℕ) → times_in c cols ≡ num (is_visible p c)
