-- The kinds of moves and the numbers that the history has for them. Document 01, "An entry is byte·512 + kind·64 + card".
use Rattle.std.specs.Prelude.{◌≡◌, ℕ, ◌<◌, Result, MatchResult}
use Rattle.rules.specs.Legal.{by_kind}
use Rattle.moves.specs.declared.kinds.Kind.{Kind}
use Rattle.moves.specs.declared.kinds.Kind.TheVariants.{DeckStack, PileStack, DeckPile, StackPile, Reveal}
use Rattle.moves.specs.declared.kinds.NoSuchKind.{NoSuchKind}

-- the number of a kind
abbrev pub kind_number : Kind → ℕ
kind_number DeckStack = 0
kind_number PileStack = 1
kind_number DeckPile = 2
kind_number StackPile = 3
kind_number Reveal = 4

-- the result is the kind with this number, or an error with a number that no kind has
abbrev pub Decodes : ℕ → Result Kind NoSuchKind → Type 0
Decodes number r = MatchResult r (λ kind. kind_number kind ≡ number) (λ e. (e.0 ≡ number) × (4 < number))

-- the kind that a number is taken for: Reveal above 4, as in `by_kind`
abbrev pub kind_of : ℕ → Kind
kind_of number = by_kind number DeckStack PileStack DeckPile StackPile Reveal
