-- What making a move gives, and when going back over one is possible at all.
use Rattle.std.specs.Prelude.{Bool, true, ◌||◌, ◌⊎◌, ◌≡◌, ℕ, eqb, ltb}
use Rattle.rules.specs.declared.Position.{Position}
use Rattle.rules.specs.Hidden.{bare_pile}
use Rattle.rules.specs.Legal.{by_kind}
use Rattle.rules.specs.Play.{uncovered, under, after, undo_byte, turned_up}
use Rattle.play.specs.declared.Made.{Made}

-- the kinds whose card comes from the deck
abbrev pub OfDeck : ℕ → Type 0
OfDeck kind = (kind ≡ 0) ⊎ (kind ≡ 2)

-- a move's position, byte and turned-up card
unfoldable pub made : Position → ℕ → ℕ → Made
made p kind c = record { position = after p kind c; byte = undo_byte p kind c; turned = turned_up p kind c }

-- the pile's head has left it: what that turned up, and the byte that is written for it
unfoldable pub turned_at : Position → ℕ → ℕ → Made
turned_at p i byte = record { position = uncovered p i; byte = byte; turned = under p i }

-- a head left some pile just above its locked cards
unfoldable pub left_pile : Position → ℕ → Bool
left_pile p c = ltb (bare_pile p.deal p.counts c) 7

-- there is a place for the card to go back to: one more card fits into the deck; the pile that a head left
unfoldable pub has_way : Position → ℕ → ℕ → ℕ → Bool
has_way p byte kind c = by_kind kind (ltb p.left 24) (eqb byte 0 || left_pile p c) (ltb p.left 24) true (left_pile p c)
