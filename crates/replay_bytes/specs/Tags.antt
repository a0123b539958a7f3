-- The tags by their numbers.
use Rattle.std.specs.Prelude.{ℕ, ◌≡◌, ◌<◌, ◌≤◌, Result, MatchResult}
use Rattle.replay_bytes.specs.declared.tag.Tag.{Tag}
use Rattle.replay_bytes.specs.declared.tag.Tag.TheVariants.{Deal, Resume, Move, Undo, Masks, Listing, Piles, View, Tests, Finds, Offsets, Ladder, Cursors, Set}
use Rattle.replay_bytes.specs.declared.tag.NoTag.{NoTag}

abbrev pub number : Tag → ℕ
number Deal = 1
number Resume = 2
number Move = 3
number Undo = 4
number Masks = 5
number Listing = 6
number Piles = 7
number View = 8
number Tests = 9
number Finds = 10
number Offsets = 11
number Ladder = 12
number Cursors = 13
number Set = 14

-- the tag of a byte, and none only where the byte is not 1 to 14
abbrev pub IsTagOf : ℕ → Result Tag NoTag → Type 0
IsTagOf byte r = MatchResult r (λ t. number t ≡ byte) (λ _. 1 ≤ byte → 14 < byte)
