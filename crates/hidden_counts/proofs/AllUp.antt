-- What one pile says of all.
-- Assumes nothing.
use Rattle.std.proofs.Common.{◌≡◌, ℕ, ◌<◌, List, get_or, Bool, false}
use borrow.Author.Tests.{lt-leb}
use Rattle.bits.proofs.Steps.{no_all}
use Rattle.rules.specs.Hidden.{all_up}

-- a pile with more than its head has a buried card
pub not_all_up : (counts : List ℕ) (i : ℕ) → i < 7 → 1 < get_or counts i 0 → all_up counts ≡ false
unfolding all_up
not_all_up counts i h more = no_all 7 _ i h (lt-leb (get_or counts i 0) 1 more)
