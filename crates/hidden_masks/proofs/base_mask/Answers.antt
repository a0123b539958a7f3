-- `hidden_masks::base_mask` meets its contract.
-- Assumes nothing.
use mathlib.Core.Bool.{true}
use mathlib.Core.Path.{◌≡◌, refl, ◌∙◌}
use mathlib.Core.List.{List}
use Prim.Native.Nat.{ℕ, ◌+◌, ◌≤◌, ◌<◌}
use lib.Dec.{leb}
use lib.ListN.{replicate}
use borrow.Author.Tests.{leb-true}
use Rattle.bits.proofs.Laws.{mask_ext}
use Rattle.rules.specs.Bits.{all_of, any_of}
use Rattle.rules.specs.Hidden.{head_in, base_in}
use Rattle.bits.proofs.Searches.{all_yes}
use Rattle.hidden_masks.proofs.base_mask.Goals as goal

-- counts that are given in numbers: their ranges are computed, so that this says nothing of which numbers they are
fit : (n : ℕ → ℕ) → all_of 7 (λ i. leb (n i) (i + 1)) ≡ true → (i : ℕ) → i < 7 → n i ≤ i + 1
fit n e i l = leb-true (n i) (i + 1) (all_yes 7 (λ j. leb (n j) (j + 1)) e i l)

-- the head of a pile with one locked card is its base
heads-of-one : (d : List ℕ) (c : ℕ) → head_in d (replicate 7 1) c ≡ base_in d c
unfolding head_in base_in any_of
heads-of-one d c = refl

pub returns : goal.returns
returns c = c.head_mask.ensures ∙ mask_ext 52 _ _ (λ x l. heads-of-one c.args.deal.now x)
