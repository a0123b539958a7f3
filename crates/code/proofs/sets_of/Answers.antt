-- `code::sets_of` meets its contract.
-- Assumes nothing.
use Rattle.std.proofs.Common.{◌≡◌, ◌∙◌}
use Rattle.rules.specs.Bits.{mask_of}
use Rattle.rules.specs.Places.{in_deck}
use Rattle.rules.specs.Foundations.{stacked_on}
use Rattle.rules.specs.Hidden.{buried_in, head_in}
use Rattle.proper.proofs.Sets.{cards_are}
use Rattle.code.specs.Resuming.{sets_of}
use Rattle.code.proofs.sets_of.Goals as goal

pub returns : goal.returns
unfolding sets_of stacked_on in_deck buried_in head_in
returns c =
    let p = c.args.p in
    let d : c.cards_from.result ≡ mask_of 52 (in_deck p) = c.cards_from.ensures ∙ cards_are p.deck p.left c.requires.deck in
    cc (c.foundation_mask.ensures, d, c.buried_mask.ensures, c.head_mask.ensures)
