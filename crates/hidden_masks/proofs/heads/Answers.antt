-- `hidden_masks::heads` meets its contract.
-- Assumes nothing.
use mathlib.Core.Path.{ap₂, ◌∙◌}
use lib.Bits.{bit_and}
use lib.Dec.{lit≤}
use Rattle.bits.proofs.Algebra.{and_masks}
use Rattle.bits.proofs.Laws.{mask_ext}
use Rattle.bits.proofs.Tables.{T_true}
use Rattle.rules.specs.Hidden.{head_in, base_in}
use Rattle.rules.specs.Places.{alone}
use Rattle.rules.specs.Proper.{proper}
use Rattle.rules.proofs.Facts.{facts}
use Rattle.rules.proofs.HeadPlaces.{head_base}
use Rattle.rules.proofs.ProperLaw.{sound}
use Rattle.hidden_masks.proofs.heads.Goals as goal

pub head_mask-all-requires : goal.head_mask-all-requires
head_mask-all-requires c = let f = facts c.args.p.position c.args.p.good in record { cards_fit = f.cards; counts_fit = f.counts }

pub base_mask-requires : goal.base_mask-requires
base_mask-requires c = (facts c.args.p.position c.args.p.good).cards

pub returns : goal.returns
returns c =
    let p = c.args.p.position in
    let h = c.head_mask-all.ensures in (
      h,
      ap₂ bit_and h c.base_mask.ensures ∙ and_masks 52 52 (head_in p.deal p.counts) (base_in p.deal) (lit≤ tt)
          ∙ mask_ext 52 _ (alone p) (λ x l. head_base p (sound p (T_true (proper p) c.args.p.good)) x),
    )
