-- `code::encode` meets its contract.
-- Assumes nothing.
use Rattle.bits.proofs.Tables.{T_true}
use Rattle.rules.specs.declared.Position.{Position}
use Rattle.std.proofs.Common.{T}
use Rattle.rules.specs.Proper.{proper}
use Rattle.rules.proofs.ProperLaw.{parts}
use Rattle.rules.proofs.ProperMade.{Numbers, numbers, step_low}
use Rattle.code.proofs.Parts.{code_is, gone_is}
use Rattle.code.proofs.encode.Goals as goal

ranges : (p : Position) → T (proper p) → Numbers p
ranges p h = numbers p (parts p (T_true (proper p) h)).numbers

pub foundation_mask-requires : goal.foundation_mask-requires
foundation_mask-requires c = (ranges _ c.args.p.good).heights

pub encode-requires-2 : goal.encode-requires-2
encode-requires-2 c = (ranges _ c.args.p.good).counts

pub encode-requires-3 : goal.encode-requires-3
encode-requires-3 c = gone_is c.args.p.position (ranges _ c.args.p.good) _ c.foundation_mask.ensures

pub normalized_offset-requires : goal.normalized_offset-requires
normalized_offset-requires c = step_low _ (ranges _ c.args.p.good).step

pub returns : goal.returns
returns c = code_is c.args.p.position (ranges _ c.args.p.good) _ _ _ _ c.encode.ensures c.encode-2.ensures c.encode-3.ensures c.normalized_offset.ensures
