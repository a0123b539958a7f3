-- `legal::swap_pair` meets its contract.
-- Assumes nothing.
use Rattle.bits.specs.Bit.{bit}
use Rattle.bits.proofs.Blast.{Exp, ask, leaf, var, con, and, or, shl, shr, env1, blast_mask}
use Rattle.card.specs.Methods.{twin}
use Rattle.legal.proofs.swap_pair.Goals as goal

abbrev code : Exp
code = or (and (shr 2 (var 0)) (con 0x3333_3333_3333_3333)) (shl 2 (and (var 0) (con 0x3333_3333_3333_3333)))

pub returns : goal.returns
unfolding bit twin
returns c = blast_mask 64 64 tt tt code tt (λ k. ask 0 (twin k) leaf) tt (env1 c.args.a) (λ i. c.ranges.a.fits)
