use Rattle.std.proofs.Common.{refl, arith}
use lib.Seq.{drop-cons, sets-eq}
use Rattle.rules.specs.Show.{refused_line}
use Rattle.show.proofs.refused.Goals as goal

pub returns : goal.returns
unfolding refused_line
returns c =
    let o = c.args.out.now in
    (refl, rw (c.copy_from_slice.ensures.after, sets-eq (refused_line c.args.n) o 0 (omega arith), drop-cons o 8 0 (omega arith), drop-cons o 9 0 (omega arith)))
