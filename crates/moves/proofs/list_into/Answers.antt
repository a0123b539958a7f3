-- Each group is written behind those before it, and they all fit.
use Rattle.std.proofs.Common.{arith}
use Rattle.rules.specs.Legal.{listing}
use Rattle.moves.proofs.Writes.{none, more, all_written, too_short_lem}
use Rattle.moves.proofs.list_into.Goals as goal

pub returns-then-out-len : goal.returns-then-out-len
returns-then-out-len c = too_short_lem c.args.m c.requires c.args.out.now (omega arith)

pub returns : goal.returns
unfolding listing
returns c =
    let m = c.args.m in
    let o = c.args.out.now in
    let w1 = more 4 m.reveal c.fill-a.new.out c.fill-a.result c.requires.reveal (none o) c.fill-a.ensures in
    let w2 = more 1 m.pile_stack c.fill-b.new.out c.fill-b.result c.requires.pile_stack w1 c.fill-b.ensures in
    let w3 = more 2 m.deck_pile c.fill-c.new.out c.fill-c.result c.requires.deck_pile w2 c.fill-c.ensures in
    let w4 = more 0 m.deck_stack c.fill-d.new.out c.fill-d.result c.requires.deck_stack w3 c.fill-d.ensures in
    let w5 = more 3 m.stack_pile c.fill.new.out c.fill.result c.requires.stack_pile w4 c.fill.ensures in
    all_written m c.requires o _ _ (omega arith) w5
