use Rattle.std.proofs.Common.{arith}
use Rattle.rules.specs.Show.{masks_text}
use Rattle.show.proofs.Lines.{Wrote, line, then}
use Rattle.show.proofs.mask_lines.Goals as goal

pub returns : goal.returns
unfolding masks_text
returns c =
    let m = c.args.m in
    let h1 = c.hex_line-a in
    let h2 = c.hex_line-b in
    let h3 = c.hex_line-c in
    let h4 = c.hex_line-d in
    let h5 = c.hex_line in
    let w : Wrote c.args.out.now c.args.at h5.new.out h5.result (masks_text m) =
    then
    (then (then (then (line m.reveal h1.new.out h1.result h1.ensures) (line m.pile_stack h2.new.out h2.result h2.ensures)) (line m.deck_pile h3.new.out h3.result h3.ensures)) (line m.deck_stack h4.new.out h4.result h4.ensures))
    (line m.stack_pile h5.new.out h5.result h5.ensures) in
    (omega arith, w.over)
