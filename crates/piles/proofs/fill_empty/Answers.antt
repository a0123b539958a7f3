-- `piles::fill_empty` meets its contract.
-- Assumes nothing.
use Rattle.std.proofs.Common.{◌≡◌, ◌∙◌, ◌+◌, ◌∷◌, [], rules}
use Rattle.piles.specs.Run.{kings_of}
use Rattle.piles.proofs.Kings.{kings_end, kings_step}
use Rattle.piles.proofs.fill_empty.Goals as goal

pub returns-then-has : goal.returns-then-has
returns-then-has c =
    let l = c.loop-s in
    let e : kings_of c.args.free c.args.from ≡ (48 + l.s) ∷ kings_of c.args.free (l.s + 1) = l.invariant ∙ kings_step c.args.free l.s c.loop-s-test.true ∙ rw (← c.has.ensures, c.if-has.true) in
    (rw e c.fill_run.ensures.0, rw e, rw e c.fill_run.ensures.1)

pub loop-s-preserved : goal.loop-s-preserved
loop-s-preserved c =
    let l = c.loop-s in
    l.invariant ∙ kings_step c.args.free l.s c.loop-s-test.true ∙ rw (← c.has.ensures, c.if-has.false)

pub returns : goal.returns
returns c =
    let e : kings_of c.args.free c.args.from ≡ [] = c.loop-s.invariant ∙ kings_end c.args.free c.loop-s.s c.loop-s-test.false in
    (rw e, rw e (kings_end _ 4 (search rules)), rw e (search rules))
