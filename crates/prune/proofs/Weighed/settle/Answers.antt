-- `prune::Weighed::settle` meets its contract.
-- Assumes nothing.
use Rattle.std.proofs.Common.{◌≡◌, ℕ, ◌<◌, ◌≤◌, Bool, true, false, cond, eqb, ltb, bit_and, refl, sym, ap₂, ◌∙◌, subst}
use borrow.Author.Tests.{eq-eqb, ne_eqb, lt-ltb, le-ltb}
use Rattle.rules.specs.Legal.{unpruned}
use Rattle.rules.specs.Pruned.{chosen, deck_mask, next_mask, whole_pairs_of, when_none, when_paired, when_least}
use Rattle.rules.proofs.Sets.{and_is}
use Rattle.prune.specs.declared.Weighed.{Weighed}
use Rattle.prune.specs.Weigh.{settled}
use Rattle.prune.proofs.Ending.{deck_small}
use Rattle.prune.proofs.Weighed.settle.Goals as goal

-- the three ends
ends : (w : Weighed) (b d : Bool) → eqb w.least 0 ≡ b → ltb 0 (whole_pairs_of w.ps) ≡ d → settled w.p.position ≡ cond b (when_none w.p.position) (cond d (when_paired w.p.position) (when_least w.p.position))
unfolding settled unpruned
ends w b d f g = rw (← w.least_is, ← w.ps_is, f, g)

pub returns-then-self-eq0 : goal.returns-then-self-eq0
unfolding when_none unpruned
returns-then-self-eq0 c =
    let w = c.args.self.now in
    let p = w.p.position in
    c.chosen.ensures
    ∙ ap₂ (λ (x y : ℕ). chosen p x w.ps (bit_and w.dm w.sm) y) c.stack_pile_first-first.ensures c.room_mask-room.ensures
    ∙ rw (w.ps_is, w.dm_is, w.sm_is, and_is (deck_mask p) (next_mask p) (deck_small p w.p.good))
    (sym (ends w true (ltb 0 (whole_pairs_of w.ps)) (eq-eqb w.least 0 c.if-self-eq0.true) refl))

pub returns-then-whole-gt0 : goal.returns-then-whole-gt0
unfolding when_paired unpruned
returns-then-whole-gt0 c =
    let w = c.args.self.now in
    let h = c.whole_pairs-whole.ensures in
    c.chosen-then-whole-gt0.ensures
    ∙ rw (h, w.ps_is)
    (sym (ends w false true (ne_eqb w.least 0 c.if-self-eq0.false) (lt-ltb 0 (whole_pairs_of w.ps) (subst (λ (x : ℕ). 0 < x) h c.if-whole-gt0.true))))

pub returns-else-whole-gt0 : goal.returns-else-whole-gt0
returns-else-whole-gt0 c =
    let w = c.args.self.now in
    let h = c.whole_pairs-whole.ensures in
    c.when_least.ensures
    ∙ sym (ends w false false (ne_eqb w.least 0 c.if-self-eq0.false) (le-ltb 0 (whole_pairs_of w.ps) (subst (λ (x : ℕ). x ≤ 0) h c.if-whole-gt0.false)))
