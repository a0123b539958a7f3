-- The deals to the end, and past it what whole rounds leave.
use Rattle.std.proofs.Common.{ℕ, ◌+◌, ◌-◌, ◌*◌, ◌%◌, ◌≤◌, ◌<◌, min, sym, ap₂, ◌∙◌, subst}
use Rattle.deck_cursor.proofs.Rounds.{to_end, past_end}
use Rattle.deck_cursor.proofs.offset.Goals as goal

pub returns-then-n-to_end : goal.returns-then-n-to_end
returns-then-n-to_end c =
    let a = c.args in
    c.min.ensures ∙ sym (to_end a.len a.step c.requires.1 a.n a.cur c.requires.3 (subst (λ (t : ℕ). a.n ≤ t) c.div_ceil-to_end.ensures c.if-n-to_end.true))

pub returns-else-n-to_end : goal.returns-else-n-to_end
returns-else-n-to_end c =
    let a = c.args in
    c.min-else-n-to_end.ensures
    ∙ ap₂ (λ (t w : ℕ). min (a.step * ((a.n - t - 1) % (w + 1))) a.len) c.div_ceil-to_end.ensures c.div_ceil-round.ensures
    ∙ sym (past_end a.len a.step c.requires.1 a.n a.cur c.requires.3 (subst (λ (t : ℕ). t < a.n) c.div_ceil-to_end.ensures c.if-n-to_end.false))
