-- The copy into bare slots.
use Rattle.std.proofs.Common.{◌≡◌, List, [], ℕ, refl, sym, ap, ◌∙◌, drop, arith}
use Rattle.std.proofs.Math.Seq.{paste}
use Rattle.rules.specs.Play.{slots}
use Rattle.deck_slots.proofs.Slots.{padded, copied}
use Rattle.deck_slots.proofs.cards.Goals as goal

pub returns : goal.returns
returns c =
    let a = c.args in
    let bare : ◌≡◌ {A = List ℕ} (slots []) _ = padded [] 0 refl (omega arith) in
    c.copy.ensures ∙ ap (λ (s : List ℕ). paste s 0 (drop 0 a.deck) a.left) (sym bare) ∙ copied [] a.deck 0 0 a.left refl (omega arith) (omega arith)
