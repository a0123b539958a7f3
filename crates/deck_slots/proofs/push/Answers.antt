-- The cards in front of the place, the card, and those from the place on copied after it.
use Rattle.std.proofs.Common.{◌≡◌, List, [], ◌∷◌, ◌++◌, ℕ, ◌+◌, ◌-◌, ap, ◌∙◌, length, take, drop, set, length-append, arith}
use Rattle.std.proofs.Math.Seq.{paste, length-take-le, append_snoc}
use Rattle.rules.specs.Play.{slots}
use Rattle.deck_slots.proofs.Slots.{copied, put, behind}
use Rattle.deck_slots.proofs.push.Goals as goal

pub returns : goal.returns
returns c =
    let a = c.args in
    let ys : List ℕ = take a.place a.deck in
    let long : length ys ≡ a.place = length-take-le a.place a.deck (omega arith) in
    let n : ℕ = a.left - a.place in
    let up : List ℕ → List ℕ = λ s. paste s (a.place + 1) (drop a.place a.deck) n in
    c.copy.ensures ∙ ap (λ (s : List ℕ). up (set s a.place a.card)) c.cards-out.ensures ∙ ap up (put ys a.place a.card long (omega arith))
    ∙ copied (ys ++ (a.card ∷ [])) a.deck a.place (a.place + 1) n (length-append ys (a.card ∷ []) ∙ omega (arith, long)) (omega arith) (omega arith)
    ∙ ap slots (append_snoc ys a.card (take n (drop a.place a.deck)) ∙ ap (λ (r : List ℕ). ys ++ a.card ∷ r) (behind a.deck a.place a.left (omega arith) (omega arith)))
