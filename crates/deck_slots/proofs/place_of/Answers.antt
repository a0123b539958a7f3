-- What the chain finds is the first place of the card, and where it finds none, that place is the number of cards left.
use Rattle.std.proofs.Common.{◌≡◌, eqb, length, take, get_or, ap, ◌∙◌, unwrap_or, length-take-le, rules, arith}
use Rattle.std.proofs.lemmas.Iterator.{YieldsList-from_slice}
use Rattle.std.proofs.lemmas.Iterator.Search.{position_from_yields_List}
use borrow.Author.Tests.{tests}
use Rattle.bits.proofs.Searches.{first_le}
use Rattle.deck_slots.proofs.Slots.{found_first, found_or}
use Rattle.deck_slots.proofs.place_of.Goals as goal

pub returns : goal.returns
returns c =
    let a = c.args in
    let long : length (take a.left a.deck) ≡ a.left = length-take-le a.left a.deck (omega arith) in
    let found = position_from_yields_List (λ x. eqb x a.card) _ _ c.position-found.result c.position-found.ensures.ran (YieldsList-from_slice _ c.iter.ensures.rest) (λ x b q k. search (rules, tests)) in
    let first = found_first (λ x. eqb x a.card) a.left a.deck (omega arith) in
    c.unwrap_or.ensures ∙ ap (λ o. unwrap_or o a.left) found ∙ found_or _ a.left _ (omega (arith, first, first_le a.left (λ k. eqb (get_or a.deck k 0) a.card))) long ∙ first
