-- `legal::masks` meets its contract.
-- Assumes nothing.
use Rattle.std.proofs.Common.{ℕ, ◌/◌, ap, ◌∙◌}
use Rattle.bits.specs.Bit.{bit, mask_of}
use Rattle.card.specs.Methods.{twin}
use Rattle.rules.specs.Dealing.{available}
use Rattle.rules.specs.Legal.{has_room}
use Rattle.legal.specs.declared.Sight.{Sight}
use Rattle.legal.specs.Sight.{sight}
use Rattle.legal.proofs.Unpruned.{code, code_is}
use Rattle.legal.proofs.masks.Goals as goal

pub room_mask-free_slot-requires : goal.room_mask-free_slot-requires
unfolding sight
room_mask-free_slot-requires c = (ap (λ (s : Sight). s.locked) c.look-s.ensures, ap (λ (s : Sight). s.bm) c.look-s.ensures)

pub returns : goal.returns
unfolding code sight
returns c =
    let p = c.args.p.position in
    let e = c.look-s.ensures in
    let room = c.room_mask-free_slot in
    let deck = c.compute_mask-deck_mask in
    let swapped = c.swap_pair in
    ap (λ (s : Sight). code s room.result deck.result swapped.result) e
    ∙ ap (λ (r : ℕ). code (sight p) r deck.result swapped.result) room.ensures
    ∙ ap (λ (d : ℕ). code (sight p) (mask_of 52 (has_room p)) d swapped.result) deck.ensures
    ∙ ap (λ (w : ℕ). code (sight p) (mask_of 52 (has_room p)) (mask_of 52 (available p)) w) (swapped.ensures ∙ ap (λ (s : Sight). mask_of 64 (λ j. bit (s.sm / 16) (twin j))) e)
    ∙ code_is p c.args.p.good
