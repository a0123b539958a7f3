-- The five masks of a position's moves, as sets of moves. Document 01, "Which moves are legal", the listing; source 005.
use Rattle.std.specs.Prelude.{Bool, ◌&&◌, cond, List, [], ◌++◌, ℕ, ◌+◌, ◌^◌, ◌<◌, eqb, ltb, length, drop}
use Rattle.rules.specs.declared.Masks.{Masks}
use Rattle.rules.specs.Bits.{mask_of, Within}
use Rattle.rules.specs.Legal.{by_kind, listing}
use Rattle.rules.specs.Pruned.{◌∪◌, ◌∖◌, size}

-- every mask has bits of cards alone
pub record CardMasks (m : Masks) : Type 0 where
  pub reveal : m.reveal < 2 ^ 52
  pub pile_stack : m.pile_stack < 2 ^ 52
  pub deck_pile : m.deck_pile < 2 ^ 52
  pub deck_stack : m.deck_stack < 2 ^ 52
  pub stack_pile : m.stack_pile < 2 ^ 52

-- every mask of m lies within that of n
abbrev pub AllWithin : Masks → Masks → Type 0
AllWithin m n =
    Within m.reveal n.reveal
    × Within m.pile_stack n.pile_stack
    × Within m.deck_pile n.deck_pile
    × Within m.deck_stack n.deck_stack
    × Within m.stack_pile n.stack_pile

-- the mask of a kind
unfoldable pub of_kind : Masks → ℕ → ℕ
of_kind m kind = by_kind kind m.deck_stack m.pile_stack m.deck_pile m.stack_pile m.reveal

-- `len`: how many moves
unfoldable pub move_count : Masks → ℕ
move_count m = size m.reveal + size m.pile_stack + size m.deck_pile + size m.deck_stack + size m.stack_pile

-- `is_empty`: no move
unfoldable pub no_moves : Masks → Bool
no_moves m = eqb m.reveal 0 && eqb m.pile_stack 0 && eqb m.deck_pile 0 && eqb m.deck_stack 0 && eqb m.stack_pile 0

-- `binary_op`: mask by mask
unfoldable pub mask_by_mask : (ℕ → ℕ → ℕ) → Masks → Masks → Masks
mask_by_mask f m n =
    record {
      reveal = f m.reveal n.reveal;
      pile_stack = f m.pile_stack n.pile_stack;
      deck_pile = f m.deck_pile n.deck_pile;
      deck_stack = f m.deck_stack n.deck_stack;
      stack_pile = f m.stack_pile n.stack_pile;
    }

-- `filter`: the moves of m that are none of n's; `combine`: the moves of either
unfoldable pub filtered : Masks → Masks → Masks
filtered m n = mask_by_mask ◌∖◌ m n

unfoldable pub combined : Masks → Masks → Masks
combined m n = mask_by_mask ◌∪◌ m n

-- `From<Move>`: one move alone
unfoldable pub one_move : ℕ → ℕ → Masks
one_move kind c =
    let one : ℕ = mask_of 64 (λ k. eqb k c) in
    record {
      reveal = by_kind kind 0 0 0 0 one;
      pile_stack = by_kind kind 0 one 0 0 0;
      deck_pile = by_kind kind 0 0 one 0 0;
      deck_stack = by_kind kind one 0 0 0 0;
      stack_pile = by_kind kind 0 0 0 one 0;
    }

-- "the move listing needs as many slots as moves": what a buffer of `room` slots gets
unfoldable pub fitting : Masks → ℕ → List ℕ
fitting m room = cond (ltb room (length (listing m))) [] (listing m)

-- the buffer with that in front; "later slots stay"
unfoldable pub listed_over : Masks → List ℕ → List ℕ
listed_over m buffer = fitting m (length buffer) ++ drop (length (fitting m (length buffer))) buffer
