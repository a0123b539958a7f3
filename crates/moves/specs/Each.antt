-- One operation on two groups of masks, mask by mask: what is told of it as a relation, the `mask_by_mask` of crate `rules` as a function.
use Rattle.std.specs.Prelude.{ℕ}
use Rattle.rules.specs.declared.Masks.{Masks}

-- R holds of each mask of m, that of n and that of x
abbrev pub EachMask : (ℕ → ℕ → ℕ → Type 0) → Masks → Masks → Masks → Type 0
EachMask R m n x =
    R m.reveal n.reveal x.reveal
    × R m.pile_stack n.pile_stack x.pile_stack
    × R m.deck_pile n.deck_pile x.deck_pile
    × R m.deck_stack n.deck_stack x.deck_stack
    × R m.stack_pile n.stack_pile x.stack_pile
