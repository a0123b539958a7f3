-- What holding a judged position tells: the lengths of its arrays and the ranges of its numbers, and that each deck card left is a card.
use Prim.Native.Nat.{ℕ, ◌<◌}
use mathlib.Core.List.{List}
use lib.ListN.{get_or}
use mir.Val.{Val}
use denote.Laws.{Is}
use denote.Struct.Laws as LL
use Rattle.rules.specs.declared.Judged.{Judged}
use Rattle.rules.specs.contracts.Judged as T
use Rattle.rules.proofs.Judged.TheLaws as T'
use Rattle.rules.proofs.Shape.{Shape, shape, deck_cards}

pub held : (p : Judged) (vs : List Val) → Is T.the_row p vs → Shape p.position
held p vs g = shape p.position _ (LL.owed T.the_type T'.the_laws p vs g).0

pub held_cards : (p : Judged) (vs : List Val) → Is T.the_row p vs → (k : ℕ) → k < p.position.left → get_or p.position.deck k 0 < 52
held_cards p vs g = deck_cards p.position _ (LL.owed T.the_type T'.the_laws p vs g).0 p.good
