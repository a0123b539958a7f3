-- What each kind of move makes, and what going back over one makes, by the steps of the code.
-- Assumes nothing.
use Rattle.std.proofs.Common.{◌≡◌, ℕ, Bool, true, false, Option, Some, None, cond, refl, sym, ◌∙◌, subst}
use Rattle.std.specs.Option.{is_some}
use mathlib.Core.Bool.{◌||◌}
use Rattle.std.proofs.lemmas.Option.{cond_some, none-some}
use native.Mathlib.Omega.{arith}
use lib.Dec.{T, ltb, eqb}
use Prim.Native.Nat.{◌<◌, ◌≤◌}
use borrow.Author.Tests.{eq-eqb, ne_eqb, ltb-true, ltb-false}
use Rattle.rules.specs.declared.Position.{Position}
use Rattle.rules.specs.declared.TurnedUp.TheVariants.{Nothing}
use Rattle.rules.specs.Hidden.{head_pile, bare_pile, under_in}
use Rattle.rules.specs.Legal.{legal}
use Rattle.rules.specs.Places.{is_head, in_deck, pile_of}
use Rattle.rules.specs.Proper.{proper}
use Rattle.rules.specs.Play.{raised, lowered, laid, lifted, drawn, put_back, uncovered, covered, under, deck_place, after, undo_byte, turned_up, before}
use Rattle.hidden.specs.PilePlace.{some_below}
use Rattle.moves.specs.declared.kinds.Kind.TheVariants.{DeckStack, PileStack, DeckPile, StackPile, Reveal}
use Rattle.moves.specs.Kind.{kind_of}
use Rattle.play.specs.Made.{made, left_pile, has_way}
pub use Rattle.play.proofs.Known.{counts_fit, deck_few, offset_fits, low_height}
use Rattle.play.proofs.Known.{head_some, head_at, no_head, bare_at, deck_stack_in, deck_pile_in, reveal_head, deck_stack_way, deck_pile_way, pile_stack_way, reveal_way}
use Rattle.play.proofs.Taken.{legal_taken, made_taken, way_taken, before_taken}

-- ---- a search below n ends with a number, or with none

found : (n k : ℕ) {i : ℕ} → Some i ≡ some_below n k → (i ≡ k) × (k < n)
found n k h = let e = cond_some (ltb k n) _ _ (sym h) in (sym e.1, ltb-true k n e.0)

missed : (n k : ℕ) → None ≡ some_below n k → n ≤ k
missed n k h = go (ltb k n) refl h
  where
    go : (b : Bool) → ltb k n ≡ b → None ≡ cond b (Some k) None → n ≤ k
    go true e j = absurd (none-some _ j)
    go false e j = ltb-false k n e

some_is : (n k : ℕ) → is_some (some_below n k) ≡ ltb k n
some_is n k = go (ltb k n)
  where
    go : (b : Bool) → is_some (cond b (Some k) None) ≡ b
    go true = refl
    go false = refl

module _ (p : Position) (c n : ℕ) where
  abbrev head : Option ℕ
  head = some_below 7 (head_pile p.deal p.counts c)

  abbrev bare : Option ℕ
  bare = some_below 7 (bare_pile p.deal p.counts c)

  -- ---- making a move

  pub deck_stack_there : DeckStack ≡ kind_of n → T (legal p n c) → T (in_deck p c)
  deck_stack_there k l = deck_stack_in p c (subst T (legal_taken p c n DeckStack k) l)

  pub deck_pile_there : DeckPile ≡ kind_of n → T (legal p n c) → T (in_deck p c)
  deck_pile_there k l = deck_pile_in p c (subst T (legal_taken p c n DeckPile k) l)

  pub made_deck_stack : DeckStack ≡ kind_of n → made p n c ≡ record { position = raised (drawn p c) c; byte = p.offset; turned = Nothing }
  unfolding made after undo_byte turned_up drawn raised deck_place
  made_deck_stack k = made_taken p c n DeckStack k

  pub made_deck_pile : DeckPile ≡ kind_of n → made p n c ≡ record { position = laid (drawn p c) c; byte = p.offset; turned = Nothing }
  unfolding made after undo_byte turned_up drawn laid deck_place
  made_deck_pile k = made_taken p c n DeckPile k

  pub made_stack_pile : StackPile ≡ kind_of n → made p n c ≡ record { position = laid (lowered p c) c; byte = 0; turned = Nothing }
  unfolding made after undo_byte turned_up
  made_stack_pile k = made_taken p c n StackPile k

  pub head_up : is_head p c ≡ true → made p 1 c ≡ record { position = uncovered (lifted (raised p c) c) (pile_of p c); byte = 1; turned = under (lifted (raised p c) c) (pile_of p c) }
  unfolding made after undo_byte turned_up under_in lifted raised
  head_up h = rw h refl

  pub made_head_up : T (proper p) → PileStack ≡ kind_of n → {i : ℕ} → Some i ≡ head → made p n c ≡ record { position = uncovered (lifted (raised p c) c) i; byte = 1; turned = under (lifted (raised p c) c) i }
  made_head_up t k h = let f = found 7 _ h in let w = head_at p t c f.1 in rw (f.0, w.0) (made_taken p c n PileStack k ∙ head_up w.1)

  pub card_up : is_head p c ≡ false → made p 1 c ≡ record { position = lifted (raised p c) c; byte = 0; turned = Nothing }
  unfolding made after undo_byte turned_up
  card_up h = rw h refl

  pub made_card_up : T (proper p) → PileStack ≡ kind_of n → None ≡ head → made p n c ≡ record { position = lifted (raised p c) c; byte = 0; turned = Nothing }
  made_card_up t k h = made_taken p c n PileStack k ∙ card_up (no_head p t c (missed 7 _ h))

  pub reveal : made p 4 c ≡ record { position = uncovered p (pile_of p c); byte = 0; turned = under p (pile_of p c) }
  unfolding made after undo_byte turned_up
  reveal = refl

  pub made_reveal : T (proper p) → Reveal ≡ kind_of n → {i : ℕ} → Some i ≡ head → made p n c ≡ record { position = uncovered p i; byte = 0; turned = under p i }
  made_reveal t k h = let f = found 7 _ h in rw (f.0, (head_at p t c f.1).0) (made_taken p c n Reveal k ∙ reveal)

  pub reveal_found : T (proper p) → Reveal ≡ kind_of n → T (legal p n c) → None ≡ head → ⊥
  reveal_found t k l h = let w = head_some p t c (reveal_head p c (subst T (legal_taken p c n Reveal k) l)) in omega (arith, missed 7 _ h, w)

  -- ---- a way back, and going back

  pub bare_some : is_some bare ≡ left_pile p c
  unfolding left_pile
  bare_some = some_is 7 _

  module _ (byte : ℕ) where
    pub way_deck_stack : DeckStack ≡ kind_of n → has_way p byte n c ≡ ltb p.left 24
    unfolding has_way
    way_deck_stack k = way_taken p c n DeckStack k byte

    pub way_deck_pile : DeckPile ≡ kind_of n → has_way p byte n c ≡ ltb p.left 24
    unfolding has_way
    way_deck_pile k = way_taken p c n DeckPile k byte

    pub way_pile_stack : PileStack ≡ kind_of n → has_way p byte n c ≡ (eqb byte 0 || left_pile p c)
    unfolding has_way
    way_pile_stack k = way_taken p c n PileStack k byte

    pub way_stack_pile : StackPile ≡ kind_of n → has_way p byte n c ≡ true
    unfolding has_way
    way_stack_pile k = way_taken p c n StackPile k byte

    pub way_reveal : Reveal ≡ kind_of n → has_way p byte n c ≡ left_pile p c
    unfolding has_way
    way_reveal k = way_taken p c n Reveal k byte

    pub deck_stack_room : DeckStack ≡ kind_of n → T (has_way p byte n c) → p.left < 24
    deck_stack_room k w = deck_stack_way p byte c (subst T (way_taken p c n DeckStack k byte) w)

    pub deck_pile_room : DeckPile ≡ kind_of n → T (has_way p byte n c) → p.left < 24
    deck_pile_room k w = deck_pile_way p byte c (subst T (way_taken p c n DeckPile k byte) w)

    pub back_deck_stack : DeckStack ≡ kind_of n → before p byte n c ≡ put_back (lowered p c) c byte
    unfolding before
    back_deck_stack k = before_taken p c n DeckStack k byte

    pub back_deck_pile : DeckPile ≡ kind_of n → before p byte n c ≡ put_back (lifted p c) c byte
    unfolding before
    back_deck_pile k = before_taken p c n DeckPile k byte

    pub back_stack_pile : StackPile ≡ kind_of n → before p byte n c ≡ raised (lifted p c) c
    unfolding before
    back_stack_pile k = before_taken p c n StackPile k byte

    card_back : eqb byte 0 ≡ true → before p byte 1 c ≡ laid (lowered p c) c
    unfolding before
    card_back h = rw h refl

    pub back_card : PileStack ≡ kind_of n → byte ≡ 0 → before p byte n c ≡ laid (lowered p c) c
    back_card k z = before_taken p c n PileStack k byte ∙ card_back (eq-eqb byte 0 z)

    head_back : eqb byte 0 ≡ false → before p byte 1 c ≡ covered (laid (lowered p c) c) (pile_of p c)
    unfolding before
    head_back h = rw h refl

    pub back_head : T (proper p) → PileStack ≡ kind_of n → (byte ≡ 0 → ⊥) → {i : ℕ} → Some i ≡ bare → before p byte n c ≡ covered (laid (lowered p c) c) i
    back_head t k z h = let f = found 7 _ h in rw (f.0, bare_at p t c f.1) (before_taken p c n PileStack k byte ∙ head_back (ne_eqb byte 0 z))

    pub back_reveal : T (proper p) → Reveal ≡ kind_of n → {i : ℕ} → Some i ≡ bare → before p byte n c ≡ covered p i
    unfolding before
    back_reveal t k h = let f = found 7 _ h in rw (f.0, bare_at p t c f.1) (before_taken p c n Reveal k byte)

    pub head_found : PileStack ≡ kind_of n → (byte ≡ 0 → ⊥) → T (has_way p byte n c) → None ≡ bare → ⊥
    head_found k z w h = let l = pile_stack_way p byte c (subst T (way_taken p c n PileStack k byte) w) z in omega (arith, missed 7 _ h, l)

    pub reveal_back_found : Reveal ≡ kind_of n → T (has_way p byte n c) → None ≡ bare → ⊥
    reveal_back_found k w h = let l = reveal_way p byte c (subst T (way_taken p c n Reveal k byte) w) in omega (arith, missed 7 _ h, l)

-- ---- what the three functions need

pub ruleset making = (counts_fit, deck_few, low_height, deck_stack_there, deck_pile_there, made_deck_stack, made_deck_pile, made_stack_pile, made_head_up, made_card_up, made_reveal, reveal_found)

pub ruleset ways = (counts_fit, bare_some, way_deck_stack, way_deck_pile, way_pile_stack, way_stack_pile, way_reveal)

pub ruleset going = (counts_fit, offset_fits, low_height, deck_stack_room, deck_pile_room, back_deck_stack, back_deck_pile, back_stack_pile, back_card, back_head, back_reveal, head_found, reveal_back_found)
