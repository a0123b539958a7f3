-- A move, and going back, keep the lengths of the arrays. Assumes nothing.
use mathlib.Core.Bool.{Bool, true, false, cond}
use mathlib.Core.List.{◌++◌, ◌∷◌}
use mathlib.Core.Path.{ap, ◌∙◌}
use Prim.Native.Nat.{ℕ, zero, suc, ◌+◌, ◌-◌}
use lib.Dec.{eqb}
use lib.ListN.{length, take, drop, set, length-set}
use Rattle.rules.specs.declared.Position.{Position}
use Rattle.rules.specs.Cards.{suit}
use Rattle.rules.specs.Places.{count, height, is_head, pile_of}
use Rattle.rules.specs.Foundations.{raised_on, lowered_on}
use Rattle.rules.specs.Play.{raised, lowered, laid, lifted, deck_place, drawn, put_back, uncovered, covered, after, before}
use Rattle.rules.specs.Proper.{Shaped}
use Rattle.facts.proofs.Deck.{slots_length}
use Rattle.facts.proofs.TurnedFields.{Stays, uncovered_stays}
use Rattle.facts.proofs.TurnedBack.{back_stays}

module _ (p : Position) (c : ℕ) (s : Shaped p) where
  raised_shape : Shaped (raised p c)
  unfolding raised raised_on
  raised_shape = record { deal = s.deal; counts = s.counts; heights = length-set p.heights (suit c) (height p (suit c) + 1) ∙ s.heights; deck = s.deck }

  lowered_shape : Shaped (lowered p c)
  unfolding lowered lowered_on
  lowered_shape = record { deal = s.deal; counts = s.counts; heights = length-set p.heights (suit c) (height p (suit c) - 1) ∙ s.heights; deck = s.deck }

  laid_shape : Shaped (laid p c)
  unfolding laid
  laid_shape = record { deal = s.deal; counts = s.counts; heights = s.heights; deck = s.deck }

  lifted_shape : Shaped (lifted p c)
  unfolding lifted
  lifted_shape = record { deal = s.deal; counts = s.counts; heights = s.heights; deck = s.deck }

  drawn_shape : Shaped (drawn p c)
  unfolding drawn
  drawn_shape = record { deal = s.deal; counts = s.counts; heights = s.heights; deck = slots_length (take (deck_place p c) p.deck ++ drop (deck_place p c + 1) (take p.left p.deck)) }

  put_shape : (o : ℕ) → Shaped (put_back p c o)
  unfolding put_back
  put_shape o = record { deal = s.deal; counts = s.counts; heights = s.heights; deck = slots_length (take p.offset p.deck ++ (c ∷ drop p.offset (take p.left p.deck))) }

  stays_shape : (q : Position) (i n : ℕ) → Stays p q (set p.counts i n) → Shaped q
  stays_shape q i n t = record { deal = ap length t.deal ∙ s.deal; counts = ap length t.counts ∙ length-set p.counts i n ∙ s.counts; heights = ap length t.heights ∙ s.heights; deck = ap length t.deck ∙ s.deck }

  uncovered_shape : (i : ℕ) → Shaped (uncovered p i)
  uncovered_shape i = stays_shape (uncovered p i) i (count p i - 1) (uncovered_stays p i)

  back_shape : (i : ℕ) → Shaped (covered p i)
  back_shape i = stays_shape (covered p i) i (count p i + 1) (back_stays p i)

either_shape : (b : Bool) (x y : Position) → Shaped x → Shaped y → Shaped (cond b x y)
either_shape true x y s t = s
either_shape false x y s t = t

pub after_shape : (p : Position) (kind c : ℕ) → Shaped p → Shaped (after p kind c)
unfolding after
after_shape p zero c s = drawn_shape (raised p c) c (raised_shape p c s)
after_shape p (suc zero) c s =
    let t : Shaped (lifted (raised p c) c) = lifted_shape (raised p c) c (raised_shape p c s) in
    either_shape (is_head p c) (uncovered (lifted (raised p c) c) (pile_of p c)) (lifted (raised p c) c) (uncovered_shape (lifted (raised p c) c) c t (pile_of p c)) t
after_shape p (suc (suc zero)) c s = drawn_shape (laid p c) c (laid_shape p c s)
after_shape p (suc (suc (suc zero))) c s = laid_shape (lowered p c) c (lowered_shape p c s)
after_shape p (suc (suc (suc (suc n)))) c s = uncovered_shape p c s (pile_of p c)

pub before_shape : (p : Position) (byte kind c : ℕ) → Shaped p → Shaped (before p byte kind c)
unfolding before
before_shape p byte zero c s = put_shape (lowered p c) c (lowered_shape p c s) byte
before_shape p byte (suc zero) c s =
    let t : Shaped (laid (lowered p c) c) = laid_shape (lowered p c) c (lowered_shape p c s) in
    either_shape (eqb byte 0) (laid (lowered p c) c) (covered (laid (lowered p c) c) (pile_of p c)) t (back_shape (laid (lowered p c) c) c t (pile_of p c))
before_shape p byte (suc (suc zero)) c s = put_shape (lifted p c) c (lifted_shape p c s) byte
before_shape p byte (suc (suc (suc zero))) c s = raised_shape (lifted p c) c (lifted_shape p c s)
before_shape p byte (suc (suc (suc (suc n)))) c s = back_shape p c s (pile_of p c)
