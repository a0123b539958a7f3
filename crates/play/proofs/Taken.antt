-- A kind stands for the numbers that are taken for it.
-- Assumes nothing.
use Rattle.std.proofs.Common.{◌≡◌, ℕ, zero, suc, refl, sym, ap, ◌∙◌}
use Rattle.rules.specs.declared.Position.{Position}
use Rattle.rules.specs.Legal.{legal}
use Rattle.rules.specs.Play.{after, undo_byte, turned_up, before}
use Rattle.moves.specs.declared.kinds.Kind.{Kind}
use Rattle.moves.specs.Kind.{kind_number, kind_of}
use Rattle.play.specs.Made.{made, has_way}

-- of what is the same for all numbers above 3
taken : {A : Type 0} (f : ℕ → A) → ((j : ℕ) → f (suc (suc (suc (suc j)))) ≡ f 4) → (n : ℕ) (k : Kind) → k ≡ kind_of n → f n ≡ f (kind_number k)
taken f h n k e = go n ∙ ap (λ (k : Kind). f (kind_number k)) (sym e)
  where
    go : (n : ℕ) → f n ≡ f (kind_number (kind_of n))
    go zero = refl
    go (suc zero) = refl
    go (suc (suc zero)) = refl
    go (suc (suc (suc zero))) = refl
    go (suc (suc (suc (suc j)))) = h j

module _ (p : Position) (c n : ℕ) (k : Kind) (e : k ≡ kind_of n) where
  pub legal_taken : legal p n c ≡ legal p (kind_number k) c
  unfolding legal
  legal_taken = taken (λ n. legal p n c) (λ j. refl) n k e

  pub made_taken : made p n c ≡ made p (kind_number k) c
  unfolding made after undo_byte turned_up
  made_taken = taken (λ n. made p n c) (λ j. refl) n k e

  pub way_taken : (byte : ℕ) → has_way p byte n c ≡ has_way p byte (kind_number k) c
  unfolding has_way
  way_taken byte = taken (λ n. has_way p byte n c) (λ j. refl) n k e

  pub before_taken : (byte : ℕ) → before p byte n c ≡ before p byte (kind_number k) c
  unfolding before
  before_taken byte = taken (λ n. before p byte n c) (λ j. refl) n k e
