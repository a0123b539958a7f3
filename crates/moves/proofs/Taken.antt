-- A kind stands for the numbers that are taken for it.
-- Assumes nothing.
use Rattle.std.proofs.Common.{◌≡◌, ℕ, zero, suc, refl, sym, ap, ◌∙◌}
use Rattle.rules.specs.Moves.{one_move}
use Rattle.moves.specs.declared.kinds.Kind.{Kind}
use Rattle.moves.specs.Kind.{kind_number, kind_of}

pub one_is : (n card : ℕ) (k : Kind) → k ≡ kind_of n → one_move n card ≡ one_move (kind_number k) card
unfolding one_move
one_is n card k e = go n ∙ ap (λ (k : Kind). one_move (kind_number k) card) (sym e)
  where
    go : (n : ℕ) → one_move n card ≡ one_move (kind_number (kind_of n)) card
    go zero = refl
    go (suc zero) = refl
    go (suc (suc zero)) = refl
    go (suc (suc (suc zero))) = refl
    go (suc (suc (suc (suc n)))) = refl
