-- The mask of a kind, by the kind that a number is taken for.
-- Assumes nothing.
use Rattle.std.proofs.Common.{◌≡◌, ℕ, zero, suc, refl, sym, ap, ◌∙◌}
use Rattle.rules.specs.declared.Masks.{Masks}
use Rattle.rules.specs.Moves.{of_kind}
use Rattle.moves.specs.declared.kinds.Kind.{Kind}
use Rattle.moves.specs.Kind.{kind_number, kind_of}

pub kind_is : (m : Masks) (n : ℕ) (k : Kind) → k ≡ kind_of n → of_kind m n ≡ of_kind m (kind_number k)
unfolding of_kind
kind_is m n k e = go n ∙ ap (λ (k : Kind). of_kind m (kind_number k)) (sym e)
  where
    go : (n : ℕ) → of_kind m n ≡ of_kind m (kind_number (kind_of n))
    go zero = refl
    go (suc zero) = refl
    go (suc (suc zero)) = refl
    go (suc (suc (suc zero))) = refl
    go (suc (suc (suc (suc n)))) = refl
