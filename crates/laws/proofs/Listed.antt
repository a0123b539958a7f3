-- The listings: the unpruned one has each legal move once, and the pruned one nothing that the unpruned one has not.
-- Assumes nothing.
use mathlib.Core.Bool.{Bool, true, false}
use mathlib.Core.Logic.{inl, inr}
use mathlib.Core.Path.{◌≡◌, refl, sym, ap, ◌∙◌}
use Prim.Native.Nat.{ℕ, zero, suc, ◌+◌, ◌*◌, ◌/◌, ◌%◌, ◌≤◌}
use native.Mathlib.Omega.{arith}
use lib.Dec.{ltb}
use borrow.Author.Tests.{ltb-true, ltb-false}
use Rattle.bits.proofs.Tables.{T_true, true-T}
use Rattle.rules.specs.declared.Masks.{Masks}
use Rattle.rules.specs.Bits.{num, bit, times, Within}
use Rattle.rules.specs.Legal.{unpruned, listing}
use Rattle.rules.specs.Pruned.{pruned}
use Rattle.rules.specs.History.{is_kind_and_card}
use Rattle.rules.specs.Moves.{AllWithin, of_kind}
use Rattle.bits.proofs.Searches.{num_mono}
use Rattle.rules.proofs.ListingLaw.{listed_once, listed_only}
use Rattle.rules.proofs.MoveMasks.{lists_legal as legal-once}
use Rattle.rules.proofs.PrunedLaw.{pruned_within}
use Rattle.rules.specs.Demands.{ListedWithin, ListsLegal}
use Rattle.facts.proofs.Allowed.{kind_ok, card_ok}

pub lists_legal : ListsLegal
lists_legal p kind c t = let k : is_kind_and_card kind c ≡ true = T_true (is_kind_and_card kind c) t in legal-once p kind c (kind_ok kind c k) (card_ok kind c k)

-- the masks of a kind
kind_within : (m n : Masks) → AllWithin m n → (kind : ℕ) → Within (of_kind m kind) (of_kind n kind)
unfolding of_kind
kind_within m n w zero = w.3
kind_within m n w (suc zero) = w.1
kind_within m n w (suc (suc zero)) = w.2
kind_within m n w (suc (suc (suc zero))) = w.4
kind_within m n w (suc (suc (suc (suc kind)))) = w.0

within_listed : (m n : Masks) → AllWithin m n → (x : ℕ) → times x (listing m) ≤ times x (listing n)
within_listed m n w x = go (ltb (x / 64) 5) refl (ltb (x % 64) 52) refl
  where
    k : ℕ
    k = x / 64

    c : ℕ
    c = x % 64

    is : k * 64 + c ≡ x
    is = omega arith

    none : (52 ≤ c) → times x (listing m) ≤ times x (listing n)
    none h = omega (arith, listed_only m x (inr h))

    go : (a : Bool) → ltb k 5 ≡ a → (b : Bool) → ltb c 52 ≡ b → times x (listing m) ≤ times x (listing n)
    go true y true z =
        let once : (o : Masks) → times x (listing o) ≡ num (bit (of_kind o k) c) = λ o. ap (λ (v : ℕ). times v (listing o)) (sym is) ∙ listed_once o k c (ltb-true k 5 y) (ltb-true c 52 z) in
        omega (arith, once m, once n, num_mono (bit (of_kind m k) c) (bit (of_kind n k) c) (λ e. T_true (bit (of_kind n k) c) (kind_within m n w k c (true-T (bit (of_kind m k) c) e))))
    go true y false z = none (ltb-false c 52 z)
    go false y b z = omega (arith, listed_only m x (inl (omega (arith, ltb-false k 5 y))))

pub listed_within : ListedWithin
listed_within p s t = within_listed (pruned p) (unpruned p) (pruned_within p s t)
