-- Comparing two positions: `==` and the bytes of two lists, and that of two positions of one deal the deal need not be compared.
-- Assumes nothing.
use mathlib.Core.Bool.{Bool, true, false, ◌&&◌}
use mathlib.Core.Path.{◌≡◌, refl, sym, ap, ◌∙◌}
use mathlib.Core.List.{List, [], ◌∷◌}
use Prim.Native.Nat.{ℕ, ◌≤◌, ◌<◌}
use native.Mathlib.Omega.{arith}
use lib.Dec.{eqb}
use lib.ListN.{length, get_or, take}
use lib.Seq.{length-take-le, get_or-take, ext_get_or}
use Rattle.std.specs.Cmp.Lexicographic.{pointwise}
use Rattle.rules.specs.declared.Position.{Position}
use Rattle.rules.specs.Bits.{same_list}
use Rattle.rules.specs.History.{same_position, same_in_deal}
use Rattle.bits.proofs.Searches.{is_false}
use Rattle.rules.proofs.SameList.{same_list_lem, list_same}

-- what `==` tells of two lists of bytes
pub pointwise_same : (x y : List ℕ) → pointwise eqb x y ≡ same_list x y
unfolding same_list
pointwise_same [] [] = refl
pointwise_same [] (b ∷ y) = refl
pointwise_same (a ∷ x) [] = refl
pointwise_same (a ∷ x) (b ∷ y) = ap (λ (t : Bool). eqb a b && t) (pointwise_same x y)

module _ (a b : List ℕ) (n : ℕ) (la : n ≤ length a) (lb : n ≤ length b) where
  pub bytes_same : ((k : ℕ) → k < n → get_or a k 0 ≡ get_or b k 0) → same_list (take n a) (take n b) ≡ true
  bytes_same h = ap (same_list (take n a)) (sym e) ∙ list_same (take n a)
    where
      e : take n a ≡ take n b
      e =
          ext_get_or 0 (take n a) (take n b) (length-take-le n a la ∙ sym (length-take-le n b lb))
          (λ k l. let m : k < n = omega (arith, length-take-le n a la) in get_or-take n a k 0 m ∙ h k m ∙ sym (get_or-take n b k 0 m))

  pub bytes_differ : (i : ℕ) → i < n → (get_or a i 0 ≡ get_or b i 0 → ⊥) → same_list (take n a) (take n b) ≡ false
  bytes_differ i l d =
      is_false (same_list (take n a) (take n b))
      (λ e. d (sym (get_or-take n a i 0 l) ∙ ap (λ (x : List ℕ). get_or x i 0) (same_list_lem (take n a) (take n b) e) ∙ get_or-take n b i 0 l))

pub same_is : (p q : Position) → p.deal ≡ q.deal → same_position p q ≡ same_in_deal p q
unfolding same_position
same_is p q d = ap (λ (x : Bool). x && same_in_deal p q) (ap (same_list p.deal) (sym d) ∙ list_same p.deal)
