-- Groups written one after the other: what stands in the slice then.
-- Assumes nothing.
use mathlib.Core.Bool.{Bool, cond}
use mathlib.Core.Path.{◌≡◌, refl, sym, ap, ap₂, ◌∙◌}
use mathlib.Core.List.{List, [], ◌∷◌, ◌++◌}
use Prim.Native.Nat.{ℕ, suc, ◌+◌, ◌*◌, ◌^◌, ◌≤◌, ◌<◌}
use native.Mathlib.Nat.{add-zero, zero-add, add-suc, suc-add}
use native.Mathlib.Omega.{arith}
use lib.ListN.{length, take, drop, set, length-append}
use lib.Seq.{sets, sets-eq, take-append_seam}
use borrow.Author.Tests.{lt-ltb, le-ltb}
use Rattle.bits.specs.Bit.{bit, count_of, list_of}
use Rattle.rules.specs.declared.Masks.{Masks}
use Rattle.rules.specs.Legal.{listed, listing}
use Rattle.rules.specs.Pruned.{size}
use Rattle.rules.specs.Moves.{CardMasks, move_count, fitting, listed_over}
use Rattle.rules.proofs.ListingLaw.{cards_list, listed_length, listing_length}

pub sets_append : (v w l : List ℕ) (i : ℕ) → sets (sets l i v) (i + length v) w ≡ sets l i (v ++ w)
sets_append [] w l i = rw (add-zero i)
sets_append (a ∷ v) w l i = rw (add-suc i (length v), ← suc-add i (length v)) (sets_append v w (set l i a) (suc i))

-- the first n slots of x are l, and the others those of o
pub record Written (o x : List ℕ) (n : ℕ) (l : List ℕ) : Type 0 where
  pub many : n ≡ length l
  pub over : x ≡ sets o 0 l

pub none : (o : List ℕ) → Written o o 0 []
none o = record { many = refl; over = refl }

-- one more group: what `fill` ensures at kind * 64
pub more : {o x : List ℕ} {n : ℕ} {l : List ℕ} (kind m : ℕ) (y : List ℕ) (r : ℕ) → m < 2 ^ 52 → Written o x n l
    → (r ≡ n + count_of 64 (bit m)) × (y ≡ sets x n (list_of 64 (kind * 64) (bit m)))
    → Written o y r (l ++ listed kind m)
unfolding size
more {o} {x} {n} {l} kind m y r h w e =
    record {
      many = e.0 ∙ ap₂ (λ (a b : ℕ). a + b) w.many (sym (listed_length kind m h)) ∙ sym (length-append l (listed kind m));
      over =
          e.1
          ∙ ap (sets x n) (cards_list kind m h)
          ∙ ap₂ (λ (z : List ℕ) (i : ℕ). sets z i (listed kind m)) w.over (w.many ∙ sym (zero-add (length l)))
          ∙ sets_append l (listed kind m) o 0;
    }

-- the whole listing, where it fits
pub fits : (m : Masks) → CardMasks m → (o : List ℕ) → move_count m ≤ length o → fitting m (length o) ≡ listing m
unfolding fitting
fits m h o l = ap (λ (b : Bool). cond b [] (listing m)) (le-ltb (length o) (length (listing m)) (omega (arith, listing_length m h)))

pub all_written : (m : Masks) → CardMasks m → (o x : List ℕ) (n : ℕ) → move_count m ≤ length o → Written o x n (listing m)
    → (n ≡ length (fitting m (length o))) × (x ≡ listed_over m o)
unfolding listed_over
all_written m h o x n l w =
    rw (fits m h o l)
    (w.many, w.over ∙ sets-eq (listing m) o 0 (omega (arith, listing_length m h)) ∙ ap (λ (k : ℕ). listing m ++ drop k o) (zero-add (length (listing m))))

-- where it does not fit, nothing
pub too_short_lem : (m : Masks) → CardMasks m → (o : List ℕ) → length o < move_count m
    → (◌≡◌ {A = ℕ} 0 (length (fitting m (length o)))) × (o ≡ listed_over m o)
unfolding listed_over fitting
too_short_lem m h o l = rw (lt-ltb (length o) (length (listing m)) (omega (arith, listing_length m h))) (refl, refl)

-- the written front
pub front : (m : Masks) (o x : List ℕ) (n : ℕ) → n ≡ length (fitting m (length o)) → x ≡ listed_over m o → take n x ≡ fitting m (length o)
unfolding listed_over
front m o x n e f = rw (e, f) (take-append_seam (fitting m (length o)) (drop (length (fitting m (length o))) o))
