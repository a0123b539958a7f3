-- The face-up piles are an arrangement: the theorem, of the columns that Arranged shows.
-- Assumes nothing.
use mathlib.Core.Bool.{Bool, true, false, cond}
use mathlib.Core.Logic.{◌⊎◌, inl, inr}
use mathlib.Core.Path.{◌≡◌, refl, ap, ◌∙◌}
use mathlib.Core.List.{List, [], ◌∷◌}
use Prim.Native.Nat.{ℕ, ◌<◌}
use native.Mathlib.Nat.{zero-add}
use lib.Dec.{T}
use Rattle.rules.specs.declared.Position.{Position}
use Rattle.rules.specs.Places.{has_head, head}
use Rattle.rules.specs.Proper.{proper}
use Rattle.rules.specs.Piles.{run, free_kings, first_run, piles}
use Rattle.laws.proofs.Kept.{Each}
use Rattle.rules.specs.Arrangement.{Chain, Starts, FreeKing, column, Arrangement}
use Rattle.rules.specs.Demands.{PilesArranged}
use Rattle.laws.proofs.ShownOnce.{shows_once}
use Rattle.laws.proofs.PileBytes.{piles_many}
use Rattle.laws.proofs.Arranged.{run_chain, column_is, kings_free}

module _ (p : Position) where
  col : (i : ℕ) → i < 7 → (l : List ℕ) × Each (FreeKing p) l × (column (piles p) i ≡ cond (has_head p i) (run p 13 (head p i)) (first_run p l))
  unfolding column piles
  col i m =
      let r = column_is p 7 0 i (free_kings p) m (kings_free p) in
      (r.0, r.1, r.2 ∙ ap (λ (k : ℕ). cond (has_head p k) (run p 13 (head p k)) (first_run p r.0)) (zero-add i))

  arranged : T (proper p) → Arrangement p (piles p)
  unfolding run piles
  arranged t =
      record {
        seven = piles_many p 7 0 (free_kings p);
        heads = λ i m h. rw ((col i m).2, h) refl;
        others = λ i m h. rw ((col i m).2, h) (king (col i m).0 (col i m).1);
        chains = λ i m. rw (col i m).2 (chain (has_head p i) i (col i m).0);
        once = shows_once p t;
      }
    where
      king : (l : List ℕ) → Each (FreeKing p) l → (first_run p l ≡ []) ⊎ Starts (FreeKing p) (first_run p l)
      king [] e = inl refl
      king (k ∷ l) e = inr e.0

      chain : (b : Bool) (i : ℕ) (l : List ℕ) → Chain (cond b (run p 13 (head p i)) (first_run p l))
      chain true i l = run_chain p 13 (head p i)
      chain false i [] = tt
      chain false i (k ∷ l) = run_chain p 13 k

pub piles_arranged : PilesArranged
piles_arranged = arranged
