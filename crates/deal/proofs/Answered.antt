-- The answer of a deal or a resume, by its refusal.
-- Assumes nothing.
use mathlib.Core.Path.{◌≡◌, sym, ap, ◌∙◌}
use Prim.Native.Nat.{ℕ, zero, suc}
use Rattle.std.proofs.Common.{Ok, Err}
use Rattle.rules.specs.declared.Position.{Position}
use Rattle.rules.specs.declared.Refusal.{Refusal}
use Rattle.rules.specs.declared.Started.{Started}
use Rattle.rules.specs.Fields.{blank}
use Rattle.rules.specs.Results.{number, started_of}
use Rattle.rules.proofs.Refusing.{refused}
use Rattle.deal.specs.Starts.{started_by}

-- a number that is not 0 is told with the blank position
pub is_refused : (n r : ℕ) (p : Position) → n ≡ r → (n ≡ 0 → ⊥) → ◌≡◌ {A = Started} (record { refusal = n; position = blank }) (started_by r p)
is_refused n zero p e h = absurd (h e)
is_refused n (suc r) p e h = ap (λ (k : ℕ). record { refusal = k; position = blank }) e

pub is_started : (r : ℕ) (p q : Position) → r ≡ 0 → q ≡ p → ◌≡◌ {A = Started} (record { refusal = 0; position = q }) (started_by r p)
is_started r p q e f = ap (λ (x : Position). record { refusal = 0; position = x }) f ∙ ap (λ (k : ℕ). started_by k p) (sym e)

-- the same of what a call gives
pub refused_is : (e : Refusal) (r : ℕ) (p : Position) → number e ≡ r → started_of (Err e) ≡ started_by r p
refused_is e r p h = rw (sym h) (sym (refused e _ _))

pub started_is : (r : ℕ) (p q : Position) → 0 ≡ r → q ≡ p → started_of (Ok q) ≡ started_by r p
started_is r p q e f = is_started r p q (sym e) f
