-- What the judgement says of a position, as a yes or no and as the first step of a call.
-- Assumes nothing.
use mathlib.Core.Bool.{Bool, true, false}
use mathlib.Core.Path.{◌≡◌, sym, ap, ◌∙◌, subst}
use lib.Dec.{T}
use Rattle.std.proofs.Common.{Result, Err}
use Rattle.std.specs.Result.{IsErrAnd}
use Rattle.std.proofs.lemmas.Result.{err_from_is_err_and}
use Rattle.bits.proofs.Tables.{T_true}
use Rattle.rules.specs.declared.Judged.{Judged}
use Rattle.rules.specs.declared.Position.{Position}
use Rattle.rules.specs.declared.Refusal.{Refusal}
use Rattle.rules.specs.declared.Refusal.TheVariants.{NotProper}
use Rattle.rules.specs.Proper.{proper}

-- what the answer of `is_proper` says
module _ (p : Position) {r : Bool} (e : r ≡ proper p) where
  pub is_wrong : r ≡ false → proper p ≡ false
  is_wrong h = sym e ∙ h

  pub is_right : r ≡ true → proper p ≡ true
  is_right h = sym e ∙ h

  pub is_proper_lem : r ≡ true → T (proper p)
  is_proper_lem h = subst T (sym (is_right h)) tt

pub right : (j : Judged) → proper j.position ≡ true
right j = T_true (proper j.position) j.good

-- the same of the position that was given
module _ {p : Position} (j : Judged) (e : j.position ≡ p) where
  pub held : T (proper p)
  held = subst (λ (q : Position). T (proper q)) e j.good

  pub holds : proper p ≡ true
  holds = T_true (proper p) held

-- what the `?` gives back where the position is not proper
pub unjudged : {A : Type 0} (p : Position) (r : Result A Refusal) {f : Refusal} → IsErrAnd r (λ e. e ≡ f) → (f ≡ NotProper) × (proper p ≡ false) → (r ≡ Err NotProper) × (proper p ≡ false)
unjudged p r h k =
    let e = err_from_is_err_and r h in
    (e.1 ∙ ap Err (e.2 ∙ k.0), k.1)
