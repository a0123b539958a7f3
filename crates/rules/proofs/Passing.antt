-- What a test that is a function of its own says, where the call goes on and where its `?` ends it.
-- Assumes nothing.
use mathlib.Core.Bool.{Bool, true, false, true≢false}
use mathlib.Core.Path.{◌≡◌, refl, sym, ap, ◌∙◌}
use Rattle.std.proofs.Common.{Result, Ok, Err}
use Rattle.std.specs.Prelude.{⊤}
use Rattle.std.specs.Result.{is_err, IsErrAnd}
use Rattle.std.proofs.lemmas.Result.{err_from_is_err_and}
use Rattle.rules.specs.declared.Refusal.{Refusal}
use Rattle.rules.specs.Results.{passes}

pub passed : (e : Refusal) (b : Bool) → Ok tt ≡ passes b e → b ≡ true
unfolding passes
passed e true h = refl
passed e false h = absurd (true≢false (ap is_err (sym h)))

failed : (e : Refusal) {f : Refusal} (b : Bool) → Err f ≡ passes b e → (f ≡ e) × (b ≡ false)
unfolding passes
failed e true h = absurd (true≢false (ap is_err h))
failed e false h = (ap the h, refl)
  where
    the : Result ⊤ Refusal → Refusal
    the (Ok x) = e
    the (Err g) = g

pub ended : {A : Type 0} (e : Refusal) {f : Refusal} (b : Bool) (r : Result A Refusal) → IsErrAnd r (λ g. g ≡ f) → Err f ≡ passes b e → (r ≡ Err e) × (b ≡ false)
ended e b r h k =
    let g = err_from_is_err_and r h in
    let j = failed e b k in
    (g.1 ∙ ap Err (g.2 ∙ j.0), j.1)
