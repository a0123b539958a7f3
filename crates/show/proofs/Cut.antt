-- What is past the first 54 bytes makes no difference, so a buffer of 54 or more serves input of any length.
-- Assumes nothing.
use mathlib.Core.Bool.{Bool, true, false, not}
use mathlib.Core.Path.{◌≡◌, refl, sym, ap, ◌∙◌}
use mathlib.Core.List.{List, [], ◌∷◌, ◌++◌}
use Prim.Native.Nat.{ℕ, zero, suc, ◌≤◌, ◌<◌}
use native.Mathlib.Omega.{arith}
use lib.Dec.{ltb}
use lib.ListN.{length, take}
use lib.Seq.{take_all, length-take-le, take-append-le}
use Rattle.std.specs.Prelude.{Option, None, Some}
use Rattle.std.specs.Io.KnownBytes.{Consumes, IsAtEnd}
use Rattle.std.proofs.Common.{le_refl}
use Rattle.std.proofs.lemmas.List.{append-nil}
use borrow.Author.Tests.{ne_eqb, ltb-true, ltb-false}
use Rattle.rules.specs.Code.{fresh}
use Rattle.rules.specs.Proper.{step_right}
use Rattle.rules.specs.Refusals.{◌refuses◌else◌, accepted, wrong_step, wrong_length}
use Rattle.rules.specs.Answers.{deal_refusal}
use Rattle.rules.specs.Show.{shown, refused_line, show_text}

-- of a deal that is not 52 bytes, the step's refusal or its length's
abbrev said : Bool → ℕ
said b = not b refuses wrong_step else wrong_length

wrong_length_lem : (d : List ℕ) (step : ℕ) → (length d ≡ 52 → ⊥) → deal_refusal d step ≡ said (step_right step)
unfolding deal_refusal
wrong_length_lem d step h = rw (ne_eqb (length d) 52 h)

refused : (b : Bool) (v : List ℕ) → accepted (said b) v (refused_line (said b)) ≡ refused_line (said b)
refused true v = refl
refused false v = refl

not_52 : (step : ℕ) (d : List ℕ) → (length d ≡ 52 → ⊥) → show_text (step ∷ d) ≡ refused_line (said (step_right step))
unfolding show_text
not_52 step d h = ap (λ (r : ℕ). accepted r (shown (fresh d step)) (refused_line r)) (wrong_length_lem d step h) ∙ refused (step_right step) (shown (fresh d step))

cut_deal : (n step : ℕ) (d : List ℕ) (b : Bool) → ltb n (length d) ≡ b → 52 < n → show_text (step ∷ take n d) ≡ show_text (step ∷ d)
cut_deal n step d true e h =
    let many : n < length d = ltb-true n (length d) e in
    not_52 step (take n d) (λ x. omega (arith, length-take-le n d (omega arith))) ∙ sym (not_52 step d (λ x. omega arith))
cut_deal n step d false e h = ap (λ (t : List ℕ). show_text (step ∷ t)) (take_all n d (ltb-false n (length d) e))

pub cut : (n : ℕ) (input : List ℕ) → 54 ≤ n → show_text (take n input) ≡ show_text input
cut zero input h = absurd (omega arith)
cut (suc n) [] h = refl
cut (suc n) (step ∷ d) h = cut_deal n step d (ltb n (length d)) refl (omega arith)

-- what is read, to the input's end or at least the buffer's length, is printed for as the whole input
pub read : (bs xs : List ℕ) (after : Option (List ℕ)) → Consumes (Some xs) after bs → (length bs < 4096 → IsAtEnd after) → show_text bs ≡ show_text xs
read bs xs None e h = absurd e
read bs xs (Some ys) e h = by_cases (ltb (length bs) 4096) refl
  where
    front : take (length bs) xs ≡ bs
    front = ap (take (length bs)) e ∙ take-append-le (length bs) bs ys (le_refl (length bs)) ∙ take_all (length bs) bs (le_refl (length bs))

    by_cases : (b : Bool) → ltb (length bs) 4096 ≡ b → show_text bs ≡ show_text xs
    by_cases true t = ap show_text (sym (e ∙ ap (λ (r : List ℕ). bs ++ r) (h (ltb-true (length bs) 4096 t)) ∙ append-nil bs))
    by_cases false t =
        let many : 4096 ≤ length bs = ltb-false (length bs) 4096 t in
        sym (ap show_text front) ∙ cut (length bs) xs (omega arith)
