-- What is to be printed, by the answer of the deal; its length.
-- Assumes nothing.
use mathlib.Core.Bool.{Bool, true, false, not}
use mathlib.Core.Path.{◌≡◌, refl, sym, ap, ◌∙◌, subst}
use mathlib.Core.List.{List, [], ◌∷◌, ◌++◌}
use Prim.Native.Nat.{ℕ, zero, suc, ◌≤◌, ◌<◌}
use native.Mathlib.Nat.{zero-add}
use native.Mathlib.Omega.{arith}
use lib.Dec.{T, eqb}
use lib.ListN.{length, drop}
use lib.Seq.{sets, sets-eq}
use Rattle.rules.specs.declared.Position.{Position}
use Rattle.rules.specs.declared.Started.{Started}
use Rattle.rules.specs.Code.{code, fresh}
use Rattle.rules.specs.Fields.{blank}
use Rattle.rules.specs.Legal.{unpruned}
use Rattle.rules.specs.Proper.{step_right, are_cards, are_different, proper}
use Rattle.rules.specs.Answers.{◌refuses◌else◌, accepted, deal_refusal, deal_answer, save_answer, masks_answer, masks_for, improper}
use Rattle.rules.specs.Show.{digits, hex_line, masks_text, shown, refused_line, show_text}
use Rattle.bits.proofs.Tables.{T_true}
use Rattle.facts.proofs.FreshProper.{fresh_proper}

-- the calls of a proper position are not refused
pub code_told : (p : Position) → T (proper p) → (save_answer p).code ≡ code p
unfolding save_answer improper
code_told p h = rw (T_true (proper p) h)

pub masks_told : (p : Position) → T (proper p) → (masks_answer false p).masks ≡ unpruned p
unfolding masks_answer masks_for improper
masks_told p h = rw (T_true (proper p) h)

-- no input at all
pub of_none : (l : List ℕ) → length l ≡ 0 → show_text l ≡ refused_line 2
unfolding show_text
of_none [] h = refl
of_none (a ∷ l) h = absurd (omega arith)

-- the numbers of a deal's refusals have one digit
one_digit : (b : Bool) (n m : ℕ) → n < 10 → m < 10 → (b refuses n else m) < 10
one_digit true n m h g = h
one_digit false n m h g = g

refusal_low : (d : List ℕ) (step : ℕ) → deal_refusal d step < 10
unfolding deal_refusal
refusal_low d step =
    one_digit (not (step_right step)) 1 _ (omega arith)
    (one_digit (not (eqb (length d) 52)) 2 _ (omega arith)
    (one_digit (not (are_cards d)) 3 _ (omega arith)
    (one_digit (not (are_different d)) 4 0 (omega arith) (omega arith))))

-- an answer by its refusal
numbered : (r : ℕ) (p q : Position) → (accepted {A = Started} r (record { refusal = 0; position = p }) (record { refusal = r; position = q })).refusal ≡ r
numbered zero p q = refl
numbered (suc r) p q = refl

taken : {A : Type 0} (r : ℕ) (v w : A) → r ≡ 0 → accepted r v w ≡ v
taken zero v w e = refl
taken (suc r) v w e = absurd (omega arith)

declined : (r : ℕ) (v w : List ℕ) → (r ≡ 0 → ⊥) → accepted r v w ≡ w
declined zero v w h = absurd (h refl)
declined (suc r) v w h = refl

-- of some input: its first byte is the step, and the deal is the others
module _ (deal : List ℕ) (step : ℕ) (s : Started) (told : s ≡ deal_answer deal step) where
  number : s.refusal ≡ deal_refusal deal step
  unfolding deal_answer
  number = ap (λ (t : Started). t.refusal) told ∙ numbered (deal_refusal deal step) (fresh deal step) blank

  pub low : s.refusal < 10
  low = omega (arith, number, refusal_low deal step)

  pub refused_text : (s.refusal ≡ 0 → ⊥) → show_text (step ∷ deal) ≡ refused_line s.refusal
  unfolding show_text
  refused_text h = declined (deal_refusal deal step) _ _ (λ e. h (number ∙ e)) ∙ sym (ap refused_line number)

  module _ (ok : s.refusal ≡ 0) where
    right : deal_refusal deal step ≡ 0
    right = sym number ∙ ok

    started : s.position ≡ fresh deal step
    unfolding deal_answer
    started = ap (λ (t : Started). t.position) (told ∙ taken (deal_refusal deal step) _ _ right)

    pub is_proper_lem : T (proper s.position)
    is_proper_lem = subst (λ (t : Started). T (proper t.position)) (sym told) (fresh_proper deal step (sym (ap (λ (t : Started). t.refusal) told) ∙ ok)).1

    pub shown_text : show_text (step ∷ deal) ≡ shown s.position
    unfolding show_text
    shown_text = taken (deal_refusal deal step) _ _ right ∙ sym (ap shown started)

pub shown_length : (p : Position) → length (shown p) ≡ 102
unfolding shown masks_text hex_line digits
shown_length p = refl

pub refused_length : (n : ℕ) → length (refused_line n) ≡ 10
unfolding refused_line
refused_length n = refl

-- what is written from the start on is the front
pub at_front : (o x : List ℕ) (r : ℕ) (l w : List ℕ) (n : ℕ) → length w ≡ n → n ≤ length o → show_text l ≡ w → (r ≡ n) × (x ≡ sets o 0 w)
    → (r ≡ length (show_text l)) × (x ≡ show_text l ++ drop r o)
at_front o x r l w n h f e g =
    rw e (g.0 ∙ sym h, g.1 ∙ sets-eq w o 0 (omega arith) ∙ ap (λ (k : ℕ). w ++ drop k o) (zero-add (length w) ∙ h ∙ sym g.0))
