-- The refusals' order: what a passed test says; two inputs side by side have the same refusal, and the same answer; the four tests of a deal, which a resume makes first.
-- Assumes nothing.
use mathlib.Core.Bool.{Bool, true, false, not, true≢false}
use mathlib.Core.Path.{◌≡◌, refl, sym, ap, ◌∙◌}
use Prim.Native.Nat.{ℕ, zero, suc, ◌<◌}
use native.Mathlib.Omega.{arith}
use lib.Dec.{eqb}
use lib.ListN.{length}
use borrow.Author.Tests.{eqb-true, not-false}
use mathlib.Core.List.{List, [], ◌∷◌}
use Rattle.rules.specs.Bits.{num}
use Rattle.rules.specs.Proper.{are_cards, are_different, step_right}
use Rattle.rules.specs.Refusals.{◌refuses◌else◌, accepted, wrong_step, wrong_length, no_card, same_card}
use Rattle.rules.specs.Answers.{deal_refusal}
use Rattle.rules.specs.declared.Refusal.{Refusal}
use Rattle.rules.specs.declared.Refusal.TheVariants.{WrongStep, WrongLength, NoCard, SameCard, WrongHeight, WrongPiles, WrongOffset, Overlapping, Unarranged, NoSuchMove, NotLegal, HistoryFull, NothingToUndo, WrongCount, WrongEntry, NotProper, TooShort}
use Rattle.rules.specs.Results.{number}

pub refuses_same : (a b : Bool) (n x y : ℕ) → a ≡ b → (a ≡ false → x ≡ y) → (a refuses n else x) ≡ (b refuses n else y)
refuses_same true true n x y e h = refl
refuses_same true false n x y e h = absurd (true≢false e)
refuses_same false true n x y e h = absurd (true≢false (sym e))
refuses_same false false n x y e h = h refl

-- no refusal: this test is passed, and the rest refuses nothing
pub goes_on : (a : Bool) (n x : ℕ) → 0 < n → (a refuses n else x) ≡ 0 → (a ≡ false) × (x ≡ 0)
goes_on true n x l e = absurd (omega arith)
goes_on false n x l e = (refl, e)

-- the same where the test is of what must hold
pub goes_well : (a : Bool) (n x : ℕ) → 0 < n → (not a refuses n else x) ≡ 0 → (a ≡ true) × (x ≡ 0)
goes_well a n x l e = (not-false a (goes_on (not a) n x l e).0, (goes_on (not a) n x l e).1)

-- a refusal and what is told beside it, "no" where it is refused
pub told_same : (r s : ℕ) (a b : Bool) → r ≡ s → (r ≡ 0 → a ≡ b) → (r ∷ num (accepted r a false) ∷ []) ≡ (s ∷ num (accepted s b false) ∷ [])
told_same zero s a b e h = ap (λ (x : Bool). 0 ∷ num x ∷ []) (h refl) ∙ ap (λ (n : ℕ). n ∷ num (accepted n b false) ∷ []) e
told_same (suc r) s a b e h = ap (λ (n : ℕ). n ∷ num (accepted n b false) ∷ []) e

-- the four tests of a deal, and then x
abbrev pub four : Bool → Bool → Bool → Bool → ℕ → ℕ
four a b c e x = not a refuses wrong_step else not b refuses wrong_length else not c refuses no_card else not e refuses same_card else x

abbrev pub first_four : List ℕ → ℕ → ℕ → ℕ
first_four d step x = four (step_right step) (eqb (length d) 52) (are_cards d) (are_different d) x

pub record Dealt (d : List ℕ) (step : ℕ) : Type 0 where
  pub fair : step_right step ≡ true
  pub long : length d ≡ 52
  pub cards : are_cards d ≡ true
  pub different : are_different d ≡ true

passed : (d : List ℕ) (step x : ℕ) → first_four d step x ≡ 0 → Dealt d step × (x ≡ 0)
passed d step x h =
    let g1 = goes_well (step_right step) wrong_step _ (omega arith) h in
    let g2 = goes_well (eqb (length d) 52) wrong_length _ (omega arith) g1.1 in
    let g3 = goes_well (are_cards d) no_card _ (omega arith) g2.1 in
    let g4 = goes_well (are_different d) same_card _ (omega arith) g3.1 in
    (record { fair = g1.0; long = eqb-true (length d) 52 g2.0; cards = g3.0; different = g4.0 }, g4.1)

pub four_passed : (d : List ℕ) (step x : ℕ) → first_four d step x ≡ 0 → Dealt d step
four_passed d step x h = (passed d step x h).0

-- and the rest refuses nothing
pub four_rest : (d : List ℕ) (step x : ℕ) → first_four d step x ≡ 0 → x ≡ 0
four_rest d step x h = (passed d step x h).1

pub deal_passed : (d : List ℕ) (step : ℕ) → deal_refusal d step ≡ 0 → Dealt d step
unfolding deal_refusal
deal_passed d step h = four_passed d step 0 h

-- what a resume tests after them counts where a deal is not refused
four_first : (a b c e : Bool) (x : ℕ) → four a b c e x ≡ accepted (four a b c e 0) x (four a b c e 0)
four_first true true true true x = refl
four_first true true true false x = refl
four_first true true false e x = refl
four_first true false c e x = refl
four_first false b c e x = refl

pub deal_first : (d : List ℕ) (step x : ℕ) → first_four d step x ≡ accepted (deal_refusal d step) x (deal_refusal d step)
unfolding deal_refusal
deal_first d step x = four_first (step_right step) (eqb (length d) 52) (are_cards d) (are_different d) x

-- the refusal of a deal by what its four tests say
pub deal_tests : (d : List ℕ) (step : ℕ) (a b c e : Bool) → step_right step ≡ a → eqb (length d) 52 ≡ b → are_cards d ≡ c → are_different d ≡ e → four a b c e 0 ≡ deal_refusal d step
unfolding deal_refusal
deal_tests d step a b c e ea eb ec ee = rw (ea, eb, ec, ee)

-- a refusal has a number, so what is accepted doesn't count
pub refused : {A : Type 0} (e : Refusal) (new old : A) → accepted (number e) new old ≡ old
refused WrongStep new old = refl
refused WrongLength new old = refl
refused NoCard new old = refl
refused SameCard new old = refl
refused WrongHeight new old = refl
refused WrongPiles new old = refl
refused WrongOffset new old = refl
refused Overlapping new old = refl
refused Unarranged new old = refl
refused NoSuchMove new old = refl
refused NotLegal new old = refl
refused HistoryFull new old = refl
refused NothingToUndo new old = refl
refused WrongCount new old = refl
refused WrongEntry new old = refl
refused NotProper new old = refl
refused TooShort new old = refl
