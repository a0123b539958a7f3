-- The refusal of a resume, by what its tests say.
-- Assumes nothing.
use mathlib.Core.Bool.{Bool, true, false, not}
use mathlib.Core.Path.{◌≡◌, refl, sym, ap, ◌∙◌}
use mathlib.Core.List.{List}
use Prim.Native.Nat.{ℕ, zero, suc, ◌≤◌, ◌<◌}
use lib.Dec.{eqb, ltb, leb}
use borrow.Author.Tests.{lt-ltb, le-ltb}
use Rattle.rules.specs.Bits.{any_of}
use Rattle.rules.specs.Code.{code_height, code_piles, code_left, code_offset, stored_offset, resumed}
use Rattle.rules.specs.Refusals.{◌refuses◌else◌, accepted, wrong_height, wrong_piles, wrong_offset}
use Rattle.rules.specs.Answers.{deal_refusal, offset_wrong, resume_refusal}
use Rattle.bits.proofs.Searches.{or_left, or_right}
use Rattle.rules.specs.declared.Refusal.{Refusal}
use Rattle.rules.specs.Results.{number}
use Rattle.rules.proofs.Refusing.{deal_first, refused}
use Rattle.code.specs.Resuming.{arrange_refusal}

-- the offset's test
module _ (step x : ℕ) where
  abbrev Stored : Bool
  Stored = eqb (stored_offset (code_left x) step (code_offset x)) (code_offset x)

  pub offset_high : code_left x < code_offset x → offset_wrong step x ≡ true
  unfolding offset_wrong
  offset_high l = or_left (ltb (code_left x) (code_offset x)) (not Stored) (lt-ltb (code_left x) (code_offset x) l)

  pub offset_unstored : Stored ≡ false → offset_wrong step x ≡ true
  unfolding offset_wrong
  offset_unstored e = or_right (ltb (code_left x) (code_offset x)) (not Stored) (ap not e)

  pub offset_right : code_offset x ≤ code_left x → Stored ≡ true → offset_wrong step x ≡ false
  unfolding offset_wrong
  offset_right l e = rw (le-ltb (code_left x) (code_offset x) l, e)

-- the three tests of the fields, and then y
abbrev fields : Bool → Bool → Bool → ℕ → ℕ
fields a b c y = a refuses wrong_height else b refuses wrong_piles else c refuses wrong_offset else y

module _ (d : List ℕ) (step x : ℕ) where
  later : ℕ
  later = fields (any_of 4 (λ s. ltb 13 (code_height x s))) (leb 40320 (code_piles x)) (offset_wrong step x) (arrange_refusal (resumed d step x))

  -- a resume's refusal is its deal's, and else that of its fields and of its cards
  deal_then : accepted (deal_refusal d step) later (deal_refusal d step) ≡ resume_refusal d step x
  unfolding resume_refusal arrange_refusal later
  deal_then = sym (deal_first d step later)

  pub refused_deal : (n : ℕ) → n ≡ deal_refusal d step → (n ≡ 0 → ⊥) → n ≡ resume_refusal d step x
  refused_deal n e h = e ∙ go (deal_refusal d step) (λ z. h (e ∙ z)) ∙ deal_then
    where
      go : (r : ℕ) → (r ≡ 0 → ⊥) → r ≡ accepted r later r
      go zero k = absurd (k refl)
      go (suc r) k = refl

  pub deal_refused : (e : Refusal) → number e ≡ deal_refusal d step → number e ≡ resume_refusal d step x
  deal_refused e h = sym (refused e later (number e)) ∙ ap (λ (r : ℕ). accepted r later r) h ∙ deal_then

  -- of a deal that is not refused, by what the three tests say
  pub resume_tests : deal_refusal d step ≡ 0 → (a b c : Bool) → any_of 4 (λ s. ltb 13 (code_height x s)) ≡ a → leb 40320 (code_piles x) ≡ b → offset_wrong step x ≡ c → fields a b c (arrange_refusal (resumed d step x)) ≡ resume_refusal d step x
  unfolding later
  resume_tests z a b c ea eb ec = rw (← ea, ← eb, ← ec) (ap (λ (r : ℕ). accepted r later r) (sym z) ∙ deal_then)
