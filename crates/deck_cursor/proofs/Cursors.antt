-- A deal on a cursor, by the refusal. Assumes nothing.
use mathlib.Core.Bool.{Bool, true, false, not, ◌&&◌, ◌||◌}
use mathlib.Core.Path.{◌≡◌, refl, sym, ap}
use Prim.Native.Nat.{ℕ, zero, suc, ◌≤◌}
use native.Mathlib.Omega.{arith}
use lib.Dec.{ltb, leb}
use borrow.Author.Tests.{leb-true, ltb-false}
use Rattle.std.proofs.Common.{Err}
use Rattle.rules.specs.declared.Cursor.{Cursor}
use Rattle.rules.specs.declared.DealtOnce.{DealtOnce}
use Rattle.rules.specs.declared.Refusal.{Refusal}
use Rattle.rules.specs.Dealing.{dealt, cursor_of}
use Rattle.rules.specs.Proper.{step_right}
use Rattle.rules.specs.Answers.{◌refuses◌else◌, accepted, cursor_refusal, dealt_once, deal_once_answer}
use Rattle.rules.specs.Results.{number, dealt_of}
use Rattle.rules.proofs.Refusing.{refused}

-- the offset after it, refused or not
unfoldable pub turned_to : Cursor → ℕ
turned_to c = accepted (cursor_refusal c) (dealt c.len c.step c.offset) c.offset

module _ (c : Cursor) where
  -- refused, the answer is the number and the cursor as it was
  pub refused_is : (e : Refusal) → number e ≡ cursor_refusal c → dealt_of c (Err e) ≡ deal_once_answer c
  unfolding deal_once_answer
  refused_is e h = rw (sym h) (sym (refused e _ _))

  -- and else the deal
  pub accepted_is : 0 ≡ cursor_refusal c → record { refusal = 0; cursor = dealt_once c } ≡ deal_once_answer c
  unfolding deal_once_answer
  accepted_is h = rw (sym h)

  -- the answer is its number and the cursor at that offset
  pub answer_is : deal_once_answer c ≡ record { refusal = cursor_refusal c; cursor = cursor_of c.len c.step (turned_to c) }
  unfolding deal_once_answer dealt_once turned_to
  answer_is = go (cursor_refusal c)
    where
      go : (r : ℕ) → accepted {A = DealtOnce} r (record { refusal = 0; cursor = cursor_of c.len c.step (dealt c.len c.step c.offset) }) (record { refusal = r; cursor = c })
          ≡ record { refusal = r; cursor = cursor_of c.len c.step (accepted r (dealt c.len c.step c.offset) c.offset) }
      go zero = refl
      go (suc r) = refl

  pub refusal_is : (deal_once_answer c).refusal ≡ cursor_refusal c
  refusal_is = ap (λ (t : DealtOnce). t.refusal) answer_is

  pub refused_stays : (cursor_refusal c ≡ 0 → ⊥) → turned_to c ≡ c.offset
  unfolding turned_to
  refused_stays h = go (cursor_refusal c) h
    where
      go : (r : ℕ) → (r ≡ 0 → ⊥) → accepted r (dealt c.len c.step c.offset) c.offset ≡ c.offset
      go zero n = absurd (n refl)
      go (suc r) n = refl

  pub accepted_turns : cursor_refusal c ≡ 0 → turned_to c ≡ dealt c.len c.step c.offset
  unfolding turned_to
  accepted_turns e = ap (λ (r : ℕ). accepted r (dealt c.len c.step c.offset) c.offset) e

  -- a cursor that is not refused has a length and a step of at most 24
  pub in_range : cursor_refusal c ≡ 0 → (c.len ≤ 24) × (c.step ≤ 24)
  unfolding cursor_refusal step_right
  in_range e = go (ltb 0 c.step) (leb c.step 24) refl (ltb 24 c.len) refl (ltb c.len c.offset) e
    where
      go : (a b : Bool) → leb c.step 24 ≡ b → (d : Bool) → ltb 24 c.len ≡ d → (f : Bool) → ◌≡◌ {A = ℕ} (not (a && b) refuses 1 else (d || f) refuses 16 else 0) 0 → (c.len ≤ 24) × (c.step ≤ 24)
      go true true eb false ed f z = (ltb-false 24 c.len ed, leb-true c.step 24 eb)
      go true true eb true ed f z = absurd (omega arith)
      go true false eb d ed f z = absurd (omega arith)
      go false b eb d ed f z = absurd (omega arith)
