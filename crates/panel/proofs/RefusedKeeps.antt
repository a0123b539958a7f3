-- A refused call tells its number, changes nothing lent to it and returns the position it was given: call by call, from the definition of its answer.
-- Assumes nothing.
use mathlib.Core.Path.{◌≡◌, refl}
use Prim.Native.Nat.{ℕ, zero, suc, ◌<◌}
use native.Mathlib.Omega.{arith}
use Rattle.rules.specs.declared.Started.{Started}
use Rattle.rules.specs.declared.Moved.{Moved}
use Rattle.rules.specs.declared.Undone.{Undone}
use Rattle.rules.specs.declared.DealtOnce.{DealtOnce}
use Rattle.rules.specs.Answers.{accepted, deal_answer, resume_answer, save_answer, masks_answer, told, win_answer, sure_win_answer, ladder_answer, test_answer, listing_answer, listing_front, listing_into, piles_answer, piles_buffer, move_answer, move_history, undo_answer, find_answer, offset_answer, heights_answer, deck_answer, deal_once_answer, deal_refusal, resume_refusal, move_refusal, undo_refusal, cursor_refusal}
use Rattle.panel.specs.Calls.{Input, deal, resume, save, masks, test, list_into, list, list_count, move, undo, win, sure_win, ladder, heights, deck, find, offset, face_up, deal_once, deal_once_lent, answer, lent}
use Rattle.panel.specs.Firm.{refusal_of, refused, given, TellsRefusal, RefusedKeeps}

-- opens the answers, and leaves their refusals as they are
unfoldable answers : Unit {0}
unfolding deal_answer resume_answer save_answer masks_answer told win_answer sure_win_answer ladder_answer test_answer listing_answer listing_front listing_into piles_answer piles_buffer move_answer move_history undo_answer find_answer offset_answer heights_answer deck_answer deal_once_answer
answers = tt

-- an answer that is the one or the other as a whole: its number is the refusal
number : {A : Type 0} (f : A → ℕ) (r : ℕ) (new old : A) → f new ≡ 0 → f old ≡ r → f (accepted r new old) ≡ r
number f zero new old e g = e
number f (suc r) new old e g = g

pub tells_refusal : TellsRefusal
unfolding answers
tells_refusal (deal step cards) = number (λ (a : Started). a.refusal) (deal_refusal cards step) _ _ refl refl
tells_refusal (resume step cards code) = number (λ (a : Started). a.refusal) (resume_refusal cards step code) _ _ refl refl
tells_refusal (save p) = refl
tells_refusal (masks p pruned) = refl
tells_refusal (test p kind card) = refl
tells_refusal (list_into p pruned buffer) = refl
tells_refusal (list p pruned buffer place) = refl
tells_refusal (list_count p pruned room) = refl
tells_refusal (move p history count kind card) = number (λ (a : Moved). a.refusal) (move_refusal p history count kind card) _ _ refl refl
tells_refusal (undo p history count) = number (λ (a : Undone). a.refusal) (undo_refusal p history count) _ _ refl refl
tells_refusal (win p) = refl
tells_refusal (sure_win p) = refl
tells_refusal (ladder p q) = refl
tells_refusal (heights p) = refl
tells_refusal (deck p) = refl
tells_refusal (find p card) = refl
tells_refusal (offset p n) = refl
tells_refusal (face_up p buffer) = refl
tells_refusal (deal_once c) = number (λ (a : DealtOnce). a.refusal) (cursor_refusal c) _ _ refl refl
tells_refusal (deal_once_lent c) = refl

-- where the number is not 0, every answer computes to the refused one
keeps : (i : Input) (n : ℕ) → refusal_of i ≡ suc n → (answer i ≡ refused i (refusal_of i)) × (lent i ≡ given i)
unfolding answers
keeps (deal step cards) n e = rw e (refl, refl)
keeps (resume step cards code) n e = rw e (refl, refl)
keeps (save p) n e = rw e (refl, refl)
keeps (masks p pruned) n e = rw e (refl, refl)
keeps (test p kind card) n e = rw e (refl, refl)
keeps (list_into p pruned buffer) n e = rw e (refl, refl)
keeps (list p pruned buffer place) n e = rw e (refl, refl)
keeps (list_count p pruned room) n e = rw e (refl, refl)
keeps (move p history count kind card) n e = rw e (refl, refl)
keeps (undo p history count) n e = rw e (refl, refl)
keeps (win p) n e = rw e (refl, refl)
keeps (sure_win p) n e = rw e (refl, refl)
keeps (ladder p q) n e = rw e (refl, refl)
keeps (heights p) n e = rw e (refl, refl)
keeps (deck p) n e = rw e (refl, refl)
keeps (find p card) n e = rw e (refl, refl)
keeps (offset p k) n e = rw e (refl, refl)
keeps (face_up p buffer) n e = rw e (refl, refl)
keeps (deal_once c) n e = rw e (refl, refl)
keeps (deal_once_lent c) n e = rw (e, lent) (refl, refl)

-- and so for every number above 0
above : (r : ℕ) {A : Type 0} → ((n : ℕ) → r ≡ suc n → A) → 0 < r → A
above zero f h = absurd (omega arith)
above (suc n) f h = f n refl

pub refused_keeps : RefusedKeeps
refused_keeps i = above (refusal_of i) (keeps i)
