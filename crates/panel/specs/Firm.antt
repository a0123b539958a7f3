-- "How firm the contracts are", over the table of Calls; and what a refused call gives and keeps. (Proved in proofs/OneOutcome and proofs/RefusedKeeps)
use Rattle.std.specs.Prelude.{false, ◌≡◌, [], ℕ, ◌<◌, length, replicate}
use Rattle.rules.specs.Fields.{blank}
use Rattle.rules.specs.Answers.{no_masks, deal_refusal, resume_refusal, improper, ladder_refusal, test_refusal, listing_refusal, piles_refusal, move_refusal, undo_refusal, find_refusal, cursor_refusal}
use Rattle.panel.specs.Crossing.{asked}
use Rattle.panel.specs.Calls.{Input, deal, resume, save, masks, test, list_into, list, list_count, move, undo, win, sure_win, ladder, heights, deck, find, offset, face_up, deal_once, deal_once_lent, Answer, answer, Lent, lent}

-- ---- "Show that two outcomes allowed by it coincide"

-- an outcome of a call: what it returns, and what is lent to it as it is at exit
abbrev pub Outcome : Input → Type 0
Outcome i = Answer i × Lent i

-- the contract allows it: it is what the call's rows say
abbrev pub Allowed : (i : Input) → Outcome i → Type 0
Allowed i o = (o.0 ≡ answer i) × (o.1 ≡ lent i)

abbrev pub OneOutcome : Type 0
OneOutcome = (i : Input) (x y : Outcome i) → Allowed i x → Allowed i y → x ≡ y

-- ---- "A refused call changes nothing lent to it and returns the position it was given"

-- the number of each call's refusal, 0 where it is accepted
abbrev pub refusal_of : Input → ℕ
refusal_of (deal step cards) = deal_refusal cards step
refusal_of (resume step cards code) = resume_refusal cards step code
refusal_of (save p) = improper p
refusal_of (masks p pruned) = improper p
refusal_of (test p kind card) = test_refusal p kind card
refusal_of (list_into p pruned buffer) = listing_refusal (asked pruned) p (length buffer)
refusal_of (list p pruned buffer place) = listing_refusal (asked pruned) p (length buffer)
refusal_of (list_count p pruned room) = listing_refusal (asked pruned) p room
refusal_of (move p history count kind card) = move_refusal p history count kind card
refusal_of (undo p history count) = undo_refusal p history count
refusal_of (win p) = improper p
refusal_of (sure_win p) = improper p
refusal_of (ladder p q) = ladder_refusal p q
refusal_of (heights p) = improper p
refusal_of (deck p) = improper p
refusal_of (find p card) = find_refusal p card
refusal_of (offset p n) = improper p
refusal_of (face_up p buffer) = piles_refusal p (length buffer)
refusal_of (deal_once c) = cursor_refusal c
refusal_of (deal_once_lent c) = cursor_refusal c

-- the number that the answer itself tells. Of `list` its twin tells it: `list_count`, for a buffer as long
abbrev pub tells : Input → ℕ
tells (deal step cards) = (answer (deal step cards)).refusal
tells (resume step cards code) = (answer (resume step cards code)).refusal
tells (save p) = (answer (save p)).refusal
tells (masks p pruned) = (answer (masks p pruned)).refusal
tells (test p kind card) = (answer (test p kind card)).refusal
tells (list_into p pruned buffer) = (answer (list_into p pruned buffer)).refusal
tells (list p pruned buffer place) = (answer (list_count p pruned (length buffer))).refusal
tells (list_count p pruned room) = (answer (list_count p pruned room)).refusal
tells (move p history count kind card) = (answer (move p history count kind card)).refusal
tells (undo p history count) = (answer (undo p history count)).refusal
tells (win p) = (answer (win p)).refusal
tells (sure_win p) = (answer (sure_win p)).refusal
tells (ladder p q) = (answer (ladder p q)).refusal
tells (heights p) = (answer (heights p)).refusal
tells (deck p) = (answer (deck p)).refusal
tells (find p card) = (answer (find p card)).refusal
tells (offset p n) = (answer (offset p n)).refusal
tells (face_up p buffer) = (answer (face_up p buffer)).refusal
tells (deal_once c) = (answer (deal_once c)).refusal
tells (deal_once_lent c) = answer (deal_once_lent c)

-- the answer tells its number, accepted or not
abbrev pub TellsRefusal : Type 0
TellsRefusal = (i : Input) → tells i ≡ refusal_of i

-- "Each returns the number and the given position, a move or undo also the given history count, and 0, no or none for all else. .. A fresh deal or resume
-- has no given position and returns the blank one". A cursor "is then unchanged". `list` hands back the front of the buffer, "empty when refused"
abbrev pub refused : (i : Input) → ℕ → Answer i
refused (deal step cards) r = record { refusal = r; position = blank }
refused (resume step cards code) r = record { refusal = r; position = blank }
refused (save p) r = record { refusal = r; position = p; code = 0 }
refused (masks p pruned) r = record { refusal = r; position = p; masks = no_masks }
refused (test p kind card) r = record { refusal = r; position = p; yes = false }
refused (list_into p pruned buffer) r = record { refusal = r; position = p; count = 0 }
refused (list p pruned buffer place) r = ([], place)
refused (list_count p pruned room) r = record { refusal = r; position = p; count = 0 }
refused (move p history count kind card) r = record { refusal = r; position = p; count = count; byte = 0; turned = record { kind = 0; card = 0 } }
refused (undo p history count) r = record { refusal = r; position = p; count = count }
refused (win p) r = record { refusal = r; position = p; yes = false }
refused (sure_win p) r = record { refusal = r; position = p; yes = false }
refused (ladder p q) r = record { refusal = r; first = p; second = q; same = false }
refused (heights p) r = record { refusal = r; position = p; heights = replicate 4 0 }
refused (deck p) r = record { refusal = r; position = p; cards = replicate 24 0; left = 0; offset = 0 }
refused (find p card) r = record { refusal = r; position = p; found = false; place = 0 }
refused (offset p n) r = record { refusal = r; position = p; offset = 0 }
refused (face_up p buffer) r = record { refusal = r; position = p; lengths = replicate 7 0 }
refused (deal_once c) r = record { refusal = r; cursor = c }
refused (deal_once_lent c) r = r

-- what is lent to the call, as it is given
abbrev pub given : (i : Input) → Lent i
given (deal step cards) = cards
given (resume step cards code) = cards
given (save p) = tt
given (masks p pruned) = tt
given (test p kind card) = tt
given (list_into p pruned buffer) = buffer
given (list p pruned buffer place) = tt
given (list_count p pruned room) = tt
given (move p history count kind card) = history
given (undo p history count) = history
given (win p) = tt
given (sure_win p) = tt
given (ladder p q) = tt
given (heights p) = tt
given (deck p) = tt
given (find p card) = tt
given (offset p n) = tt
given (face_up p buffer) = buffer
given (deal_once c) = tt
given (deal_once_lent c) = c

-- "lent memory keeps its bytes". `list` is the exception, by the language: while the front that it returns lives, its caller may write there, so nothing is
-- promised of the buffer afterwards. `list_into`, which it calls, keeps the buffer
abbrev pub RefusedKeeps : Type 0
RefusedKeeps = (i : Input) → 0 < refusal_of i → (answer i ≡ refused i (refusal_of i)) × (lent i ≡ given i)
