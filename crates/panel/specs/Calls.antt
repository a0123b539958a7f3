-- "Every public function carries a contract that determines the answer, the refusal number and the later content of each lent slice from the input
-- alone." The table of the public calls: every call with all that it is given, and a row each for what it returns and for what is lent to it.
-- Each function of src/lib.rt says in its contract that it meets its rows, so that a wrong row is refused at that function.
use Rattle.std.specs.Prelude.{List, ℕ, length}
use Rattle.rules.specs.declared.Position.{Position}
use Rattle.rules.specs.declared.Cursor.{Cursor}
use Rattle.rules.specs.declared.Started.{Started}
use Rattle.rules.specs.declared.Undone.{Undone}
use Rattle.rules.specs.declared.Saved.{Saved}
use Rattle.rules.specs.declared.Masked.{Masked}
use Rattle.rules.specs.declared.Listed.{Listed}
use Rattle.rules.specs.declared.Told.{Told}
use Rattle.rules.specs.declared.Compared.{Compared}
use Rattle.rules.specs.declared.Piled.{Piled}
use Rattle.rules.specs.declared.Located.{Located}
use Rattle.rules.specs.declared.Offset.{Offset}
use Rattle.rules.specs.declared.Heights.{Heights}
use Rattle.rules.specs.declared.DeckView.{DeckView}
use Rattle.rules.specs.declared.DealtOnce.{DealtOnce}
use Rattle.rules.specs.Answers.{deal_answer, resume_answer, save_answer, masks_answer, win_answer, sure_win_answer, ladder_answer, test_answer, listing_answer, listing_front, listing_into, piles_answer, piles_buffer, move_answer, move_history, undo_answer, find_answer, offset_answer, heights_answer, deck_answer, cursor_refusal, deal_once_answer}
use Rattle.panel.specs.declared.MovedNumbers.{MovedNumbers}
use Rattle.panel.specs.Crossing.{asked, moved_numbers}

-- where a slice begins: its block of memory, and how far in
abbrev pub Place : Type 0
Place = ℕ × ℕ

-- every public call with all that it is given, in the order of its parameters. `pruned` is the byte that asks for the pruned moves: 0 is no
pub data Input : Type 0 where
  deal : (step : ℕ) (cards : List ℕ) → Input
  resume : (step : ℕ) (cards : List ℕ) (code : ℕ) → Input
  save : (p : Position) → Input
  masks : (p : Position) (pruned : ℕ) → Input
  test : (p : Position) (kind card : ℕ) → Input
  list_into : (p : Position) (pruned : ℕ) (buffer : List ℕ) → Input
  list : (p : Position) (pruned : ℕ) (buffer : List ℕ) (place : Place) → Input
  list_count : (p : Position) (pruned room : ℕ) → Input
  move : (p : Position) (history : List ℕ) (count kind card : ℕ) → Input
  undo : (p : Position) (history : List ℕ) (count : ℕ) → Input
  win : (p : Position) → Input
  sure_win : (p : Position) → Input
  ladder : (p q : Position) → Input
  heights : (p : Position) → Input
  deck : (p : Position) → Input
  find : (p : Position) (card : ℕ) → Input
  offset : (p : Position) (n : ℕ) → Input
  face_up : (p : Position) (buffer : List ℕ) → Input
  deal_once : (c : Cursor) → Input
  deal_once_lent : (c : Cursor) → Input

-- ---- what a call returns: its type, and what it is. The refusal is a part of it

-- `list` returns the front of the buffer itself: what that holds, and where it lies
abbrev pub Answer : Input → Type 0
Answer (deal step cards) = Started
Answer (resume step cards code) = Started
Answer (save p) = Saved
Answer (masks p pruned) = Masked
Answer (test p kind card) = Told
Answer (list_into p pruned buffer) = Listed
Answer (list p pruned buffer place) = List ℕ × Place
Answer (list_count p pruned room) = Listed
Answer (move p history count kind card) = MovedNumbers
Answer (undo p history count) = Undone
Answer (win p) = Told
Answer (sure_win p) = Told
Answer (ladder p q) = Compared
Answer (heights p) = Heights
Answer (deck p) = DeckView
Answer (find p card) = Located
Answer (offset p n) = Offset
Answer (face_up p buffer) = Piled
Answer (deal_once c) = DealtOnce
Answer (deal_once_lent c) = ℕ

abbrev pub answer : (i : Input) → Answer i
answer (deal step cards) = deal_answer cards step
answer (resume step cards code) = resume_answer cards step code
answer (save p) = save_answer p
answer (masks p pruned) = masks_answer (asked pruned) p
answer (test p kind card) = test_answer p kind card
answer (list_into p pruned buffer) = listing_answer (asked pruned) p (length buffer)
answer (list p pruned buffer place) = (listing_front (asked pruned) p buffer, place)
answer (list_count p pruned room) = listing_answer (asked pruned) p room
answer (move p history count kind card) = moved_numbers (move_answer p history count kind card)
answer (undo p history count) = undo_answer p history count
answer (win p) = win_answer p
answer (sure_win p) = sure_win_answer p
answer (ladder p q) = ladder_answer p q
answer (heights p) = heights_answer p
answer (deck p) = deck_answer p
answer (find p card) = find_answer p card
answer (offset p n) = offset_answer p n
answer (face_up p buffer) = piles_answer p (length buffer)
answer (deal_once c) = deal_once_answer c
answer (deal_once_lent c) = cursor_refusal c

-- ---- what is lent to a call: its type, Unit where nothing is, and what it holds at exit

-- Of `list`'s buffer the contract says nothing: the returned front is a part of it, and the caller may write there while that lives.
-- `list_into` says what the whole buffer holds
abbrev pub Lent : Input → Type 0
Lent (deal step cards) = List ℕ
Lent (resume step cards code) = List ℕ
Lent (save p) = Unit
Lent (masks p pruned) = Unit
Lent (test p kind card) = Unit
Lent (list_into p pruned buffer) = List ℕ
Lent (list p pruned buffer place) = Unit
Lent (list_count p pruned room) = Unit
Lent (move p history count kind card) = List ℕ
Lent (undo p history count) = List ℕ
Lent (win p) = Unit
Lent (sure_win p) = Unit
Lent (ladder p q) = Unit
Lent (heights p) = Unit
Lent (deck p) = Unit
Lent (find p card) = Unit
Lent (offset p n) = Unit
Lent (face_up p buffer) = List ℕ
Lent (deal_once c) = Unit
Lent (deal_once_lent c) = Cursor

-- the cards of a deal and a resume and the history of an undo are only read: "leaves the slice"
abbrev pub lent : (i : Input) → Lent i
lent (deal step cards) = cards
lent (resume step cards code) = cards
lent (save p) = tt
lent (masks p pruned) = tt
lent (test p kind card) = tt
lent (list_into p pruned buffer) = listing_into (asked pruned) p buffer
lent (list p pruned buffer place) = tt
lent (list_count p pruned room) = tt
lent (move p history count kind card) = move_history p history count kind card
lent (undo p history count) = history
lent (win p) = tt
lent (sure_win p) = tt
lent (ladder p q) = tt
lent (heights p) = tt
lent (deck p) = tt
lent (find p card) = tt
lent (offset p n) = tt
lent (face_up p buffer) = piles_buffer p buffer
lent (deal_once c) = tt
lent (deal_once_lent c) = (deal_once_answer c).cursor
