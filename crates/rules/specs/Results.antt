-- What a call gives in Rattle, a Result, as the plain answer that crosses to C: the refusal's number, 0 where there is none, the position, and what is given
-- or, refused, the document's "0, no or none".
use Rattle.std.specs.Prelude.{Bool, false, cond, ⊤, ℕ, List, replicate, Result, Ok, Err}
use Rattle.rules.specs.declared.Position.{Position}
use Rattle.rules.specs.declared.Masks.{Masks}
use Rattle.rules.specs.declared.Cursor.{Cursor}
use Rattle.rules.specs.declared.Step.{Step}
use Rattle.rules.specs.declared.StepBack.{StepBack}
use Rattle.rules.specs.declared.Found.{Found}
use Rattle.rules.specs.declared.DeckLeft.{DeckLeft}
use Rattle.rules.specs.declared.Started.{Started}
use Rattle.rules.specs.declared.Moved.{Moved}
use Rattle.rules.specs.declared.Undone.{Undone}
use Rattle.rules.specs.declared.Saved.{Saved}
use Rattle.rules.specs.declared.Masked.{Masked}
use Rattle.rules.specs.declared.Listed.{Listed}
use Rattle.rules.specs.declared.Told.{Told}
use Rattle.rules.specs.declared.Compared.{Compared}
use Rattle.rules.specs.declared.Piled.{Piled}
use Rattle.rules.specs.declared.Located.{Located}
use Rattle.rules.specs.declared.Offset.{Offset}
use Rattle.rules.specs.declared.Heights.{Heights}
use Rattle.rules.specs.declared.DeckView.{DeckView}
use Rattle.rules.specs.declared.DealtOnce.{DealtOnce}
use Rattle.rules.specs.declared.TurnedUp.TheVariants.{Nothing}
use Rattle.rules.specs.declared.Refusal.{Refusal}
use Rattle.rules.specs.declared.Refusal.TheVariants.{WrongStep, WrongLength, NoCard, SameCard, WrongHeight, WrongPiles, WrongOffset, Overlapping, Unarranged, NoSuchMove, NotLegal, HistoryFull, NothingToUndo, WrongCount, WrongEntry, NotProper, TooShort}
use Rattle.rules.specs.Answers.{no_masks}
use Rattle.rules.specs.Fields.{blank}
use Rattle.rules.specs.Refusals.{wrong_step, wrong_length, no_card, same_card, wrong_height, wrong_piles, wrong_offset, overlapping, unarranged, no_such_move, not_legal, history_full, nothing_to_undo, wrong_count, wrong_entry, not_proper, too_short}

-- the number of each refusal
abbrev pub number : Refusal → ℕ
number WrongStep = wrong_step
number WrongLength = wrong_length
number NoCard = no_card
number SameCard = same_card
number WrongHeight = wrong_height
number WrongPiles = wrong_piles
number WrongOffset = wrong_offset
number Overlapping = overlapping
number Unarranged = unarranged
number NoSuchMove = no_such_move
number NotLegal = not_legal
number HistoryFull = history_full
number NothingToUndo = nothing_to_undo
number WrongCount = wrong_count
number WrongEntry = wrong_entry
number NotProper = not_proper
number TooShort = too_short

-- a Result's number, 0 where the call is accepted; and what it gives, or else what stands in its place
abbrev pub refusal_of : {A : Type 0} → Result A Refusal → ℕ
refusal_of (Ok given) = 0
refusal_of (Err refusal) = number refusal

abbrev pub given_or : {A : Type 0} → A → Result A Refusal → A
given_or other (Ok given) = given
given_or other (Err refusal) = other

-- a test that is passed, or else refused
unfoldable pub passes : Bool → Refusal → Result ⊤ Refusal
passes b e = cond b (Ok tt) (Err e)

-- ---- the plain answer of each call: of the position that it was given, and of its Result

-- a deal and a resume: refused, the blank position
abbrev pub started_of : Result Position Refusal → Started
started_of r = record { refusal = refusal_of r; position = given_or blank r }

abbrev pub saved_of : Position → Result ℕ Refusal → Saved
saved_of p r = record { refusal = refusal_of r; position = p; code = given_or 0 r }

abbrev pub masked_of : Position → Result Masks Refusal → Masked
masked_of p r = record { refusal = refusal_of r; position = p; masks = given_or no_masks r }

abbrev pub listed_of : Position → Result ℕ Refusal → Listed
listed_of p r = record { refusal = refusal_of r; position = p; count = given_or 0 r }

abbrev pub told_of : Position → Result Bool Refusal → Told
told_of p r = record { refusal = refusal_of r; position = p; yes = given_or false r }

abbrev pub compared_of : Position → Position → Result Bool Refusal → Compared
compared_of p q r = record { refusal = refusal_of r; first = p; second = q; same = given_or false r }

abbrev pub piled_of : Position → Result (List ℕ) Refusal → Piled
piled_of p r = record { refusal = refusal_of r; position = p; lengths = given_or (replicate 7 0) r }

abbrev pub located_of : Position → Result Found Refusal → Located
located_of p r =
    let f = given_or (record { found = false; place = 0 }) r in
    record { refusal = refusal_of r; position = p; found = f.found; place = f.place }

abbrev pub offset_of : Position → Result ℕ Refusal → Offset
offset_of p r = record { refusal = refusal_of r; position = p; offset = given_or 0 r }

abbrev pub heights_of : Position → Result (List ℕ) Refusal → Heights
heights_of p r = record { refusal = refusal_of r; position = p; heights = given_or (replicate 4 0) r }

abbrev pub view_of : Position → Result DeckLeft Refusal → DeckView
view_of p r =
    let d = given_or (record { cards = replicate 24 0; left = 0; offset = 0 }) r in
    record { refusal = refusal_of r; position = p; cards = d.cards; left = d.left; offset = d.offset }

-- a move and an undo: refused, the given position and count
abbrev pub moved_of : Position → ℕ → Result Step Refusal → Moved
moved_of p n r =
    let m = given_or (record { position = p; count = n; byte = 0; turned = Nothing }) r in
    record { refusal = refusal_of r; position = m.position; count = m.count; byte = m.byte; turned = m.turned }

abbrev pub undone_of : Position → ℕ → Result StepBack Refusal → Undone
undone_of p n r =
    let b = given_or (record { position = p; count = n }) r in
    record { refusal = refusal_of r; position = b.position; count = b.count }

-- a cursor: refused, as it was
abbrev pub dealt_of : Cursor → Result Cursor Refusal → DealtOnce
dealt_of c r = record { refusal = refusal_of r; cursor = given_or c r }
