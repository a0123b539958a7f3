-- Every demand of document 01 besides the contracts, as one line each: the theorem's name and the statement that it proves. The statements stand in
-- rules/specs (Demands, Secrecy, Worked), those about the table of calls in panel/specs (Firm), under the document's sentences. The six main ones come first.
-- Nothing is assumed.
use Rattle.rules.specs.Dealing.{DealsRight}
use Rattle.rules.specs.Worked.{W, Worked}
use Rattle.rules.specs.Secrecy.{dealt_fresh, KeepsSecrets}
use Rattle.panel.specs.Firm.{OneOutcome, TellsRefusal, RefusedKeeps}
use Rattle.rules.specs.Demands.{MovesKeepProper, UndoAfterMove, UndoSame, UndoWholeGame, RefusalExact, SaveResumeInverse, PrunedWithin, FreshProper, ResumedProper, CodeOfOne, UndoableSound, UndoableComplete, UndoableUnshaped, EarlierUnique, EntriesFit, ListedWithin, ListsLegal, ListsFew, ShownOnce, BytesShowOnce, PilesArranged}
use Rattle.rules.proofs.DealsLaw.{deals_right as deals}
use Rattle.rules.proofs.PrunedLaw.{pruned_within as within}
use Rattle.rules.proofs.Worked.{worked}
use Rattle.facts.proofs.MovesProper.{moves_keep_proper as kept-proper}
use Rattle.laws.proofs.UndoMove.{undo_after_move as undone}
use Rattle.laws.proofs.UndoAlike.{undo_same as same}
use Rattle.laws.proofs.UndoWhole.{undo_whole_game as whole}
use Rattle.laws.proofs.UndoSound.{undoable_sound as sound}
use Rattle.laws.proofs.UndoExact.{refusal_exact as exact, undoable_complete as complete, earlier_unique as unique}
use Rattle.laws.proofs.ShapeNeeded.{shape_needed as needed}
use Rattle.facts.proofs.EntryFits.{entries_fit as fit}
use Rattle.laws.proofs.CodeResumes.{resumes_saved}
use Rattle.laws.proofs.SavesResumed.{saves_resumed, resumed_right}
use Rattle.facts.proofs.FreshProper.{fresh_proper as fresh}
use Rattle.laws.proofs.OneCode.{code_of_one as one_code}
use Rattle.laws.proofs.Listed.{listed_within as listed, lists_legal as legal}
use Rattle.laws.proofs.Few.{lists_few as few}
use Rattle.laws.proofs.ShownOnce.{shows_once as shown}
use Rattle.laws.proofs.PileBytes.{bytes_show_once as bytes}
use Rattle.laws.proofs.PilesArranged.{piles_arranged as arranged}
use Rattle.laws.proofs.Games.{Meets, Answer}
use Rattle.laws.proofs.NotVacuous.{W', calls, sights, code, calls_then, sights_then, meets_fresh, answers_fresh, meets_resumed, answers_resumed}
use Rattle.laws.proofs.Leaks.{LeaksNoticed, leaks_noticed as noticed}
use Rattle.laws.proofs.Shown.{W'', Differ, shown_calls, shows}
use Rattle.laws.proofs.Secrets.{keeps_secrets as secrets}
use Rattle.panel.proofs.OneOutcome.{one_outcome as outcome}
use Rattle.panel.proofs.RefusedKeeps.{tells_refusal as tells, refused_keeps as kept}

-- ---- the six

pub moves_keep_proper : MovesKeepProper
moves_keep_proper = kept-proper

pub undo_after_move : UndoAfterMove
undo_after_move = undone

pub refusal_15_exact : RefusalExact
refusal_15_exact = exact

pub save_resume_inverse : SaveResumeInverse
save_resume_inverse = (resumes_saved, saves_resumed)

pub pruned_within_unpruned : PrunedWithin
pruned_within_unpruned = within

pub nothing_hidden_shows : KeepsSecrets
nothing_hidden_shows = secrets

-- ---- and the last speaks of something: two different deals and two runs, one fresh and one resumed, that meet its hypotheses; what both games answer;
-- a leak in any of the 14 kinds of call would make them differ; a card turned up shows

pub fresh_runs : Meets W W' 3 dealt_fresh calls
fresh_runs = meets_fresh

pub fresh_answers : Answer W W' 3 dealt_fresh calls sights
fresh_answers = answers_fresh

pub resumed_runs : Meets W W' 3 code calls_then
resumed_runs = meets_resumed

pub resumed_answers : Answer W W' 3 code calls_then sights_then
resumed_answers = answers_resumed

pub leaks_noticed : LeaksNoticed
leaks_noticed = noticed

pub turned_up_shows : Differ W W'' 3 code shown_calls
turned_up_shows = shows

-- ---- the worked rows P1 to P14, as one table

pub worked_rows : Worked
worked_rows = worked

-- ---- every contract allows one outcome; an answer tells its refusal; "A refused call changes nothing lent to it and returns the position it was given"

pub one_outcome : OneOutcome
one_outcome = outcome

pub tells_refusal : TellsRefusal
tells_refusal = tells

pub refused_keeps : RefusedKeeps
refused_keeps = kept

-- ---- the positions that a game begins with

pub fresh_proper : FreshProper
fresh_proper = fresh

pub resumed_proper : ResumedProper
resumed_proper = resumed_right

pub code_of_one : CodeOfOne
code_of_one = one_code

-- ---- undo and the history

pub undo_whole_game : UndoWholeGame
undo_whole_game = whole

pub undo_same : UndoSame
undo_same = same

pub undoable_sound : UndoableSound
undoable_sound = sound

pub undoable_complete : UndoableComplete
undoable_complete = complete

pub earlier_unique : EarlierUnique
earlier_unique = unique

pub shape_needed : UndoableUnshaped → ⊥
shape_needed = needed

pub entries_fit : EntriesFit
entries_fit = fit

-- ---- the deck, the masks and the listing

pub deals_right : DealsRight
deals_right = deals

pub listed_within : ListedWithin
listed_within = listed

pub lists_legal : ListsLegal
lists_legal = legal

pub lists_few : ListsFew
lists_few = few

-- ---- the face-up piles

pub shown_once : ShownOnce
shown_once = shown

pub bytes_show_once : BytesShowOnce
bytes_show_once = bytes

pub piles_arranged : PilesArranged
piles_arranged = arranged
