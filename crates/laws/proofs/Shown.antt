-- Demand 3's hypothesis is needed: a card that is turned up shows. Two deals that differ at two places, one of which a move turns up; from then on each of
-- the calls here is answered otherwise in the two games. By computation. Assumes nothing.
use mathlib.Core.Bool.{Bool, true, false, not, cond, true≢false}
use mathlib.Core.Path.{◌≡◌, refl, sym, ap, ◌∙◌}
use mathlib.Core.List.{List, [], ◌∷◌, ◌++◌}
use Prim.Native.Nat.{ℕ, ◌<◌}
use lib.ListN.{length, get_or, replicate}
use Rattle.rules.specs.declared.Position.{Position}
use Rattle.rules.specs.Bits.{all_of, same_list}
use Rattle.rules.specs.Proper.{proper}
use Rattle.rules.specs.Piles.{pile_bytes}
use Rattle.rules.specs.Answers.{masks_for}
use Rattle.rules.specs.History.{step_back}
use Rattle.rules.specs.Secrecy.{Call, move, undo, masks, list, test, face_up, heights, save, ladder, next, answers_of, Start, started}
use Rattle.rules.specs.Worked.{W, masks as five_masks}
use Rattle.rules.proofs.Open.{rules, rules_but}
use Rattle.bits.proofs.Searches.{all_yes}
use Rattle.rules.proofs.SameList.{list_same}
use Rattle.laws.proofs.Games.{Row, row, calls_of, sights_of, seen_by, made_by, Game, game}
use Rattle.laws.proofs.NotVacuous.{at, cards_from28, code, late, later, fair_then}

-- two games answer otherwise, each of the calls
abbrev pub Differ : List ℕ → List ℕ → ℕ → Start → List (ℕ × Call) → Type 0
Differ d e step s cs =
    (i : ℕ) → i < length cs
    → get_or (answers_of (started d step s).position cs) i [] ≡ get_or (answers_of (started e step s).position cs) i [] → ⊥

-- W with its places 7 and 17 exchanged. In the resumed game of NotVacuous PileStack 18 then turns up 7, which can go up at once, where in W it turns up 17
unfoldable pub W'' : List ℕ
W'' =
    0 ∷ 1 ∷ 2 ∷ 3 ∷ 4 ∷ 5 ∷ 6 ∷ 17 ∷ 8 ∷ 9 ∷ 10 ∷ 11 ∷ 12 ∷ 13 ∷ 14 ∷ 15 ∷ 16 ∷ 7 ∷ 18 ∷ 19 ∷ 20 ∷ 21 ∷ 22 ∷ 23 ∷ 24 ∷ 25 ∷ 26 ∷ 27 ∷ 28 ∷ 29 ∷ 30 ∷ 31 ∷ 32 ∷ 33 ∷ 34 ∷ 35 ∷ 36 ∷ 37 ∷ 38 ∷ 39 ∷ 40 ∷ 41 ∷ 42 ∷ 43 ∷ 44 ∷ 45 ∷ 46 ∷ 47 ∷ 48 ∷ 49 ∷ 50 ∷ 51 ∷ []

-- the positions of that game: after PileStack 18; after PileStack 7
abbrev seven_up : Position
seven_up = at W'' (0 ∷ 0 ∷ 0 ∷ 4 ∷ 0 ∷ 3 ∷ 2 ∷ []) (1 ∷ 1 ∷ 5 ∷ 4 ∷ []) (cards_from28 0) 0 0 0xFFFFFFFD84280

abbrev seven_gone : Position
seven_gone = at W'' (0 ∷ 0 ∷ 0 ∷ 4 ∷ 0 ∷ 2 ∷ 2 ∷ []) (1 ∷ 2 ∷ 5 ∷ 4 ∷ []) (cards_from28 0) 0 0 0xFFFFFFFD94200

-- the game of W where b is true, and that of W''
unfoldable pub shown_table : Bool → List Row
shown_table b =
    row 0 (move 1 18 (0 ∷ 0 ∷ []) 0) ((0 ∷ 1 ∷ 1 ∷ []) ∷ (2 ∷ cond b 17 7 ∷ []) ∷ (594 ∷ 0 ∷ []) ∷ []) (cond b (later W) seven_up)
    ∷ row 0 (masks false) ((0 ∷ []) ∷ cond b (0x420000 ∷ 0x100000 ∷ 0 ∷ 0 ∷ 0x42000 ∷ []) (0x400000 ∷ 0x100080 ∷ 0 ∷ 0 ∷ 0x40000 ∷ []) ∷ []) (cond b (later W) seven_up)
    ∷ row 0 (masks true) ((0 ∷ []) ∷ cond b (0x20000 ∷ 0x100000 ∷ 0 ∷ 0 ∷ 0x40000 ∷ []) (0 ∷ 0x80 ∷ 0 ∷ 0 ∷ 0 ∷ []) ∷ []) (cond b (later W) seven_up)
    ∷ row 0 (list false (9 ∷ 9 ∷ 9 ∷ 9 ∷ 9 ∷ []))
    (cond b ((0 ∷ 5 ∷ []) ∷ (273 ∷ 278 ∷ 84 ∷ 205 ∷ 210 ∷ []) ∷ (273 ∷ 278 ∷ 84 ∷ 205 ∷ 210 ∷ []) ∷ [])
    ((0 ∷ 4 ∷ []) ∷ (278 ∷ 71 ∷ 84 ∷ 210 ∷ []) ∷ (278 ∷ 71 ∷ 84 ∷ 210 ∷ 9 ∷ []) ∷ []))
    (cond b (later W) seven_up)
    ∷ row 0 (test 1 7) ((0 ∷ cond b 0 1 ∷ []) ∷ []) (cond b (later W) seven_up)
    ∷ row 0 (face_up (replicate 91 0))
    ((0 ∷ []) ∷ (8 ∷ 7 ∷ 7 ∷ 1 ∷ 10 ∷ 1 ∷ 1 ∷ [])
    ∷ pile_bytes
    ((48 ∷ 44 ∷ 40 ∷ 36 ∷ 32 ∷ 28 ∷ 24 ∷ 20 ∷ []) ∷ (49 ∷ 45 ∷ 41 ∷ 37 ∷ 33 ∷ 29 ∷ 25 ∷ []) ∷ (50 ∷ 46 ∷ 42 ∷ 38 ∷ 34 ∷ 30 ∷ 26 ∷ []) ∷ (9 ∷ [])
    ∷ (51 ∷ 47 ∷ 43 ∷ 39 ∷ 35 ∷ 31 ∷ 27 ∷ 23 ∷ 19 ∷ 14 ∷ [])
    ∷ (cond b 17 7 ∷ [])
    ∷ (22 ∷ [])
    ∷ [])
    ∷ [])
    (cond b (later W) seven_up)
    -- 7 goes up, and 16 is turned up; in W 7 is face down, and the move is refused
    ∷ row 0 (move 1 7 (594 ∷ 0 ∷ []) 1)
    (cond b ((11 ∷ 1 ∷ 0 ∷ []) ∷ (0 ∷ []) ∷ (594 ∷ 0 ∷ []) ∷ []) ((0 ∷ 2 ∷ 1 ∷ []) ∷ (2 ∷ 16 ∷ []) ∷ (594 ∷ 583 ∷ []) ∷ []))
    (cond b (later W) seven_gone)
    ∷ row 0 heights ((0 ∷ []) ∷ (1 ∷ cond b 1 2 ∷ 5 ∷ 4 ∷ []) ∷ []) (cond b (later W) seven_gone)
    ∷ row 0 save ((0 ∷ cond b 0x30304511 0x2D604521 ∷ []) ∷ []) (cond b (later W) seven_gone)
    -- is this still the position after PileStack 18; PileStack 7 undone
    ∷ row 0 (ladder 0 3) ((0 ∷ cond b 1 0 ∷ []) ∷ []) (cond b (later W) seven_gone)
    ∷ row 0 (undo (594 ∷ 583 ∷ []) 2) ((cond b 15 0 ∷ cond b 2 1 ∷ []) ∷ []) (cond b (later W) seven_up)
    ∷ []

-- the calls of both
unfoldable pub shown_calls : List (ℕ × Call)
shown_calls = calls_of (shown_table true)

-- what is computed once: the positions are proper, but not the one before a PileStack 7 in W; the masks
abbrev Fair : Type 0
Fair =
    (proper (step_back (later W) 583) ≡ false) × (masks_for false (later W) ≡ five_masks 0x420000 0x100000 0 0 0x42000)
    × (masks_for true (later W) ≡ five_masks 0x20000 0x100000 0 0 0x40000)

fair : Fair
unfolding rules
fair = (refl, refl, refl)

abbrev Fair'' : Type 0
Fair'' =
    (proper (late W'') ≡ true) × (proper seven_up ≡ true) × (proper seven_gone ≡ true)
    × (masks_for false seven_up ≡ five_masks 0x400000 0x100080 0 0 0x40000)
    × (masks_for true seven_up ≡ five_masks 0 0x80 0 0 0)

fair'' : Fair''
unfolding rules W''
fair'' = (refl, refl, refl, refl, refl)

-- the games go as the table says
shown_w : Game (started W 3 code) (late W) shown_calls (shown_table true)
unfolding rules_but shown_table shown_calls seen_by made_by
shown_w =
    let f = fair_then.0 in
    game (started W 3 code) (late W) shown_calls (shown_table true) refl refl (simp (f.0, f.1, fair.0, fair.1, fair.2)) (rw (f.0, f.1, fair.0, next))

shown_w'' : Game (started W'' 3 code) (late W'') shown_calls (shown_table false)
unfolding rules_but W'' shown_table shown_calls seen_by made_by
shown_w'' =
    let f = fair'' in
    game (started W'' 3 code) (late W'') shown_calls (shown_table false) refl refl (simp (f.0, f.1, f.2, f.3, f.4)) (rw (f.0, f.1, f.2, next))

-- the numbers of an answer, one after the other
unfoldable flat : List (List ℕ) → List ℕ
flat [] = []
flat (x ∷ xs) = x ++ flat xs

-- two lists of answers that differ in each, by one test
apart : (xs ys : List (List (List ℕ))) (n : ℕ) → all_of n (λ i. not (same_list (flat (get_or xs i [])) (flat (get_or ys i [])))) ≡ true → (i : ℕ) → i < n → get_or xs i [] ≡ get_or ys i [] → ⊥
apart xs ys n h i l e =
    true≢false
    (sym (all_yes n (λ j. not (same_list (flat (get_or xs j [])) (flat (get_or ys j [])))) h i l)
    ∙ ap not (ap (λ (x : List (List ℕ)). same_list (flat x) (flat (get_or ys i []))) e ∙ list_same (flat (get_or ys i []))))

all_apart : all_of (length shown_calls) (λ i. not (same_list (flat (get_or (sights_of (shown_table true)) i [])) (flat (get_or (sights_of (shown_table false)) i [])))) ≡ true
unfolding rules shown_table shown_calls flat
all_apart = refl

pub shows : Differ W W'' 3 code shown_calls
shows i l e = apart (sights_of (shown_table true)) (sights_of (shown_table false)) (length shown_calls) all_apart i l (rw (shown_w.answers, shown_w''.answers) at e)
