-- The two games of NotVacuous would tell a leak apart. Beside each kind of call stands what a careless engine might add to its answer, read off a card that
-- is face down; for every kind the runs have a call for which that differs in the two games. By computation. Assumes nothing.
use mathlib.Core.Bool.{Bool, true, not, ◌&&◌, ◌||◌}
use mathlib.Core.Path.{◌≡◌, refl, sym, subst}
use mathlib.Core.List.{List, [], ◌∷◌, map}
use Prim.Native.Nat.{ℕ, ◌+◌, ◌-◌, ◌*◌, ◌%◌, ◌<◌}
use lib.Dec.{T, eqb, ltb, leb}
use lib.ListN.{length, get_or}
use Rattle.rules.specs.declared.Position.{Position}
use Rattle.rules.specs.Bits.{num, mask_of, count_of, all_of, any_of, first_of, list_of, same_list, table}
use Rattle.rules.specs.Cards.{rank, card_of}
use Rattle.rules.specs.Places.{card_at, pile_card, count, height, is_head, pile_of}
use Rattle.rules.specs.Hidden.{sum_of}
use Rattle.rules.specs.Dealing.{deals}
use Rattle.rules.specs.Legal.{is_next}
use Rattle.rules.specs.History.{entry_card}
use Rattle.rules.specs.Fields.{blank}
use Rattle.rules.specs.Answers.{last_entry}
use Rattle.rules.specs.Secrecy.{Call, move, undo, masks, list, test, face_up, heights, deck, find, offset, save, win, sure_win, ladder, positions_of, Start, dealt_fresh, started}
use Rattle.rules.specs.Worked.{W}
use Rattle.rules.proofs.Open.{rules}
use Rattle.rules.proofs.Among.{among}
use Rattle.bits.proofs.Searches.{all_yes}
use Rattle.laws.proofs.Games.{given_of}
use Rattle.laws.proofs.NotVacuous.{W', first, fresh_table, calls, fresh_w_lem, fresh_w', code, late, resumed_table, calls_then, resumed_w, resumed_w'}

-- the card right under the head of pile i; those of all the piles that have one
unfoldable pub under_head : Position → ℕ → ℕ
under_head p i = pile_card p i (count p i - 2)

unfoldable pub covered_cards : Position → List ℕ
covered_cards p = map (under_head p) (list_of 7 0 (λ i. ltb 1 (count p i)))

-- that card is next on its foundation
unfoldable pub wanted : Position → ℕ → Bool
wanted p i = ltb 1 (count p i) && is_next p (under_head p i)

-- the cards face down fall in rank in each pile, from the base up: none lies in the way of one that goes up before it
unfoldable pub falls : Position → Bool
falls p = all_of 7 (λ i. all_of (count p i - 2) (λ k. leb (rank (pile_card p i (k + 1))) (rank (pile_card p i k))))

-- a number that the order of the whole deal gives
unfoldable pub checksum : Position → ℕ
checksum p = sum_of 52 (λ k. k * card_at p k)

-- what each call might tell beside its answer; ps are the positions so far, latest first
unfoldable pub leak : List Position → Position → Call → List ℕ
-- a move that told one card more: the one under the card that it turns up
leak ps p (move kind card history n) = pile_card p (pile_of p card) (count p (pile_of p card) - 3) ∷ []
-- an undo that took the entry's word: the pile of the entry's card, wherever that lies
leak ps p (undo history n) = pile_of p (entry_card (last_entry history n)) ∷ []
-- masks and a list that mark the heads with a wanted card under them
leak ps p (masks asked) = mask_of 52 (λ c. is_head p c && wanted p (pile_of p c)) ∷ []
leak ps p (list asked buffer) = list_of 52 256 (λ c. is_head p c && wanted p (pile_of p c))
-- a test that takes the card right under a head for visible
leak ps p (test kind card) = num (is_next p card && among (covered_cards p) card) ∷ []
-- columns that begin one card too deep
leak ps p (face_up buffer) = covered_cards p
-- heights that count a wanted card right under a head as up
leak ps p heights = table 4 (λ s. height p s + num (among (covered_cards p) (card_of (height p s) s)))
-- a deck that begins one pile too early, at place 21: its first card
leak ps p deck = card_at p 21 ∷ []
-- a search along the whole deal
leak ps p (find card) = first_of 52 (λ k. eqb (card_at p k) card) ∷ []
-- deals from a place that is drawn from the deal
leak ps p (offset n) = deals p.left p.step n (checksum p % (p.left + 1)) ∷ []
-- a code with a checksum of the deal
leak ps p save = checksum p ∷ []
-- a win that is called early, where the cards face down fall in rank; and a sure one
leak ps p win = num (falls p) ∷ []
leak ps p sure_win = num (leb p.left 1 && falls p) ∷ []
-- a ladder that takes positions for the same where as many wanted cards lie right under heads
leak ps p (ladder i j) = num (eqb (count_of 7 (wanted (get_or ps i blank))) (count_of 7 (wanted (get_or ps j blank)))) ∷ []

-- the same of each call of a run. qs are the positions that the calls give
unfoldable pub leaks_from : Position → List Position → List (ℕ × Call) → List Position → List (List ℕ)
leaks_from s ps [] qs = []
leaks_from s ps (c ∷ cs) [] = []
leaks_from s ps (c ∷ cs) (q ∷ qs) = leak ps (get_or ps c.0 s) c.1 ∷ leaks_from s (q ∷ ps) cs qs

-- over the positions of a run, its first one in front; in the game of deal d
abbrev pub leaks_over : List Position → List (ℕ × Call) → List (List ℕ)
leaks_over [] cs = []
leaks_over (s ∷ qs) cs = leaks_from s (s ∷ []) cs qs

abbrev pub leaks_in : List ℕ → Start → List (ℕ × Call) → List (List ℕ)
leaks_in d s cs = leaks_over (positions_of (started d 3 s).position cs) cs

-- the kinds of call, in the order of `Call`
abbrev pub kind_of : Call → ℕ
kind_of (move kind card history n) = 0
kind_of (undo history n) = 1
kind_of (masks asked) = 2
kind_of (list asked buffer) = 3
kind_of (test kind card) = 4
kind_of (face_up buffer) = 5
kind_of heights = 6
kind_of deck = 7
kind_of (find card) = 8
kind_of (offset n) = 9
kind_of save = 10
kind_of win = 11
kind_of sure_win = 12
kind_of (ladder i j) = 13

-- among the calls is one of kind k whose leak differs
unfoldable pub noticed : List (ℕ × Call) → List (List ℕ) → List (List ℕ) → ℕ → Bool
noticed cs ls ms k = any_of (length cs) (λ i. eqb (kind_of (get_or cs i (0, save)).1) k && not (same_list (get_or ls i []) (get_or ms i [])))

-- of each of the 14 kinds one of the two runs has such a call
abbrev pub LeaksNoticed : Type 0
LeaksNoticed =
    (k : ℕ) → k < 14
    → T (noticed calls (leaks_in W dealt_fresh calls) (leaks_in W' dealt_fresh calls) k
    || noticed calls_then (leaks_in W code calls_then) (leaks_in W' code calls_then) k)

-- ---- what they are, call by call: in the game of W, and in that of W'

unfoldable pub fresh_leaks : List (List ℕ × List ℕ)
fresh_leaks =
    -- Reveal 5, and 3 lies under the 4; the checksum; undone, in pile 2; the pile of 15; PileStack 0
    (3 ∷ [], 3 ∷ []) ∷ (45526 ∷ [], 45249 ∷ []) ∷ (2 ∷ [], 2 ∷ []) ∷ (5 ∷ [], 3 ∷ []) ∷ (0 ∷ [], 0 ∷ [])
    -- may 6 go up; the heights; DeckPile 51; the deck; the offset; where 6 lies
    ∷ (0 ∷ [], 1 ∷ [])
    ∷ (1 ∷ 1 ∷ 0 ∷ 1 ∷ [], 2 ∷ 1 ∷ 0 ∷ 1 ∷ [])
    ∷ (28 ∷ [], 28 ∷ [])
    ∷ (21 ∷ [], 7 ∷ [])
    ∷ (21 ∷ [], 9 ∷ [])
    ∷ (6 ∷ [], 8 ∷ [])
    -- the cards under the heads; the two ladder questions
    ∷ (1 ∷ 3 ∷ 8 ∷ 13 ∷ 19 ∷ 26 ∷ [], 1 ∷ 3 ∷ 6 ∷ 13 ∷ 19 ∷ 26 ∷ [])
    ∷ (1 ∷ [], 1 ∷ [])
    ∷ (1 ∷ [], 0 ∷ [])
    ∷ []

unfoldable pub resumed_leaks : List (List ℕ × List ℕ)
resumed_leaks =
    -- the heads with a wanted card under them, 9 and 22 in W', asked three times
    (0 ∷ [], 0x400200 ∷ []) ∷ (0 ∷ [], 0x400200 ∷ []) ∷ ([], 265 ∷ 278 ∷ [])
    -- PileStack 18, and what lies under the 17; win; sure win; undone, in pile 5; the checksum
    ∷ (16 ∷ [], 8 ∷ [])
    ∷ (0 ∷ [], 1 ∷ [])
    ∷ (0 ∷ [], 1 ∷ [])
    ∷ (5 ∷ [], 5 ∷ [])
    ∷ (45526 ∷ [], 45249 ∷ [])
    ∷ []

-- what they are in one game, and in the other
abbrev lefts : List (List ℕ × List ℕ) → List (List ℕ)
lefts l = map (λ (r : List ℕ × List ℕ). r.0) l

abbrev rights : List (List ℕ × List ℕ) → List (List ℕ)
rights l = map (λ (r : List ℕ × List ℕ). r.1) l

-- the calls leak so in the two games
abbrev pub Leak : Start → List (ℕ × Call) → List (List ℕ × List ℕ) → Type 0
Leak s cs l = (leaks_in W s cs ≡ lefts l) × (leaks_in W' s cs ≡ rights l)

-- computed over the tables' positions
fresh_told : (leaks_over (first W ∷ given_of (fresh_table W)) calls ≡ lefts fresh_leaks) × (leaks_over (first W' ∷ given_of (fresh_table W')) calls ≡ rights fresh_leaks)
unfolding rules W' fresh_table calls leaks_from leak under_head covered_cards wanted falls checksum among fresh_leaks
fresh_told = (refl, refl)

resumed_told : (leaks_over (late W ∷ given_of (resumed_table W)) calls_then ≡ lefts resumed_leaks) × (leaks_over (late W' ∷ given_of (resumed_table W')) calls_then ≡ rights resumed_leaks)
unfolding rules W' resumed_table calls_then leaks_from leak under_head covered_cards wanted falls checksum among resumed_leaks
resumed_told = (refl, refl)

pub leaks_fresh : Leak dealt_fresh calls fresh_leaks
leaks_fresh = (rw fresh_w_lem.positions fresh_told.0, rw fresh_w'.positions fresh_told.1)

pub leaks_resumed : Leak code calls_then resumed_leaks
leaks_resumed = (rw resumed_w.positions resumed_told.0, rw resumed_w'.positions resumed_told.1)

-- and the lists differ at a call of each kind
every_kind : all_of 14 (λ k. noticed calls (lefts fresh_leaks) (rights fresh_leaks) k || noticed calls_then (lefts resumed_leaks) (rights resumed_leaks) k) ≡ true
unfolding rules fresh_table calls resumed_table calls_then noticed fresh_leaks resumed_leaks
every_kind = refl

pub leaks_noticed : LeaksNoticed
leaks_noticed k l =
    rw (leaks_fresh.0, leaks_fresh.1, leaks_resumed.0, leaks_resumed.1)
    (subst T (sym (all_yes 14 (λ j. noticed calls (lefts fresh_leaks) (rights fresh_leaks) j || noticed calls_then (lefts resumed_leaks) (rights resumed_leaks) j) every_kind k l)) tt)
