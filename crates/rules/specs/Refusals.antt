-- Document 01, "Numbers given when saying no": the one table, and how a refusal decides an answer.
use Rattle.std.specs.Prelude.{Bool, true, false, ℕ, zero, suc}

-- "step 0 or above 24"
abbrev pub wrong_step : ℕ
wrong_step = 1

-- "deal not 52 bytes"
abbrev pub wrong_length : ℕ
wrong_length = 2

-- "a card byte above 51"
abbrev pub no_card : ℕ
no_card = 3

-- "a card twice"
abbrev pub same_card : ℕ
same_card = 4

-- "foundation height above 13"
abbrev pub wrong_height : ℕ
wrong_height = 5

-- "pile field 40320 or more"
abbrev pub wrong_piles : ℕ
wrong_piles = 6

-- "offset above cards left, or not the stored form"
abbrev pub wrong_offset : ℕ
wrong_offset = 7

-- "foundation overlaps deck, buried or heads"
abbrev pub overlapping : ℕ
overlapping = 8

-- "no arrangement: the pair rule or the seven rule broken"
abbrev pub unarranged : ℕ
unarranged = 9

-- "kind above 4 or card above 51"
abbrev pub no_such_move : ℕ
no_such_move = 10

-- "move not legal"
abbrev pub not_legal : ℕ
not_legal = 11

-- "history full"
abbrev pub history_full : ℕ
history_full = 12

-- "nothing to undo"
abbrev pub nothing_to_undo : ℕ
nothing_to_undo = 13

-- "history count beyond its slice"
abbrev pub wrong_count : ℕ
wrong_count = 14

-- "last entry impossible"
abbrev pub wrong_entry : ℕ
wrong_entry = 15

-- "position not proper"
abbrev pub not_proper : ℕ
not_proper = 16

-- "lent pile or listing buffer too short"
abbrev pub too_short : ℕ
too_short = 17

-- `fault refuses n else m`: n where the fault is there, and else m. The order of the lines is the order of the refusals
infixr 10 ◌refuses◌else◌
abbrev pub ◌refuses◌else◌ : Bool → ℕ → ℕ → ℕ
◌refuses◌else◌ true n m = n
◌refuses◌else◌ false n m = m

-- `accepted r new old`: `new` where the refusal r is 0, and else `old`
abbrev pub accepted {ℓ} : {A : Type ℓ} → ℕ → A → A → A
accepted zero new old = new
accepted (suc r) new old = old
