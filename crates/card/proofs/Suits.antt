-- A card's suit is one of four and its colour one of two; no card has another.
-- Assumes nothing.
use Rattle.std.proofs.Common.{◌≡◌, ℕ, ◌%◌, ◌<◌, ◌≤◌, Bool, true, false, cond, eqb, sym, ◌∙◌, arith, pow_pos, ne_eqb, List, T, length, get_or, ⊎_elim}
use Rattle.bits.specs.Bit.{mask_of}
use Rattle.std.proofs.lemmas.List.{get_or_past}
use Rattle.std.proofs.lemmas.Bool.{cases_lt}
use Rattle.bits.proofs.Tables.{entries, below}
use Rattle.bits.proofs.Laws.{mask_is, bit_none}
use Rattle.card.specs.Cards.{flipped, rank, suit, colour}

cond_low : (b : Bool) {x y n : ℕ} → x < n → y < n → cond b x y < n
cond_low true h l = h
cond_low false h l = l

pub suit_low : (c : ℕ) → suit c < 4
unfolding suit flipped
suit_low c = cond_low (eqb (rank c % 2) 1) (omega arith) (omega arith)

pub colour_low : (c : ℕ) → colour (suit c) < 2
unfolding colour
colour_low c = omega (arith, suit_low c)

-- a test that no number below 64 passes
pub none_so : (f : ℕ → Bool) → ((c : ℕ) → c < 64 → f c ≡ false) → 0 ≡ mask_of 64 f
none_so f h = mask_is 64 f 0 (pow_pos 64) (λ c l. bit_none c ∙ sym (h c l))

-- f stays below n, and s does not
pub none_there : (f : ℕ → ℕ) (n s : ℕ) → ((c : ℕ) → f c < n) → n ≤ s → 0 ≡ mask_of 64 (λ c. eqb (f c) s)
none_there f n s low h = none_so (λ c. eqb (f c) s) (λ c l. ne_eqb (f c) s (λ e. omega (arith, low c, e)))

pub none_at : (s : ℕ) → 64 ≤ s → 0 ≡ mask_of 64 (λ c. eqb c s)
none_at s h = none_so (λ c. eqb c s) (λ c l. ne_eqb c s (λ e. omega (arith, e)))

-- a table with the rule's values, where the rule gives none past it
pub table_is : (xs : List ℕ) (rule : ℕ → ℕ) → T (below (length xs) (λ k. eqb (get_or xs k 0) (rule k))) → ((s : ℕ) → length xs ≤ s → 0 ≡ rule s) → (s : ℕ) → get_or xs s 0 ≡ rule s
table_is xs rule same past s = ⊎_elim (λ l. entries xs rule same s l) (λ h. get_or_past xs s 0 h ∙ past s h) (cases_lt s (length xs))
