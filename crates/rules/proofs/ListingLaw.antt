-- The listing: how many moves it has, and that it has each move of the masks once and nothing else.
-- Assumes nothing.
use mathlib.Core.Bool.{Bool, true, false}
use mathlib.Core.Path.{◌≡◌, refl, sym, ap, ap₂, ◌∙◌}
use mathlib.Core.Logic.{◌⊎◌, inl, inr, ⊎_elim}
use mathlib.Core.List.{List, []}
use Prim.Native.Nat.{ℕ, zero, suc, ◌+◌, ◌*◌, ◌%◌, ◌^◌, ◌≤◌, ◌<◌, zero-le}
use native.Mathlib.Nat.{zero-add, suc-add}
use native.Mathlib.Omega.{arith}
use lib.Dec.{ltb, lit<}
use lib.ListN.{length, length-append}
use borrow.Author.Tests.{eq-eqb, ne_eqb, ltb-true, ltb-false}
use Rattle.rules.proofs.Among.{times_append}
use Rattle.bits.proofs.Laws.{bit_high}
use Rattle.bits.proofs.Counts.{list_length}
use Rattle.rules.specs.declared.Masks.{Masks}
use Rattle.rules.specs.Bits.{num, cons_if, bit, list_of, times}
use Rattle.rules.specs.Legal.{listed, listing}
use Rattle.rules.specs.Pruned.{size}
use Rattle.rules.specs.Moves.{CardMasks, of_kind, move_count}

-- ---- a list of numbers below n alone

list_empty : (n s : ℕ) (f : ℕ → Bool) → ((k : ℕ) → f k ≡ false) → list_of n s f ≡ []
unfolding list_of
list_empty zero s f e = refl
list_empty (suc n) s f e = ap₂ (λ (b : Bool) (l : List ℕ). cons_if b s l) (e 0) (list_empty n (suc s) (λ k. f (suc k)) (λ k. e (suc k)))

-- where f fails from n on, the first n are the whole list
pub list_cut : (n j s : ℕ) (f : ℕ → Bool) → ((k : ℕ) → n ≤ k → f k ≡ false) → list_of (n + j) s f ≡ list_of n s f
unfolding list_of
list_cut zero j s f e = rw (zero-add j) (list_empty j s f (λ k. e k zero-le))
list_cut (suc n) j s f e =
    ap (λ (i : ℕ). list_of i s f) (suc-add n j)
    ∙ ap (λ (l : List ℕ). cons_if (f 0) s l) (list_cut n j (suc s) (λ k. f (suc k)) (λ k l. e (suc k) (omega arith)))

-- a mask of cards alone: its 64 bits list as its 52 do
pub cards_list : (kind m : ℕ) → m < 2 ^ 52 → list_of 64 (kind * 64) (bit m) ≡ listed kind m
unfolding listed
cards_list kind m l = list_cut 52 12 (kind * 64) (bit m) (λ k h. bit_high 52 m k l h)

pub listed_length : (kind m : ℕ) → m < 2 ^ 52 → length (listed kind m) ≡ size m
unfolding size
listed_length kind m l = ap length (sym (cards_list kind m l)) ∙ list_length 64 (kind * 64) (bit m)

-- the listing has as many moves as the masks have bits
pub listing_length : (m : Masks) → CardMasks m → length (listing m) ≡ move_count m
unfolding listing move_count
listing_length m w =
    simp (length-append, listed_length 4 m.reveal w.reveal, listed_length 1 m.pile_stack w.pile_stack, listed_length 2 m.deck_pile w.deck_pile, listed_length 0 m.deck_stack w.deck_stack, listed_length 3 m.stack_pile w.stack_pile)

-- ---- how often a number is listed

times_cons : (x s : ℕ) (b : Bool) (l : List ℕ) → (s ≡ x → ⊥) → times x (cons_if b s l) ≡ times x l
unfolding times
times_cons x s true l n = omega (arith, ap num (ne_eqb s x n))
times_cons x s false l n = refl

times_before : (n s x : ℕ) (f : ℕ → Bool) → x < s → times x (list_of n s f) ≡ 0
unfolding list_of times
times_before zero s x f l = refl
times_before (suc n) s x f l =
    times_cons x s (f 0) (list_of n (suc s) (λ k. f (suc k))) (λ e. omega arith) ∙ times_before n (suc s) x (λ k. f (suc k)) (omega arith)

times_past : (n s x : ℕ) (f : ℕ → Bool) → s + n ≤ x → times x (list_of n s f) ≡ 0
unfolding list_of times
times_past zero s x f l = refl
times_past (suc n) s x f l =
    times_cons x s (f 0) (list_of n (suc s) (λ k. f (suc k))) (λ e. omega arith) ∙ times_past n (suc s) x (λ k. f (suc k)) (omega arith)

times_first : (s : ℕ) (b : Bool) (l : List ℕ) → times s l ≡ 0 → times s (cons_if b s l) ≡ num b
unfolding times
times_first s true l e = omega (arith, ap num (eq-eqb s s refl))
times_first s false l e = e

times_at : (n s k : ℕ) (f : ℕ → Bool) → k < n → times (s + k) (list_of n s f) ≡ num (f k)
unfolding list_of
times_at zero s k f l = absurd (omega arith)
times_at (suc n) s zero f l =
    let e : s + 0 ≡ s = omega arith in
    rw e (times_first s (f 0) (list_of n (suc s) (λ k. f (suc k))) (times_before n (suc s) s (λ k. f (suc k)) (omega arith)))
times_at (suc n) s (suc k) f l =
    let e : s + suc k ≡ suc s + k = omega arith in
    times_cons (s + suc k) s (f 0) (list_of n (suc s) (λ k. f (suc k))) (λ z. omega arith)
    ∙ ap (λ (x : ℕ). times x (list_of n (suc s) (λ k. f (suc k)))) e
    ∙ times_at n (suc s) k (λ k. f (suc k)) (omega arith)

-- in the list of one kind
on : (kind c m : ℕ) → c < 52 → times (kind * 64 + c) (listed kind m) ≡ num (bit m c)
unfolding listed
on kind c m l = times_at 52 (kind * 64) c (bit m) l

off : (kind x m : ℕ) → (x < kind * 64) ⊎ (kind * 64 + 52 ≤ x) → times x (listed kind m) ≡ 0
unfolding listed
off kind x m = ⊎_elim (λ l. times_before 52 (kind * 64) x (bit m) l) (λ l. times_past 52 (kind * 64) x (bit m) l)

in_all : (x : ℕ) (m : Masks)
    → times x (listing m) ≡ times x (listed 4 m.reveal) + times x (listed 1 m.pile_stack) + times x (listed 2 m.deck_pile) + times x (listed 0 m.deck_stack) + times x (listed 3 m.stack_pile)
unfolding listing
in_all x m = simp times_append

-- a move is listed once where its bit is set in the mask of its kind, and else not at all
pub listed_once : (m : Masks) (kind c : ℕ) → kind < 5 → c < 52 → times (kind * 64 + c) (listing m) ≡ num (bit (of_kind m kind) c)
unfolding of_kind
listed_once m zero c k l =
    in_all (0 * 64 + c) m
    ∙ omega (arith, off 4 (0 * 64 + c) m.reveal (inl (omega arith)), off 1 (0 * 64 + c) m.pile_stack (inl (omega arith)), off 2 (0 * 64 + c) m.deck_pile (inl (omega arith)), on 0 c m.deck_stack l, off 3 (0 * 64 + c) m.stack_pile (inl (omega arith)))
listed_once m (suc zero) c k l =
    in_all (1 * 64 + c) m
    ∙ omega (arith, off 4 (1 * 64 + c) m.reveal (inl (omega arith)), on 1 c m.pile_stack l, off 2 (1 * 64 + c) m.deck_pile (inl (omega arith)), off 0 (1 * 64 + c) m.deck_stack (inr (omega arith)), off 3 (1 * 64 + c) m.stack_pile (inl (omega arith)))
listed_once m (suc (suc zero)) c k l =
    in_all (2 * 64 + c) m
    ∙ omega (arith, off 4 (2 * 64 + c) m.reveal (inl (omega arith)), off 1 (2 * 64 + c) m.pile_stack (inr (omega arith)), on 2 c m.deck_pile l, off 0 (2 * 64 + c) m.deck_stack (inr (omega arith)), off 3 (2 * 64 + c) m.stack_pile (inl (omega arith)))
listed_once m (suc (suc (suc zero))) c k l =
    in_all (3 * 64 + c) m
    ∙ omega (arith, off 4 (3 * 64 + c) m.reveal (inl (omega arith)), off 1 (3 * 64 + c) m.pile_stack (inr (omega arith)), off 2 (3 * 64 + c) m.deck_pile (inr (omega arith)), off 0 (3 * 64 + c) m.deck_stack (inr (omega arith)), on 3 c m.stack_pile l)
listed_once m (suc (suc (suc (suc zero)))) c k l =
    in_all (4 * 64 + c) m
    ∙ omega (arith, on 4 c m.reveal l, off 1 (4 * 64 + c) m.pile_stack (inr (omega arith)), off 2 (4 * 64 + c) m.deck_pile (inr (omega arith)), off 0 (4 * 64 + c) m.deck_stack (inr (omega arith)), off 3 (4 * 64 + c) m.stack_pile (inr (omega arith)))
listed_once m (suc (suc (suc (suc (suc kind))))) c k l = absurd (omega arith)

-- nothing else is listed
pub listed_only : (m : Masks) (x : ℕ) → (5 * 64 ≤ x) ⊎ (52 ≤ x % 64) → times x (listing m) ≡ 0
listed_only m x h = in_all x m ∙ omega (arith, off 4 x m.reveal (apart 4 (lit< tt)), off 1 x m.pile_stack (apart 1 (lit< tt)), off 2 x m.deck_pile (apart 2 (lit< tt)), off 0 x m.deck_stack (apart 0 (lit< tt)), off 3 x m.stack_pile (apart 3 (lit< tt)))
  where
    apart : (kind : ℕ) → kind < 5 → (x < kind * 64) ⊎ (kind * 64 + 52 ≤ x)
    apart kind l = go (ltb x (kind * 64)) refl
      where
        past : kind * 64 ≤ x → kind * 64 + 52 ≤ x
        past k = ⊎_elim (λ a. omega arith) (λ a. omega arith) h

        go : (b : Bool) → ltb x (kind * 64) ≡ b → (x < kind * 64) ⊎ (kind * 64 + 52 ≤ x)
        go true e = inl (ltb-true x (kind * 64) e)
        go false e = inr (past (ltb-false x (kind * 64) e))
