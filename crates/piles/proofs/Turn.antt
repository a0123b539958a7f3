-- One pile more: the lengths and the bytes after it, and the piles that are left.
-- Assumes nothing.
use mathlib.Core.Bool.{cond}
use mathlib.Core.Path.{◌≡◌, sym, ap, ◌∙◌, subst}
use mathlib.Core.List.{List, ◌∷◌, ◌++◌, map, append_assoc, append-nil}
use Prim.Native.Nat.{ℕ, suc, ◌+◌, ◌-◌, ◌*◌, ◌≤◌, ◌<◌}
use native.Mathlib.Numerals.{add-one}
use native.Mathlib.Omega.{arith}
use lib.ListN.{length, take, drop, set, get_or, replicate, length-append, length-replicate, take-append-drop}
use lib.Seq.{take-suc-set, drop-drop, take_at, take_all, length-take-le}
use borrow.Author.Tests.{lt-ltb, le-ltb}
use borrow.Rule.Slice.PartMut.{put_mid, post_of, drop_put}
use Rattle.rules.specs.declared.Position.{Position}
use Rattle.rules.specs.Places.{pile_start, count, has_head, head}
use Rattle.rules.specs.Piles.{run, first_run, rest, piles_from, piles, pile_bytes, piles_into, pile_lengths}
use Rattle.piles.specs.declared.Filled.{Filled}
use Rattle.piles.specs.Run.{run_of, kings_of, first_run_of, row}
use Rattle.piles.proofs.Reading.{Reads, run_is, first_is, kings_are, count_is, head_is_lem}

row_length : (x : List ℕ) → length (row x) ≡ 13
row_length x = length-take-le 13 (x ++ replicate 13 255) (simp (length-append, length-replicate) (omega arith))

-- the slice with its part at 13 * i back as ys
abbrev pub back : ℕ → List ℕ → List ℕ → List ℕ
back i out ys = put_mid (13 * i) (13 * i + 13 - 13 * i) out ys

module _ (i : ℕ) (lens out : List ℕ) (x : List ℕ) (more : List (List ℕ)) (low : i < 7) (seven : length lens ≡ 7) (size : 91 ≤ length out) where
  next_lengths : take i lens ++ map length (x ∷ more) ≡ take (i + 1) (set lens i (length x)) ++ map length more
  next_lengths = rw (add-one, take-suc-set lens i (length x) (omega arith), append_assoc)

  front : take (13 * (i + 1)) (back i out (row x)) ≡ take (13 * i) out ++ row x
  front =
      ap (take (13 * (i + 1))) (sym (append_assoc (take (13 * i) out) (row x) (post_of (13 * i) (13 * i + 13 - 13 * i) out)))
      ∙ take_at (take (13 * i) out ++ row x) (post_of (13 * i) (13 * i + 13 - 13 * i) out) (13 * (i + 1))
      (omega (arith, length-append (take (13 * i) out) (row x), length-take-le (13 * i) out (omega arith), row_length x))

  later : drop 91 (back i out (row x)) ≡ drop 91 out
  later =
      let m : ℕ = 91 - (13 * i + 13) in
      let e : 91 ≡ 13 * i + 13 + m = omega arith in
      let same = drop_put (13 * i) (13 * i + 13) out (row x) (omega arith) (omega arith) (row_length x ∙ omega arith) in
      ap (λ (n : ℕ). drop n (back i out (row x))) e ∙ sym (drop-drop m (13 * i + 13) (back i out (row x))) ∙ ap (drop m) same ∙ drop-drop m (13 * i + 13) out ∙ ap (λ (n : ℕ). drop n out) (sym e)

  next_bytes : take (13 * i) out ++ (pile_bytes (x ∷ more) ++ drop 91 out) ≡ take (13 * (i + 1)) (back i out (row x)) ++ (pile_bytes more ++ drop 91 (back i out (row x)))
  unfolding pile_bytes
  next_bytes = rw (front, later, append_assoc (row x) (pile_bytes more) (drop 91 out), append_assoc (take (13 * i) out) (row x) (pile_bytes more ++ drop 91 out))

-- i piles are filled: the answer is what they show, and then what the other piles will
pub record Shown (p : Position) (free : ℕ) (out₀ out lens : List ℕ) (from i : ℕ) : Type 0 where
  pub lengths : pile_lengths p ≡ take i lens ++ map length (piles_from p (7 - i) i (kings_of free from))
  pub bytes : piles_into p out₀ ≡ take (13 * i) out ++ (pile_bytes (piles_from p (7 - i) i (kings_of free from)) ++ drop 91 out)

module _ (p : Position) (deal counts : List ℕ) (vis free : ℕ) (r : Reads p deal counts vis free) (out₀ out lens : List ℕ) (from i : ℕ)
    (low : i < 7) (seven : length lens ≡ 7) (size : 91 ≤ length out) (s : Shown p free out₀ out lens from i) where
  -- pile i shows x, and the kings from the suit on are left for the others
  turn : (x ys : List ℕ) (v to : ℕ) → piles_from p (7 - i) i (kings_of free from) ≡ x ∷ piles_from p (7 - (i + 1)) (i + 1) (kings_of free to)
      → v ≡ length x → ys ≡ row x → Shown p free out₀ (back i out ys) (set lens i v) to (i + 1)
  turn x ys v to e ev ey =
      let more : List (List ℕ) = piles_from p (7 - (i + 1)) (i + 1) (kings_of free to) in
      rw (ev, ey)
      (record {
        lengths = s.lengths ∙ ap (λ (l : List (List ℕ)). take i lens ++ map length l) e ∙ next_lengths i lens out x more low seven size;
        bytes = s.bytes ∙ ap (λ (l : List (List ℕ)). take (13 * i) out ++ (pile_bytes l ++ drop 91 out)) e ∙ next_bytes i lens out x more low seven size;
      })

  step : piles_from p (7 - i) i (kings_of free from) ≡ cond (has_head p i) (run p 13 (head p i)) (first_run p (kings_of free from)) ∷ piles_from p (7 - (i + 1)) (i + 1) (cond (has_head p i) (kings_of free from) (rest (kings_of free from)))
  unfolding piles_from
  step = let e : 7 - i ≡ suc (7 - (i + 1)) = omega arith in rw e

  abbrev start : ℕ
  start = get_or deal (pile_start i + (get_or counts i 0 - 1)) 0

  pub head_turn : (ys : List ℕ) (v : ℕ) → 0 < get_or counts i 0 → v ≡ length (run_of vis free 13 start) → ys ≡ row (run_of vis free 13 start) → Shown p free out₀ (back i out ys) (set lens i v) from (i + 1)
  head_turn ys v n ev ey =
      let x : run_of vis free 13 start ≡ run p 13 (head p i) = ap (run_of vis free 13) (head_is_lem p deal counts vis free r i) ∙ run_is p deal counts vis free r 13 (head p i) in
      turn (run p 13 (head p i)) ys v from
      (step ∙ rw (lt-ltb 0 (count p i) (subst (λ (k : ℕ). 0 < k) (count_is p deal counts vis free r i) n)))
      (ev ∙ ap length x) (ey ∙ ap row x)

  pub empty_turn : (ys : List ℕ) (f : Filled) → get_or counts i 0 ≤ 0 → f.len ≡ length (first_run_of vis free (kings_of free from)) → kings_of free f.from ≡ rest (kings_of free from) → ys ≡ row (first_run_of vis free (kings_of free from))
      → Shown p free out₀ (back i out ys) (set lens i f.len) f.from (i + 1)
  empty_turn ys f n ev ek ey =
      let x : first_run_of vis free (kings_of free from) ≡ first_run p (kings_of free from) = first_is p deal counts vis free r (kings_of free from) in
      turn (first_run p (kings_of free from)) ys f.len f.from
      (step ∙ rw (le-ltb 0 (count p i) (subst (λ (k : ℕ). k ≤ 0) (count_is p deal counts vis free r i) n), ek))
      (ev ∙ ap length x) (ey ∙ ap row x)

-- at the first pile, and past the last
pub none_yet : (p : Position) (deal counts : List ℕ) (vis free : ℕ) → Reads p deal counts vis free → (out lens : List ℕ) → Shown p free out out lens 0 0
unfolding pile_lengths piles_into piles
none_yet p deal counts vis free r out lens =
    let e = sym (kings_are p deal counts vis free r) in
    record {
      lengths = ap (λ (ks : List ℕ). map length (piles_from p 7 0 ks)) e;
      bytes = ap (λ (ks : List ℕ). pile_bytes (piles_from p 7 0 ks) ++ drop 91 out) e;
    }

pub all_shown : (p : Position) (free : ℕ) (out₀ out lens : List ℕ) (from i : ℕ) → i ≡ 7 → length lens ≡ 7 → Shown p free out₀ out lens from i → (lens ≡ pile_lengths p) × (out ≡ piles_into p out₀)
unfolding piles_from pile_bytes
all_shown p free out₀ out lens from i e seven s =
    (sym (s.lengths ∙ rw (e, append-nil) (take_all 7 lens (omega arith))), sym (s.bytes ∙ rw e (take-append-drop 91 out)))
