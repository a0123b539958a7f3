-- The deck's slots filled from the front, and what they hold after a card went out or came in.
-- Assumes nothing.
use mathlib.Core.Bool.{Bool, true, false, not, cond}
use mathlib.Core.Path.{◌≡◌, refl, sym, ap, ap₂, ◌∙◌}
use mathlib.Core.List.{List, [], ◌∷◌, ◌++◌, append_assoc}
use Prim.Native.Nat.{ℕ, zero, suc, ◌+◌, ◌-◌, ◌≤◌, ◌<◌}
use native.Mathlib.Nat.{le_of_suc-le-suc}
use native.Mathlib.Numerals.{add-one}
use native.Mathlib.Omega.{arith}
use lib.ListN.{length, get_or, take, drop, set, replicate, length-append, length-drop, length-replicate, replicate-append-replicate}
use lib.Seq.{length-take-le, drop-drop, take_all, take-suc, take_at, drop_at, set_at, split_at, get_or-take, take-take, take-add, drop-append-add, append_snoc, paste}
use borrow.Rule.Slice.PartMut.{mid_of, put_mid}
use Rattle.std.proofs.Common.{ltb, Some, None, unwrap_or}
use Rattle.std.proofs.lemmas.Bool.Decides.{nat_tests}
use Rattle.std.specs.List.{position_or_len}
use Rattle.rules.specs.Bits.{first_of}
use Rattle.rules.specs.Play.{slots, draw_at, push_at}
use Rattle.rules.proofs.SlotsLaw.{slots_front}

-- the first j slots hold what xs has there, the others 0
unfoldable pub filled : List ℕ → ℕ → List ℕ
filled xs j = take j xs ++ replicate (24 - j) 0

pub fill_start : (xs : List ℕ) → replicate 24 0 ≡ filled xs 0
unfolding filled
fill_start xs = refl

pub fill_turn : (xs : List ℕ) (j v : ℕ) → j < length xs → j < 24 → v ≡ get_or xs j 0 → set (filled xs j) j v ≡ filled xs (j + 1)
unfolding filled
fill_turn xs j v h l e =
    let more : 24 - j ≡ suc (24 - (j + 1)) = omega arith in
    let long : length (take j xs) ≡ j = length-take-le j xs (omega arith) in
    let next : take (j + 1) xs ≡ take j xs ++ (get_or xs j 0 ∷ []) = rw add-one (take-suc xs j 0 h) in
    ap₂ (λ (n x : ℕ). set (take j xs ++ replicate n 0) j x) more e ∙ set_at (take j xs) 0 (replicate (24 - (j + 1)) 0) (get_or xs j 0) j long
    ∙ sym (ap (λ (l : List ℕ). l ++ replicate (24 - (j + 1)) 0) next ∙ append_assoc (take j xs) (get_or xs j 0 ∷ []) (replicate (24 - (j + 1)) 0))

pub fill_end : (xs : List ℕ) (j : ℕ) → length xs ≡ j → j ≤ 24 → filled xs j ≡ slots xs
unfolding filled slots
fill_end xs j e l =
    let all : take j xs ≡ xs = take_all j xs (omega arith) in
    let fit : 24 - j + j ≡ 24 = omega arith in
    let rest : ◌≡◌ {A = List ℕ} (replicate 24 0) (replicate (24 - j) 0 ++ replicate j 0) = ap (λ (n : ℕ). replicate n 0) (sym fit) ∙ sym (replicate-append-replicate (24 - j) j 0) in
    let long : length (xs ++ replicate (24 - j) 0) ≡ 24 = length-append xs (replicate (24 - j) 0) ∙ omega (arith, length-replicate {A = ℕ} (24 - j) 0) in
    ap (λ (l : List ℕ). l ++ replicate (24 - j) 0) all
    ∙ sym (ap (λ (r : List ℕ). take 24 (xs ++ r)) rest ∙ ap (take 24) (sym (append_assoc xs (replicate (24 - j) 0) (replicate j 0))) ∙ take_at (xs ++ replicate (24 - j) 0) (replicate j 0) 24 long)

pub padded : (xs : List ℕ) (j : ℕ) → length xs ≡ j → j ≤ 24 → slots xs ≡ xs ++ replicate (24 - j) 0
unfolding filled
padded xs j e l = sym (fill_end xs j e l) ∙ ap (λ (l : List ℕ). l ++ replicate (24 - j) 0) (take_all j xs (omega arith))

-- a part of d, copied over a part of s that is as long
pub pasted : (d s : List ℕ) (from to n : ℕ) → from + n ≤ length d → to + n ≤ length s → put_mid to (to + n - to) s (mid_of from (from + n - from) d) ≡ paste s to (drop from d) n
pasted d s from to n hd hs =
    let src : List ℕ = take n (drop from d) in
    let here : from + n - from ≡ n = omega arith in
    let there : to + n - to ≡ n = omega arith in
    rw (here, there) (ap (λ (r : List ℕ). take to s ++ (src ++ r)) (drop-drop n to s) ∙ sym (append_assoc (take to s) src (drop (to + n) s)))

-- cards copied behind those in front of a deck's slots
pub copied : (ys d : List ℕ) (from to n : ℕ) → length ys ≡ to → from + n ≤ length d → to + n ≤ 24 → paste (slots ys) to (drop from d) n ≡ slots (ys ++ take n (drop from d))
copied ys d from to n e h m =
    let zs : List ℕ = take n (drop from d) in
    let end : List ℕ = replicate (24 - (to + n)) 0 in
    let long : length zs ≡ n = length-take-le n (drop from d) (omega (arith, length-drop from d)) in
    let count : 24 - to ≡ n + (24 - (to + n)) = omega arith in
    let rest : ◌≡◌ {A = List ℕ} (replicate (24 - to) 0) (replicate n 0 ++ end) = ap (λ (k : ℕ). replicate k 0) count ∙ sym (replicate-append-replicate n (24 - (to + n)) 0) in
    let whole : slots ys ≡ ys ++ (replicate n 0 ++ end) = padded ys to e (omega arith) ∙ ap (λ (r : List ℕ). ys ++ r) rest in
    let past : drop (to + n) (slots ys) ≡ end =
    ap₂ (λ (k : ℕ) (s : List ℕ). drop (k + n) s) (sym e) whole ∙ drop-append-add ys (replicate n 0 ++ end) n ∙ drop_at (replicate n 0) end n (length-replicate {A = ℕ} n 0) in
    ap₂ (λ (a b : List ℕ). a ++ zs ++ b) (ap (take to) whole ∙ take_at ys (replicate n 0 ++ end) to e) past ∙ sym (padded (ys ++ zs) (to + n) (length-append ys zs ∙ omega (arith, long)) m)

-- a card put behind them
pub put : (ys : List ℕ) (k c : ℕ) → length ys ≡ k → k < 24 → set (slots ys) k c ≡ slots (ys ++ (c ∷ []))
put ys k c e l =
    let end : List ℕ = replicate (24 - (k + 1)) 0 in
    let more : 24 - k ≡ suc (24 - (k + 1)) = omega arith in
    ap (λ (s : List ℕ). set s k c) (padded ys k e (omega arith) ∙ ap (λ (n : ℕ). ys ++ replicate n 0) more) ∙ set_at ys 0 end c k e ∙ sym (append_snoc ys c end)
    ∙ sym (padded (ys ++ (c ∷ [])) (k + 1) (length-append ys (c ∷ []) ∙ omega (arith, e)) (omega arith))

-- the cards from place k on, of the first n
pub behind : (d : List ℕ) (k n : ℕ) → k ≤ n → n ≤ length d → take (n - k) (drop k d) ≡ drop k (take n d)
behind d k n h l =
    let both : n ≡ k + (n - k) = omega arith in
    sym (ap (λ (m : ℕ). drop k (take m d)) both ∙ ap (drop k) (take-add k (n - k) d) ∙ drop_at (take k d) (take (n - k) (drop k d)) k (length-take-le k d (omega arith)))

-- ---- a card out at place k of the first n

module _ (d : List ℕ) (n k : ℕ) (h : k < n) (m : n ≤ 24) (l : n ≤ length d) where
  front_length : length (take k d) ≡ k
  front_length = length-take-le k d (omega arith)

  pub draw_length : length (draw_at d n k) ≡ n - 1
  draw_length = length-append (take k d) (drop (k + 1) (take n d)) ∙ omega (arith, front_length, length-drop (k + 1) (take n d), length-take-le n d l)

  -- the card that went out, put in where it was: the cards are back
  pub back : slots (push_at (slots (draw_at d n k)) (n - 1) k (get_or d k 0)) ≡ slots (take n d)
  back =
      let xs : List ℕ = draw_at d n k in
      let ys : List ℕ = take n d in
      let rest : List ℕ = drop (k + 1) ys in
      let low : k < length ys = omega (arith, length-take-le n d l) in
      let front : take k (slots xs) ≡ take k d =
      sym (take-take k (n - 1) (slots xs) (omega arith)) ∙ ap (take k) whole ∙ take_at (take k d) rest k front_length in
      let after : drop k (take (n - 1) (slots xs)) ≡ rest = ap (drop k) whole ∙ drop_at (take k d) rest k front_length in
      ap slots
      (ap₂ (λ (a b : List ℕ). a ++ get_or d k 0 ∷ b) (front ∙ sym (take-take k n d (omega arith))) after
      ∙ ap₂ (λ (x m : ℕ). take k ys ++ x ∷ drop m ys) (sym (get_or-take n d k 0 h)) (add-one k)
      ∙ sym (split_at ys k 0 low))
    where
      whole : take (n - 1) (slots (draw_at d n k)) ≡ draw_at d n k
      whole = slots_front (draw_at d n k) (n - 1) draw_length (omega arith)

-- ---- a search among the first n cards

-- what `position` finds is the first place, and none is found just where that is n
pub found_first : (p : ℕ → Bool) (n : ℕ) (d : List ℕ) → n ≤ length d → position_or_len p (take n d) ≡ first_of n (λ k. p (get_or d k 0))
unfolding first_of
found_first p zero d h = refl
found_first p (suc n) [] h = absurd (omega arith)
found_first p (suc n) (x ∷ d) h = go (p x) (found_first p n d (le_of_suc-le-suc h))
  where
    go : (b : Bool) → position_or_len p (take n d) ≡ first_of n (λ k. p (get_or d k 0)) → cond (not b) (1 + position_or_len p (take n d)) 0 ≡ cond b 0 (suc (first_of n (λ k. p (get_or d k 0))))
    go true e = refl
    go false e = omega arith

pub found_or : (q n m : ℕ) → q ≤ n → m ≡ n → unwrap_or (cond (ltb q m) (Some q) None) n ≡ q
found_or q n m h e = grind (arith, nat_tests)
