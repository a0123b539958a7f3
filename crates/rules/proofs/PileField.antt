-- The pile field of a save code, a number in mixed radix: its digits are the counts, both ways; how it is put together and taken apart pile by pile.
-- And tables: the list of a function's values.
-- Assumes nothing.
use mathlib.Core.Path.{◌≡◌, refl, sym, ap, ap₂, ◌∙◌}
use mathlib.Core.List.{List, [], ◌∷◌}
use Prim.Native.Nat.{ℕ, zero, suc, ◌+◌, ◌-◌, ◌*◌, ◌/◌, ◌%◌, ◌≤◌, ◌<◌, zero-le, suc-le-suc}
use native.Mathlib.Numerals.{add-one}
use native.Mathlib.Omega.{arith}
use native.Mathlib.Nat.{mod-add-div, div-div-eq-div-mul, div-one, mul_comm}
use lib.ListN.{get_or, length}
use Rattle.rules.specs.Code.{mixed, pile_codes, counts_field, radices, field_count, table}
use Rattle.rules.specs.Hidden.{CountsFit}

pub below7 : (P : ℕ → Type 0) → P 0 → P 1 → P 2 → P 3 → P 4 → P 5 → P 6 → (k : ℕ) → k < 7 → P k
below7 P a b c d e f g zero l = a
below7 P a b c d e f g (suc zero) l = b
below7 P a b c d e f g (suc (suc zero)) l = c
below7 P a b c d e f g (suc (suc (suc zero))) l = d
below7 P a b c d e f g (suc (suc (suc (suc zero)))) l = e
below7 P a b c d e f g (suc (suc (suc (suc (suc zero))))) l = f
below7 P a b c d e f g (suc (suc (suc (suc (suc (suc zero)))))) l = g
below7 P a b c d e f g (suc (suc (suc (suc (suc (suc (suc k))))))) l = absurd (omega arith)

-- ---- a list and its places

pub table_ext : (n : ℕ) (f g : ℕ → ℕ) → ((k : ℕ) → k < n → f k ≡ g k) → table n f ≡ table n g
unfolding table
table_ext zero f g e = refl
table_ext (suc n) f g e = ap₂ (λ (x : ℕ) (l : List ℕ). x ∷ l) (e 0 (suc-le-suc zero-le)) (table_ext n (λ k. f (suc k)) (λ k. g (suc k)) (λ k l. e (suc k) (suc-le-suc l)))

pub table_of : (n : ℕ) (l : List ℕ) → length l ≡ n → table n (λ k. get_or l k 0) ≡ l
unfolding table
table_of zero [] e = refl
table_of zero (x ∷ l) e = absurd (omega arith)
table_of (suc n) [] e = absurd (omega arith)
table_of (suc n) (x ∷ l) e = ap (λ (r : List ℕ). x ∷ r) (table_of n l (omega arith))

-- ---- from the counts to the field

-- the field of the m piles from i on
pub field_from : (ℕ → ℕ) → ℕ → ℕ → ℕ
field_from n zero i = 0
field_from n (suc m) i = n i + (i + 2) * field_from n m (suc i)

pub field_none : (n : ℕ → ℕ) → 0 ≡ field_from n 0 7
unfolding field_from
field_none n = refl

pub field_whole : (n : ℕ → ℕ) → field_from n 7 0 ≡ mixed n
unfolding field_from
field_whole n = omega arith

-- one pile more at the front, as a loop that goes down goes
pub field_more : (n : ℕ → ℕ) (i x : ℕ) → 0 < i → i ≤ 7 → x ≡ field_from n (7 - i) i → x * (i - 1 + 2) + n (i - 1) ≡ field_from n (7 - (i - 1)) (i - 1)
unfolding field_from
field_more n zero x h l e = absurd (omega arith)
field_more n (suc i) x h l e =
    let m : 7 - (suc i - 1) ≡ suc (7 - suc i) = omega arith in
    let j : suc i - 1 ≡ i = omega arith in
    rw (m, j, e, mul_comm) (omega arith)

module _ (n : ℕ → ℕ) (fit : (i : ℕ) → i < 7 → n i ≤ i + 1) where
  seven : (n 0 ≤ 1) × (n 1 ≤ 2) × (n 2 ≤ 3) × (n 3 ≤ 4) × (n 4 ≤ 5) × (n 5 ≤ 6) × (n 6 ≤ 7)
  seven = (fit 0 (omega arith), fit 1 (omega arith), fit 2 (omega arith), fit 3 (omega arith), fit 4 (omega arith), fit 5 (omega arith), fit 6 (omega arith))

  pub from_low : (i : ℕ) → i < 7 → field_from n (7 - i) i < pile_codes
  unfolding field_from
  from_low =
      let h = seven in
      below7 (λ i. field_from n (7 - i) i < pile_codes) (omega arith) (omega arith) (omega arith) (omega arith) (omega arith) (omega arith) (omega arith)

  pub field_low : mixed n < pile_codes
  field_low = omega (arith, from_low 0 (omega arith), field_whole n)

  -- its digits are the counts
  pub digit_at : (x : ℕ) → x ≡ mixed n → (i : ℕ) → i < 7 → field_count x i ≡ n i
  unfolding radices
  digit_at x e =
      let h = seven in
      below7 (λ i. field_count x i ≡ n i) (omega arith) (omega arith) (omega arith) (omega arith) (omega arith) (omega arith) (omega arith)

-- ---- from the field to the counts

-- a number in radix a has b's digit next: what is left over is in radix a * b
pub next_digit : (x a b : ℕ) → x / a ≡ x / a % b + b * (x / (a * b))
next_digit x a b = sym (mod-add-div (x / a) b) ∙ ap (λ (q : ℕ). x / a % b + b * q) (div-div-eq-div-mul x a b)

-- what is left over after pile i, as a loop that goes up goes
pub rest_none : (x : ℕ) → x ≡ x / radices 0
unfolding radices
rest_none x = sym (div-one x)

pub rest_more : (x i : ℕ) → x / radices i / (i + 2) ≡ x / radices (i + 1)
unfolding radices
rest_more x i = div-div-eq-div-mul x (radices i) (i + 2) ∙ ap (λ (m : ℕ). x / m) (mul_comm (radices i) (i + 2)) ∙ ap (λ (j : ℕ). x / radices j) (sym (add-one i))

pub field_back : (x : ℕ) → x < pile_codes → mixed (λ i. field_count x i) ≡ x
unfolding radices
field_back x h =
    glue (x / 1) (x / 2) (x / 6) (x / 24) (x / 120) (x / 720) (x / 5040) (x / 1 % 2) (x / 2 % 3) (x / 6 % 4) (x / 24 % 5) (x / 120 % 6) (x / 720 % 7) (x / 5040 % 8)
    (next_digit x 1 2) (next_digit x 2 3) (next_digit x 6 4) (next_digit x 24 5) (next_digit x 120 6) (next_digit x 720 7) (top (x / 5040) (omega arith)) ∙ div-one x
  where
    top : (q : ℕ) → q < 8 → q ≡ q % 8
    top q l = omega arith

    glue : (n0 n1 n2 n3 n4 n5 n6 a b c d e f g : ℕ) → n0 ≡ a + 2 * n1 → n1 ≡ b + 3 * n2 → n2 ≡ c + 4 * n3 → n3 ≡ d + 5 * n4 → n4 ≡ e + 6 * n5 → n5 ≡ f + 7 * n6 → n6 ≡ g → a + 2 * (b + 3 * (c + 4 * (d + 5 * (e + 6 * (f + 7 * g))))) ≡ n0
    glue n0 n1 n2 n3 n4 n5 n6 a b c d e f g h0 h1 h2 h3 h4 h5 h6 = omega arith

-- ---- counts and field, both ways

pub decode_encode : (n : List ℕ) → length n ≡ 7 → CountsFit n → table 7 (λ i. field_count (counts_field n) i) ≡ n
unfolding counts_field
decode_encode n l fit = table_ext 7 _ (λ i. get_or n i 0) (digit_at (λ i. get_or n i 0) fit (counts_field n) refl) ∙ table_of 7 n l

pub encode_decode : (x : ℕ) → x < pile_codes → counts_field (table 7 (λ i. field_count x i)) ≡ x
unfolding counts_field table
encode_decode x h = field_back x h
