-- Laws of the searches of specs/Bits.antt: what a passed test gives, and how it is passed.
-- Assumes nothing.
use Rattle.std.proofs.Common.{◌≡◌, ℕ, zero, suc, ◌+◌, ◌*◌, ◌^◌, ◌<◌, ◌≤◌, Bool, true, false, cond, not, ◌&&◌, ◌||◌, eqb, ◌⊎◌, sym, refl, ap, ◌∙◌, subst, ap₂, inl, inr, true≢false, suc-le-suc, zero-le, le_of_suc-le-suc, not-suc-le-zero, mul_assoc, arith, eq-eqb, eqb-true}
use mathlib.Core.Bool.{and-true, and_assoc, or-false, or_assoc}
use native.Mathlib.Nat.{pow-succ'}
pub use Rattle.bits.proofs.Laws.{mask_ext}
pub use Rattle.bits.proofs.Counts.{count_ext, list_ext}
use Rattle.bits.proofs.Tables.{same_test}
use Rattle.bits.specs.Bit.{num, mask_of, count_of, all_of, any_of, first_of}

pub and_left : (a b : Bool) → (a && b) ≡ true → a ≡ true
and_left true b e = refl
and_left false b e = e

pub and_right : (a b : Bool) → (a && b) ≡ true → b ≡ true
and_right true b e = e
and_right false b e = absurd (true≢false (sym e))

pub and_both : (a b : Bool) → a ≡ true → b ≡ true → (a && b) ≡ true
and_both true b e h = h
and_both false b e h = e

pub or_cases : (a b : Bool) → (a || b) ≡ true → (a ≡ true) ⊎ (b ≡ true)
or_cases true b e = inl refl
or_cases false b e = inr e

pub or_left : (a b : Bool) → a ≡ true → (a || b) ≡ true
or_left true b e = refl
or_left false b e = absurd (true≢false (sym e))

pub or_right : (a b : Bool) → b ≡ true → (a || b) ≡ true
or_right true b e = refl
or_right false b e = e

-- "not a, or b": where a is so, b is
pub or_then : (a b : Bool) → (not a || b) ≡ true → a ≡ true → b ≡ true
or_then true b h e = h
or_then false b h e = absurd (true≢false (sym e))

pub then_or : (a b : Bool) → (a ≡ true → b ≡ true) → (not a || b) ≡ true
then_or true b h = h refl
then_or false b h = refl

pub is_false : (b : Bool) → (b ≡ true → ⊥) → b ≡ false
is_false true h = absurd (h refl)
is_false false h = refl

-- where a is so, b and c are the same
pub and_under : (a b c : Bool) → (a ≡ true → b ≡ c) → (a && b) ≡ (a && c)
and_under true b c h = h refl
and_under false b c h = refl

pub or_under : (a b c : Bool) → (a ≡ true → b ≡ c) → (not a || b) ≡ (not a || c)
or_under true b c h = h refl
or_under false b c h = refl

pub all_yes : (n : ℕ) (f : ℕ → Bool) → all_of n f ≡ true → (k : ℕ) → k < n → f k ≡ true
unfolding all_of
all_yes zero f e k h = absurd (not-suc-le-zero h)
all_yes (suc n) f e zero h = and_left (f 0) (all_of n (λ j. f (suc j))) e
all_yes (suc n) f e (suc k) h = all_yes n (λ j. f (suc j)) (and_right (f 0) (all_of n (λ j. f (suc j))) e) k (le_of_suc-le-suc h)

pub yes_all : (n : ℕ) (f : ℕ → Bool) → ((k : ℕ) → k < n → f k ≡ true) → all_of n f ≡ true
unfolding all_of
yes_all zero f h = refl
yes_all (suc n) f h =
    and_both (f 0) (all_of n (λ j. f (suc j))) (h 0 (suc-le-suc zero-le)) (yes_all n (λ j. f (suc j)) (λ k l. h (suc k) (suc-le-suc l)))

pub any_yes : (n : ℕ) (f : ℕ → Bool) → any_of n f ≡ true → (k : ℕ) × (k < n) × (f k ≡ true)
unfolding any_of
any_yes zero f e = absurd (true≢false (sym e))
any_yes (suc n) f e = go (or_cases (f 0) (any_of n (λ j. f (suc j))) e) (any_yes n (λ j. f (suc j)))
  where
    go : (f 0 ≡ true) ⊎ (any_of n (λ j. f (suc j)) ≡ true) → (any_of n (λ j. f (suc j)) ≡ true → (k : ℕ) × (k < n) × (f (suc k) ≡ true)) → (k : ℕ) × (k < suc n) × (f k ≡ true)
    go (inl h) r = (0, suc-le-suc zero-le, h)
    go (inr h) r = (suc (r h).0, suc-le-suc (r h).1, (r h).2)

pub yes_any : (n : ℕ) (f : ℕ → Bool) (k : ℕ) → k < n → f k ≡ true → any_of n f ≡ true
unfolding any_of
yes_any zero f k h e = absurd (not-suc-le-zero h)
yes_any (suc n) f zero h e = or_left (f 0) (any_of n (λ j. f (suc j))) e
yes_any (suc n) f (suc k) h e = or_right (f 0) (any_of n (λ j. f (suc j))) (yes_any n (λ j. f (suc j)) k (le_of_suc-le-suc h) e)

-- the first: it passes the test where it is below the bound, and is not above any other that does

pub first_yes : (n : ℕ) (f : ℕ → Bool) → first_of n f < n → f (first_of n f) ≡ true
unfolding first_of
first_yes zero f h = absurd (not-suc-le-zero h)
first_yes (suc n) f h = go (f 0) refl h (first_yes n (λ j. f (suc j)))
  where
    go : (b : Bool) → f 0 ≡ b → cond b 0 (suc (first_of n (λ j. f (suc j)))) < suc n → (first_of n (λ j. f (suc j)) < n → f (suc (first_of n (λ j. f (suc j)))) ≡ true) → f (cond b 0 (suc (first_of n (λ j. f (suc j))))) ≡ true
    go true e l r = e
    go false e l r = r (le_of_suc-le-suc l)

pub first_least : (n : ℕ) (f : ℕ → Bool) (k : ℕ) → k < n → f k ≡ true → first_of n f ≤ k
unfolding first_of
first_least zero f k h e = absurd (not-suc-le-zero h)
first_least (suc n) f zero h e = subst (λ (b : Bool). cond b 0 (suc (first_of n (λ j. f (suc j)))) ≤ 0) (sym e) zero-le
first_least (suc n) f (suc k) h e = go (f 0) (first_least n (λ j. f (suc j)) k (le_of_suc-le-suc h) e)
  where
    go : (b : Bool) → first_of n (λ j. f (suc j)) ≤ k → cond b 0 (suc (first_of n (λ j. f (suc j)))) ≤ suc k
    go true l = zero-le
    go false l = suc-le-suc l

-- ---- one more at the end, as a loop that goes up goes. The definitions take one off at the front

pub all_snoc : (n : ℕ) (f : ℕ → Bool) → all_of (suc n) f ≡ (all_of n f && f n)
unfolding all_of
all_snoc zero f = and-true (f 0)
all_snoc (suc n) f = ap (λ (b : Bool). f 0 && b) (all_snoc n (λ j. f (suc j))) ∙ sym (and_assoc (f 0) (all_of n (λ j. f (suc j))) (f (suc n)))

pub any_snoc : (n : ℕ) (f : ℕ → Bool) → any_of (suc n) f ≡ (any_of n f || f n)
unfolding any_of
any_snoc zero f = or-false (f 0)
any_snoc (suc n) f = ap (λ (b : Bool). f 0 || b) (any_snoc n (λ j. f (suc j))) ∙ sym (or_assoc (f 0) (any_of n (λ j. f (suc j))) (f (suc n)))

pub count_snoc : (n : ℕ) (f : ℕ → Bool) → count_of (suc n) f ≡ count_of n f + num (f n)
unfolding count_of
count_snoc zero f = omega arith
count_snoc (suc n) f = ap (λ (x : ℕ). num (f 0) + x) (count_snoc n (λ j. f (suc j))) ∙ omega arith

pub num_le : (b : Bool) → num b ≤ 1
num_le true = omega arith
num_le false = omega arith

pub num_mono : (a b : Bool) → (a ≡ true → b ≡ true) → num a ≤ num b
num_mono true b h = omega (arith, ap num (h refl))
num_mono false b h = omega arith

pub count_le : (n : ℕ) (f : ℕ → Bool) → count_of n f ≤ n
unfolding count_of
count_le zero f = omega arith
count_le (suc n) f = omega (arith, count_le n (λ j. f (suc j)), num_le (f 0))

pub mask_snoc : (n : ℕ) (f : ℕ → Bool) → mask_of (suc n) f ≡ mask_of n f + 2 ^ n * num (f n)
unfolding mask_of
mask_snoc zero f = omega arith
mask_snoc (suc n) f =
    let g : ℕ → Bool = λ j. f (suc j) in
    ap (λ (x : ℕ). num (f 0) + 2 * x) (mask_snoc n g) ∙ grow (num (f 0)) (mask_of n g) (2 ^ n) (num (f (suc n))) ∙ ap (λ (x : ℕ). num (f 0) + 2 * mask_of n g + x * num (f (suc n))) (sym (pow-succ' 2 n))
  where
    grow : (a m w d : ℕ) → a + 2 * (m + w * d) ≡ a + 2 * m + 2 * w * d
    grow a m w d = omega (arith, mul_assoc 2 w d)

-- ---- a test may be replaced by one that agrees below the bound: mask-ext, count-ext, list_ext of `bits`, and

pub all_ext : (n : ℕ) (f g : ℕ → Bool) → ((k : ℕ) → k < n → f k ≡ g k) → all_of n f ≡ all_of n g
unfolding all_of
all_ext zero f g h = refl
all_ext (suc n) f g h = ap₂ ◌&&◌ (h 0 (suc-le-suc zero-le)) (all_ext n (λ j. f (suc j)) (λ j. g (suc j)) (λ k l. h (suc k) (suc-le-suc l)))

pub any_ext : (n : ℕ) (f g : ℕ → Bool) → ((k : ℕ) → k < n → f k ≡ g k) → any_of n f ≡ any_of n g
unfolding any_of
any_ext zero f g h = refl
any_ext (suc n) f g h = ap₂ ◌||◌ (h 0 (suc-le-suc zero-le)) (any_ext n (λ j. f (suc j)) (λ j. g (suc j)) (λ k l. h (suc k) (suc-le-suc l)))

pub first_ext : (n : ℕ) (f g : ℕ → Bool) → ((k : ℕ) → k < n → f k ≡ g k) → first_of n f ≡ first_of n g
unfolding first_of
first_ext zero f g h = refl
first_ext (suc n) f g h =
    ap₂ (λ (b : Bool) (x : ℕ). cond b 0 (suc x)) (h 0 (suc-le-suc zero-le)) (first_ext n (λ j. f (suc j)) (λ j. g (suc j)) (λ k l. h (suc k) (suc-le-suc l)))

pub first_le : (n : ℕ) (f : ℕ → Bool) → first_of n f ≤ n
unfolding first_of
first_le zero f = zero-le
first_le (suc n) f = go (f 0) (first_le n (λ j. f (suc j)))
  where
    go : (b : Bool) {x : ℕ} → x ≤ n → cond b 0 (suc x) ≤ suc n
    go true l = zero-le
    go false l = suc-le-suc l

-- ---- lists that pass the test are equal

pub eqb_sym : (x y : ℕ) → eqb x y ≡ eqb y x
eqb_sym x y = same_test (eqb x y) (eqb y x) (λ e. eq-eqb y x (sym (eqb-true x y e))) (λ e. eq-eqb x y (sym (eqb-true y x e)))
