-- The walks of the deck against the places that are available.
-- Assumes nothing.
use mathlib.Core.Bool.{Bool, true, false, ◌&&◌, ◌||◌, and-true, or-false}
use mathlib.Core.Path.{◌≡◌, refl, sym, ap, ap₂, ◌∙◌}
use mathlib.Core.List.{List}
use Prim.Native.Nat.{ℕ, suc, ◌+◌, ◌-◌, ◌%◌, ◌≤◌, ◌<◌}
use native.Mathlib.Nat.{add-mod_right, add-mod-mod, add-zero, mod-eq_of_lt}
use native.Mathlib.Omega.{arith}
use lib.Dec.{eqb, leb, ltb}
use lib.ListN.{get_or}
use lib.Bits.{bit_or}
use borrow.Author.Tests.{le-leb, leb-true, eq-eqb, eqb-true, ne_eqb, lt-ltb, le-ltb, ltb-true, ltb-false}
use Rattle.bits.specs.Bit.{mask_of}
use Rattle.bits.proofs.Laws.{mask_ext}
use Rattle.bits.proofs.Algebra.{or_masks}
use Rattle.rules.specs.declared.Position.{Position}
use Rattle.rules.specs.Bits.{any_of}
use Rattle.rules.specs.Dealing.{available, available_soon, place_available, place_soon}
use Rattle.bits.proofs.Searches.{any_ext, and_left, and_right, and_both, or_left, or_right}
use Rattle.rules.proofs.ProperLaw.{any_or}
use Rattle.bits.proofs.Tables.{same_test}
use Rattle.rules.proofs.Collect.{collect, any_gap}
use Rattle.rules.proofs.Availability.{ahead, comes, soon_is, available_is}
use Rattle.deck_masks.proofs.Stride.{on, find}

-- from step - 1 on: the offset past the place is a multiple of step
pub from_front : (step k : ℕ) → 0 < step → on (step - 1) step k ≡ eqb ((k + 1) % step) 0
from_front step k sp = same_test (on (step - 1) step k) (eqb ((k + 1) % step) 0) to from
  where
    to : on (step - 1) step k ≡ true → eqb ((k + 1) % step) 0 ≡ true
    to h =
        let a : step - 1 ≤ k = leb-true (step - 1) k (and_left (leb (step - 1) k) (eqb ((k - (step - 1)) % step) 0) h) in
        let x : k + 1 ≡ k - (step - 1) + step = omega arith in
        eq-eqb ((k + 1) % step) 0 (ap (λ (n : ℕ). n % step) x ∙ add-mod_right (k - (step - 1)) step ∙ eqb-true ((k - (step - 1)) % step) 0 (and_right (leb (step - 1) k) (eqb ((k - (step - 1)) % step) 0) h))

    from : eqb ((k + 1) % step) 0 ≡ true → on (step - 1) step k ≡ true
    from h = go (ltb (k + 1) step) refl
      where
        go : (b : Bool) → ltb (k + 1) step ≡ b → on (step - 1) step k ≡ true
        go true e = absurd (omega (arith, mod-eq_of_lt (ltb-true (k + 1) step e), eqb-true ((k + 1) % step) 0 h))
        go false e =
            let l : step ≤ k + 1 = ltb-false (k + 1) step e in
            let x : k + 1 ≡ k - (step - 1) + step = omega arith in
            and_both (leb (step - 1) k) (eqb ((k - (step - 1)) % step) 0) (le-leb (step - 1) k (omega arith))
            (eq-eqb ((k - (step - 1)) % step) 0 (sym (ap (λ (n : ℕ). n % step) x ∙ add-mod_right (k - (step - 1)) step) ∙ eqb-true ((k + 1) % step) 0 h))

-- from off - 1 on
pub from_offset : (off step k : ℕ) → 0 < off → on (off - 1) step k ≡ (leb off (k + 1) && eqb ((k + 1 - off) % step) 0)
from_offset off step k h =
    let x : k - (off - 1) ≡ k + 1 - off = omega arith in
    ap₂ (λ (a : Bool) (n : ℕ). a && eqb (n % step) 0)
    (same_test (leb (off - 1) k) (leb off (k + 1)) (λ e. le-leb off (k + 1) (omega (arith, leb-true (off - 1) k e))) (λ e. le-leb (off - 1) k (omega (arith, leb-true off (k + 1) e))))
    x

-- where the first walk starts, in both cases
unfoldable pub Starts : ℕ → ℕ → ℕ → Type 0
Starts from off step = ((k : ℕ) → on from step k ≡ (leb off (k + 1) && eqb ((k + 1 - off) % step) 0))

pub starts_zero : (off step : ℕ) → 0 < step → off ≤ 0 → Starts (step - 1) off step
unfolding Starts
starts_zero off step sp h k =
    let z : off ≡ 0 = omega arith in
    let x : k + 1 - off ≡ k + 1 = omega arith in
    from_front step k sp ∙ sym (ap₂ (λ (a : Bool) (n : ℕ). a && eqb (n % step) 0) (le-leb off (k + 1) (omega arith)) x)

pub starts_pos : (off step : ℕ) → 0 < off → Starts (off - 1) off step
unfolding Starts
starts_pos off step h k = from_offset off step k h

-- the first walk, and the last card
pub soon : (p : Position) (from : ℕ) → p.left ≤ 24 → 0 < p.step → p.offset ≤ p.left → 0 < p.left → get_or p.deck (p.left - 1) 0 < 52 → Starts from p.offset p.step
    → bit_or (mask_of 52 (λ c. any_of (p.left - 1) (find p.deck from p.step c))) (mask_of 64 (λ k. eqb k (get_or p.deck (p.left - 1) 0))) ≡ mask_of 52 (available_soon p)
unfolding Starts find available_soon ahead
soon p from hl sp ol n low s =
    ap (λ (m : ℕ). bit_or m (mask_of 64 (λ k. eqb k (get_or d last 0))))
    (mask_ext 52 (λ c. any_of last (find d from step c)) (λ c. any_of last (G c)) (λ c l. any_ext last (find d from step c) (G c) (λ k i. early c k i)))
    ∙ collect G last (get_or d last 0) low here
    ∙ mask_ext 52 (λ c. any_of (suc last) (G c)) (available_soon p) (λ c l. ap (λ (m : ℕ). any_of m (G c)) all ∙ any_ext len (G c) (λ k. eqb (get_or d k 0) c && place_soon p k) (λ k i. ap (λ (b : Bool). eqb (get_or d k 0) c && b) (sym (soon_is p k hl sp ol i))))
  where
    d : List ℕ
    d = p.deck

    len : ℕ
    len = p.left

    step : ℕ
    step = p.step

    off : ℕ
    off = p.offset

    last : ℕ
    last = p.left - 1

    all : suc last ≡ len
    all = omega arith

    G : ℕ → ℕ → Bool
    G c k = eqb (get_or d k 0) c && ahead len step off (k + 1)

    early : (c k : ℕ) → k < last → find d from step c k ≡ G c k
    early c k i =
        let A : Bool = leb off (k + 1) && eqb ((k + 1 - off) % step) 0 in
        ap (λ (b : Bool). eqb (get_or d k 0) c && b) (s k ∙ sym (ap (λ (b : Bool). A || b) (ne_eqb (k + 1) len (λ e. omega arith)) ∙ or-false A))

    here : (c : ℕ) → G c last ≡ eqb (get_or d last 0) c
    here c =
        ap (λ (b : Bool). eqb (get_or d last 0) c && b) (or_right (leb off (last + 1) && eqb ((last + 1 - off) % step) 0) (eqb (last + 1) len) (eq-eqb (last + 1) len (omega arith)))
        ∙ and-true (eqb (get_or d last 0) c)

mix : (x a t m : Bool) → (t ≡ false → m ≡ true → a ≡ true) → ((x && a) || (t && (x && m))) ≡ (x && (a || m))
mix true true t m h = refl
mix true false true m h = refl
mix true false false true h = h refl refl
mix true false false false h = refl
mix false a true m h = refl
mix false a false m h = refl

-- up to where the second walk goes: past it each multiple of step is found by the first
pub record Ends (p : Position) (end : ℕ) : Type 0 where
  pub within : end ≤ p.left
  pub rest : (k : ℕ) → end ≤ k → k < p.left → (k + 1) % p.step ≡ 0 → ahead p.left p.step p.offset (k + 1) ≡ true

-- the second walk
pub round : (p : Position) (end : ℕ) → p.left ≤ 24 → 0 < p.step → p.offset ≤ p.left → Ends p end
    → bit_or (mask_of 52 (available_soon p)) (mask_of 52 (λ c. any_of end (find p.deck (p.step - 1) p.step c))) ≡ mask_of 52 (available p)
unfolding find available_soon available comes
round p end hl sp ol w = or_masks 52 (available_soon p) (λ c. any_of end (E c)) ∙ mask_ext 52 (λ c. available_soon p c || any_of end (E c)) (available p) (λ c l. each c)
  where
    d : List ℕ
    d = p.deck

    len : ℕ
    len = p.left

    step : ℕ
    step = p.step

    E : ℕ → ℕ → Bool
    E c = find d (step - 1) step c

    cut : ℕ → ℕ → Bool
    cut c k = ltb k end && E c k

    longer : (c : ℕ) → any_of end (E c) ≡ any_of len (cut c)
    longer c =
        any_ext end (E c) (cut c) (λ k i. sym (ap (λ (b : Bool). b && E c k) (lt-ltb k end i)))
        ∙ sym (ap (λ (n : ℕ). any_of n (cut c)) (fit w.within) ∙ any_gap end (len - end) (cut c) (λ k a b. ap (λ (b : Bool). b && E c k) (le-ltb k end a)))
      where
        fit : end ≤ len → len ≡ end + (len - end)
        fit h = omega arith

    at : (c k : ℕ) → k < len → ((eqb (get_or d k 0) c && place_soon p k) || cut c k) ≡ (eqb (get_or d k 0) c && place_available p k)
    at c k i =
        ap₂ (λ (a m : Bool). (eqb (get_or d k 0) c && a) || (ltb k end && (eqb (get_or d k 0) c && m))) (soon_is p k hl sp ol i) (from_front step k sp)
        ∙ mix (eqb (get_or d k 0) c) (ahead len step p.offset (k + 1)) (ltb k end) (eqb ((k + 1) % step) 0) (λ t m. w.rest k (ltb-false k end t) i (eqb-true ((k + 1) % step) 0 m))
        ∙ ap (λ (b : Bool). eqb (get_or d k 0) c && b) (sym (available_is p k hl sp ol i))

    each : (c : ℕ) → (available_soon p c || any_of end (E c)) ≡ available p c
    each c =
        ap (λ (b : Bool). available_soon p c || b) (longer c) ∙ sym (any_or len (λ k. eqb (get_or d k 0) c && place_soon p k) (cut c))
        ∙ any_ext len (λ k. (eqb (get_or d k 0) c && place_soon p k) || cut c k) (λ k. eqb (get_or d k 0) c && place_available p k) (λ k i. at c k i)

mod_sub : (a b s : ℕ) → b ≤ a → a % s ≡ 0 → b % s ≡ 0 → (a - b) % s ≡ 0
mod_sub a b s l ea eb =
    let x : a - b + b ≡ a = omega arith in
    sym (ap (λ (n : ℕ). n % s) (add-zero (a - b))) ∙ ap (λ (n : ℕ). (a - b + n) % s) (sym eb) ∙ add-mod-mod (a - b) b s ∙ ap (λ (n : ℕ). n % s) x ∙ ea

-- the offset is a multiple of step: the walk stops before it; it is none: the walk stops before the last card
pub ends_pure : (p : Position) (end : ℕ) → p.offset ≤ p.left → p.offset % p.step ≡ 0 → end ≡ p.offset - 1 → Ends p end
unfolding ahead
ends_pure p end ol m e = record {
  within = omega arith;
  rest = λ k a b f.
      or_left (leb p.offset (k + 1) && eqb ((k + 1 - p.offset) % p.step) 0) (eqb (k + 1) p.left)
      (and_both (leb p.offset (k + 1)) (eqb ((k + 1 - p.offset) % p.step) 0) (le-leb p.offset (k + 1) (omega arith)) (eq-eqb ((k + 1 - p.offset) % p.step) 0 (mod_sub (k + 1) p.offset p.step (omega arith) f m)));
}

pub ends_off : (p : Position) (end : ℕ) → end ≡ p.left - 1 → Ends p end
unfolding ahead
ends_off p end e = record {
  within = omega arith;
  rest = λ k a b f. or_right (leb p.offset (k + 1) && eqb ((k + 1 - p.offset) % p.step) 0) (eqb (k + 1) p.left) (eq-eqb (k + 1) p.left (omega arith));
}
