-- n deals in a row without n turns: those to the end, one to the front, and what whole rounds leave.
-- Assumes nothing.
use mathlib.Core.Path.{◌≡◌, sym, ap, ◌∙◌, subst}
use Prim.Native.Nat.{ℕ, zero, suc, ◌+◌, ◌-◌, ◌*◌, ◌/◌, ◌%◌, ◌≤◌, ◌<◌, min, zero-le}
use Rattle.std.proofs.Math.Nat.{mul-le-mul_left}
use Rattle.std.proofs.lemmas.Grind.{div_ceil_times}
use Rattle.std.specs.Int.{div_ceil}
use native.Mathlib.Nat.{suc-mul, zero-mul, mul_comm, div-add-mod', mod-lt}
use native.Mathlib.Omega.{arith}
use Rattle.rules.specs.Dealing.{deals}
use Rattle.rules.proofs.DealsLaw.{dealt_end, dealt_on, deals_add}

-- how many steps go into x, the last one begun counted
abbrev pub ceil : ℕ → ℕ → ℕ
ceil step x = div_ceil x step

module _ (len step : ℕ) (sp : 0 < step) where
  -- a step fewer does not reach the end of x; all of them do
  pub ceil_low : (n x : ℕ) → n ≤ ceil step x → step * n < x + step
  ceil_low n x h = omega (arith, mul-le-mul_left step h, mul_comm step (ceil step x), (div_ceil_times x step sp).1)

  -- what whole rounds leave is no longer than a round
  pub round_low : (w m : ℕ) → w ≡ ceil step len → step * (m % (w + 1)) < len + step
  round_low w m e =
      let r : ℕ = m % (w + 1) in
      let low : r < w + 1 = mod-lt m (omega arith) in
      ceil_low r len (subst (λ (x : ℕ). r ≤ x) e (omega arith))

  ceil_high : (x : ℕ) → x ≤ ceil step x * step
  ceil_high x = (div_ceil_times x step sp).0

  -- deals that begin before the end, or at it with none
  on : (n o : ℕ) → o ≤ len → o + n * step < len + step → deals len step n o ≡ min (o + n * step) len
  unfolding deals
  on zero o l h = omega (arith, zero-mul step)
  on (suc n) o l h =
      let s : suc n * step ≡ n * step + step = suc-mul n step in
      ap (deals len step n) (dealt_on len step o (omega arith)) ∙ on n (min (o + step) len) (omega arith) (omega arith) ∙ omega arith

  -- up to the end
  pub to_end : (n o : ℕ) → o ≤ len → n ≤ ceil step (len - o) → deals len step n o ≡ min (o + step * n) len
  to_end n o l h = on n o l (omega (arith, ceil_low n (len - o) h, mul_comm step n)) ∙ ap (λ (x : ℕ). min (o + x) len) (mul_comm n step)

  -- and a deal more
  to_front : (o : ℕ) → o ≤ len → deals len step (ceil step (len - o) + 1) o ≡ 0
  unfolding deals
  to_front o l =
      let t : ℕ = ceil step (len - o) in
      let e : deals len step t o ≡ len = to_end t o l (omega arith) ∙ omega (arith, ceil_high (len - o), mul_comm step t) in
      deals_add len step t 1 o ∙ ap (deals len step 1) e ∙ dealt_end len step len (omega arith)

  -- whole rounds change nothing
  rounds : (q m : ℕ) → deals len step (q * (ceil step len + 1) + m) 0 ≡ deals len step m 0
  rounds zero m = let e : 0 * (ceil step len + 1) + m ≡ m = omega (arith, zero-mul (ceil step len + 1)) in ap (λ (x : ℕ). deals len step x 0) e
  rounds (suc q) m =
      let w : ℕ = ceil step len + 1 in
      let s : suc q * w + m ≡ w + (q * w + m) = omega (arith, suc-mul q w) in
      let e : len ≡ len - 0 = omega arith in
      ap (λ (x : ℕ). deals len step x 0) s ∙ deals_add len step w (q * w + m) 0
      ∙ ap (deals len step (q * w + m)) (ap (λ (x : ℕ). deals len step (ceil step x + 1) 0) e ∙ to_front 0 zero-le)
      ∙ rounds q m

  pub past_end : (n o : ℕ) → o ≤ len → ceil step (len - o) < n → deals len step n o ≡ min (step * ((n - ceil step (len - o) - 1) % (ceil step len + 1))) len
  past_end n o l h =
      let t : ℕ = ceil step (len - o) in
      let w : ℕ = ceil step len + 1 in
      let m : ℕ = n - t - 1 in
      let r : ℕ = m % w in
      let low : r < w = mod-lt m (omega arith) in
      let split : n ≡ t + 1 + m = omega arith in
      let e : len ≡ len - 0 = omega arith in
      let front : r ≤ ceil step (len - 0) = subst (λ (x : ℕ). r ≤ ceil step x) e (omega arith) in
      let none : 0 + step * r ≡ step * r = omega arith in
      ap (λ (x : ℕ). deals len step x o) split ∙ deals_add len step (t + 1) m o ∙ ap (deals len step m) (to_front o l)
      ∙ ap (λ (x : ℕ). deals len step x 0) (sym (div-add-mod' m w)) ∙ rounds (m / w) r ∙ to_end r 0 zero-le front ∙ ap (λ (x : ℕ). min x len) none
