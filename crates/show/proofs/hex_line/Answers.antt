use Rattle.std.proofs.Common.{◌≡◌, refl, ℕ, suc, ◌+◌, ◌-◌, ◌*◌, ◌/◌, ◌%◌, ◌^◌, ◌<◌, List, [], ◌∷◌, ◌++◌, arith, set, length-set, sym, ap, ◌∙◌}
use native.Mathlib.Nat.{add-zero}
use Rattle.std.proofs.lemmas.List.Edits.{sets}
use Rattle.rules.specs.Show.{digit, digits, hex_line}
use Rattle.show.proofs.Lines.{digits_next}
use Rattle.show.proofs.hex_line.Goals as goal

-- one turn
turn : (x d : ℕ) (out : List ℕ) (at i : ℕ) → i < 16 → d ≡ digit (x / 2 ^ (4 * (15 - i)) % 16)
    → sets (set out (at + i) d) (at + (i + 1)) (digits (16 - (i + 1)) x ++ (10 ∷ [])) ≡ sets out (at + i) (digits (16 - i) x ++ (10 ∷ []))
turn x d out at i h e =
    let left : 16 - i - 1 ≡ 15 - i = omega arith in
    let after : 16 - (i + 1) ≡ 15 - i = omega arith in
    let next : at + (i + 1) ≡ suc (at + i) = omega arith in
    rw (digits_next (16 - i) x (omega arith), left, after, next, e)

pub loop-i-init : goal.loop-i-init
unfolding hex_line
loop-i-init c = (refl, rw (add-zero c.args.at))

pub loop-i-preserved : goal.loop-i-preserved
loop-i-preserved c =
    let l = c.loop-i in
    (length-set l.out (c.args.at + l.i) c.digit.result ∙ l.invariant.0, turn c.args.x c.digit.result l.out c.args.at l.i c.loop-i-test.true c.digit.ensures ∙ l.invariant.1)

pub returns : goal.returns
unfolding digits
returns c =
    let l = c.loop-i in
    let e : l.i ≡ 16 = omega arith in
    (omega arith, sym (ap (λ (k : ℕ). sets l.out (c.args.at + k) (digits (16 - k) c.args.x ++ (10 ∷ []))) e) ∙ l.invariant.1)
