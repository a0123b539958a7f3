-- The bit tricks of a card's number: on each byte, by tests that antt computes, and on any two numbers.
-- Assumes nothing.
use Rattle.std.proofs.Common.{◌≡◌, ℕ, ◌+◌, ◌/◌, ◌%◌, ◌<◌, eqb, ltb, ap, arith, ltb-true, lt-ltb, eq-eqb, eqb-true}
use lib.Bits.{bit_and, bit_xor, and_le_l, and_le_r, xor_add_and, xor_self, xor_shr}
use Rattle.bits.proofs.Tables.{upto_is, same_test}
use Rattle.card.specs.Cards.{flipped, card_of, partner, pair, higher, lies_on}
use Rattle.card.specs.Methods.{twin}

pub flip_is : (v : ℕ) → v < 256 → bit_xor v (bit_and (v / 2) 2) ≡ card_of (v / 4) (v % 4)
unfolding card_of flipped
flip_is = upto_is 256 (λ v. bit_xor v (bit_and (v / 2) 2)) (λ v. card_of (v / 4) (v % 4)) tt

pub partner_is : (v : ℕ) → v < 256 → bit_xor v 1 ≡ partner v
unfolding partner
partner_is = upto_is 256 (λ v. bit_xor v 1) partner tt

pub twin_is : (v : ℕ) → v < 256 → bit_xor v 2 ≡ twin v
unfolding twin
twin_is = upto_is 256 (λ v. bit_xor v 2) twin tt

-- two numbers that differ in bit 0 at most are of one pair
xor_zero : (a b : ℕ) → bit_xor a b ≡ 0 → a ≡ b
xor_zero a b e = omega (arith, xor_add_and a b, and_le_l a b, and_le_r a b)

pub lies_is : (c d : ℕ) → ltb (bit_xor (c + 4) d) 2 ≡ lies_on c d
unfolding lies_on pair higher
lies_is c d =
    same_test (ltb (bit_xor (c + 4) d) 2) (eqb (d / 2) (c / 2 + 2))
    (λ e. eq-eqb (d / 2) (c / 2 + 2) (omega (arith, xor_zero ((c + 4) / 2) (d / 2) (omega (arith, ltb-true (bit_xor (c + 4) d) 2 e, xor_shr (c + 4) d 1)))))
    (λ e.
    let same : (c + 4) / 2 ≡ d / 2 = omega (arith, eqb-true (d / 2) (c / 2 + 2) e) in
    lt-ltb (bit_xor (c + 4) d) 2 (omega (arith, xor_shr (c + 4) d 1, ap (λ (x : ℕ). bit_xor x (d / 2)) same, xor_self (d / 2))))
