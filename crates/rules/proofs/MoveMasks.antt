-- The masks of a position have bits of cards alone, pruned or not, and the unpruned ones list just the legal moves.
-- Assumes nothing.
use mathlib.Core.Bool.{Bool, true, false}
use mathlib.Core.Path.{◌≡◌, refl, ap, ◌∙◌, subst}
use Prim.Native.Nat.{ℕ, zero, suc, ◌+◌, ◌*◌, ◌≤◌, ◌<◌, ◌^◌}
use native.Mathlib.Nat.{lt_of_lt_of_le}
use native.Mathlib.Omega.{arith}
use lib.Dec.{T}
use lib.Pow.{pow_mono}
use Rattle.bits.proofs.Laws.{bit_mask, mask_lt, bit_high, few_bits}
use Rattle.bits.proofs.Tables.{true-T}
use Rattle.rules.specs.declared.Position.{Position}
use Rattle.rules.specs.Bits.{num, bit, Within, times}
use Rattle.rules.specs.Proper.{proper, Shaped}
use Rattle.rules.specs.Legal.{deck_stack_legal, pile_stack_legal, deck_pile_legal, stack_pile_legal, reveal_legal, unpruned, legal, listing}
use Rattle.rules.specs.Pruned.{pruned}
use Rattle.rules.specs.Moves.{CardMasks, of_kind}
use Rattle.rules.proofs.PrunedLaw.{pruned_within}
use Rattle.rules.proofs.ListingLaw.{listed_once}

pub unpruned_cards : (p : Position) → CardMasks (unpruned p)
unfolding unpruned
unpruned_cards p =
    record {
      reveal = mask_lt 52 (reveal_legal p);
      pile_stack = mask_lt 52 (pile_stack_legal p);
      deck_pile = mask_lt 52 (deck_pile_legal p);
      deck_stack = mask_lt 52 (deck_stack_legal p);
      stack_pile = mask_lt 52 (stack_pile_legal p);
    }

lt_two_pow : (n : ℕ) → n < 2 ^ n
lt_two_pow zero = omega arith
lt_two_pow (suc n) = omega (arith, lt_two_pow n)

-- a part of a mask below 2 ^ n is below 2 ^ n
within_low : (n x y : ℕ) → Within x y → y < 2 ^ n → x < 2 ^ n
within_low n x y w l =
    few_bits (x + n) n x (lt_of_lt_of_le (lt_two_pow x) (pow_mono {i = x} {j = x + n} (omega arith))) (omega arith) (λ k a b. clear k a (bit x k) refl)
  where
    clear : (k : ℕ) → n ≤ k → (b : Bool) → bit x k ≡ b → b ≡ false
    clear k a true e = absurd (subst T (bit_high n y k l a) (w k (true-T (bit x k) e)))
    clear k a false e = refl

pub pruned_cards : (p : Position) → Shaped p → T (proper p) → CardMasks (pruned p)
pruned_cards p s t =
    let w = pruned_within p s t in
    let u = unpruned_cards p in
    record {
      reveal = within_low 52 _ _ w.0 u.reveal;
      pile_stack = within_low 52 _ _ w.1 u.pile_stack;
      deck_pile = within_low 52 _ _ w.2 u.deck_pile;
      deck_stack = within_low 52 _ _ w.3 u.deck_stack;
      stack_pile = within_low 52 _ _ w.4 u.stack_pile;
    }

-- a bit of the mask of a kind is the test of that kind
pub bit_legal : (p : Position) (kind c : ℕ) → kind < 5 → c < 52 → bit (of_kind (unpruned p) kind) c ≡ legal p kind c
unfolding of_kind unpruned legal
bit_legal p zero c k l = bit_mask 52 (deck_stack_legal p) c l
bit_legal p (suc zero) c k l = bit_mask 52 (pile_stack_legal p) c l
bit_legal p (suc (suc zero)) c k l = bit_mask 52 (deck_pile_legal p) c l
bit_legal p (suc (suc (suc zero))) c k l = bit_mask 52 (stack_pile_legal p) c l
bit_legal p (suc (suc (suc (suc zero)))) c k l = bit_mask 52 (reveal_legal p) c l
bit_legal p (suc (suc (suc (suc (suc kind))))) c k l = absurd (omega arith)

-- "Hints list the unpruned moves": a legal move once, and no other
pub lists_legal : (p : Position) (kind c : ℕ) → kind < 5 → c < 52 → times (kind * 64 + c) (listing (unpruned p)) ≡ num (legal p kind c)
lists_legal p kind c k l = listed_once (unpruned p) kind c k l ∙ ap num (bit_legal p kind c k l)
