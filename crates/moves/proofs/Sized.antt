-- What holding Masks tells: each mask fits 64 bits. And the code's operators on them.
-- Assumes nothing.
use mathlib.Core.Bool.{Bool, ◌&&◌}
use mathlib.Core.Path.{◌≡◌, sym, ap, ◌∙◌}
use mathlib.Core.List.{List}
use Prim.Native.Nat.{ℕ, zero, suc, ◌^◌, ◌<◌}
use native.Mathlib.Omega.{arith}
use lib.Dec.{eqb, eqb-suc-zero}
use lib.Bits.{bit_or, or_add_and, and_le_r, or_zero_l}
use borrow.Author.Tests.{ne_eqb}
use mir.Val.{Val}
use denote.Laws.{Is}
use denote.Struct.Laws as LL
use Rattle.rules.specs.declared.Masks.{Masks}
use Rattle.rules.specs.Moves.{mask_by_mask}
use Rattle.moves.specs.Each.{EachMask}
use Rattle.rules.specs.contracts.Masks as T
use Rattle.rules.proofs.Masks.TheLaws as T'

pub record Sized (m : Masks) : Type 0 where
  pub reveal : m.reveal < 2 ^ 64
  pub pile_stack : m.pile_stack < 2 ^ 64
  pub deck_pile : m.deck_pile < 2 ^ 64
  pub deck_stack : m.deck_stack < 2 ^ 64
  pub stack_pile : m.stack_pile < 2 ^ 64

pub sized : (m : Masks) (vs : List Val) → Is T.the_row m vs → Sized m
sized m vs g =
    let f = LL.owed T.the_type T'.the_laws m vs g in
    record {
      reveal = f.0.1;
      pile_stack = f.1.0.1;
      deck_pile = f.1.1.0.1;
      deck_stack = f.1.1.1.0.1;
      stack_pile = f.1.1.1.1.0.1;
    }

-- `a | b` is 0 where both are
pub or_none : (a b : ℕ) → eqb (bit_or a b) 0 ≡ (eqb a 0 && eqb b 0)
or_none zero b = ap (λ (x : ℕ). eqb x 0) (or_zero_l b)
or_none (suc a) b = ne_eqb (bit_or (suc a) b) 0 (λ e. omega (arith, or_add_and (suc a) b, and_le_r (suc a) b)) ∙ sym (ap (λ (t : Bool). t && eqb b 0) (eqb-suc-zero a))

-- Masks are equal where each mask is
pub each : {a b c d e a' b' c' d' e' : ℕ} → a ≡ a' → b ≡ b' → c ≡ c' → d ≡ d' → e ≡ e'
    → ◌≡◌ {A = Masks} (record { reveal = a; pile_stack = b; deck_pile = c; deck_stack = d; stack_pile = e }) (record { reveal = a'; pile_stack = b'; deck_pile = c'; deck_stack = d'; stack_pile = e' })
each p q r s t = cc

-- two operations that agree on masks, mask by mask
pub by_mask : (f g : ℕ → ℕ → ℕ) → ((x y : ℕ) → x < 2 ^ 64 → y < 2 ^ 64 → f x y ≡ g x y) → (m n r : Masks) → Sized m → Sized n → EachMask (λ x y z. z ≡ f x y) m n r → r ≡ mask_by_mask g m n
unfolding mask_by_mask
by_mask f g same m n r a b e =
    each
    (e.0 ∙ same m.reveal n.reveal a.reveal b.reveal)
    (e.1 ∙ same m.pile_stack n.pile_stack a.pile_stack b.pile_stack)
    (e.2 ∙ same m.deck_pile n.deck_pile a.deck_pile b.deck_pile)
    (e.3 ∙ same m.deck_stack n.deck_stack a.deck_stack b.deck_stack)
    (e.4 ∙ same m.stack_pile n.stack_pile a.stack_pile b.stack_pile)
