-- `stack_totals::weighed` meets its contract.
-- Assumes nothing.
use borrow.Author.Rules.{rules}
use Prim.Native.Nat.{ℕ, ◌+◌, ◌*◌, ◌≤◌}
use native.Mathlib.Nat.{lt_of_le_of_lt, add-le-add, mul-le-mul}
use native.Mathlib.Omega.{arith}
use mir.Val.{Fits}
use mir.Syntax.{w8}
use lib.Dec.{lit<}
use lib.ListN.{get_or}
use Rattle.stack_totals.proofs.weighed.Goals as goal

-- each height is a byte
byte : (c : goal.Start) (s : ℕ) → get_or c.args.heights s 0 ≤ 255
byte c s = let b : Fits w8 (get_or c.args.heights s 0) = search rules in omega (arith, b.fits)

-- two of the heights, whichever they are, weighed; and three
two : (c : goal.Start) (s t : ℕ) → get_or c.args.heights s 0 + c.args.radix * get_or c.args.heights t 0 ≤ 255 + 16 * 255
two c s t = add-le-add (byte c s) (mul-le-mul c.requires (byte c t))

three : (c : goal.Start) (s t u : ℕ) → get_or c.args.heights s 0 + c.args.radix * (get_or c.args.heights t 0 + c.args.radix * get_or c.args.heights u 0) ≤ 255 + 16 * (255 + 16 * 255)
three c s t u = add-le-add (byte c s) (mul-le-mul c.requires (two c t u))

pub overflow_mul-result-3 : goal.overflow_mul-result-3
overflow_mul-result-3 c = record { fits = lt_of_le_of_lt (mul-le-mul c.requires (three c _ _ _)) (lit< tt) }

pub overflow_add-result-3 : goal.overflow_add-result-3
overflow_add-result-3 c = record { fits = lt_of_le_of_lt (add-le-add (byte c _) (mul-le-mul c.requires (three c _ _ _))) (lit< tt) }
