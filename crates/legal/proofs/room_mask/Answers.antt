-- `legal::room_mask` meets its contract.
-- Assumes nothing.
use Rattle.std.proofs.Common.{◌≡◌, ℕ, ◌/◌, T, bit_and, bit_or, ap, ◌∙◌, arith}
use Rattle.bits.specs.Bit.{bit, mask_of, count_of}
use Rattle.rules.specs.declared.Position.{Position}
use Rattle.rules.specs.Places.{is_head, heads_and_kings}
use Rattle.rules.specs.Proper.{proper}
use Rattle.rules.proofs.Facts.{facts}
use Rattle.legal.proofs.Room.{top_count, room_some, room_none}
use Rattle.legal.proofs.room_mask.Goals as goal

-- what the count is
counted : (p : Position) → T (proper p) → (heads : ℕ) → heads ≡ mask_of 52 (is_head p) → count_of 64 (bit (bit_and p.visible (bit_or heads 0xF_0000_0000_0000))) ≡ heads_and_kings p
counted p t heads e = ap (λ (m : ℕ). count_of 64 (bit (bit_and p.visible (bit_or m 0xF_0000_0000_0000)))) e ∙ top_count p (facts p t)

pub returns-then-count-lt-N_COLUMNS : goal.returns-then-count-lt-N_COLUMNS
returns-then-count-lt-N_COLUMNS c =
    let p = c.args.p.position in
    let r = c.requires in
    ap (λ (m : ℕ). bit_or (m / 16) 0xF_0000_0000_0000) r.1 ∙ room_some p (facts p c.args.p.good) (omega (arith, c.count.ensures, counted p c.args.p.good _ r.0, c.if-count-lt-N_COLUMNS.true))

pub returns-else-count-lt-N_COLUMNS : goal.returns-else-count-lt-N_COLUMNS
returns-else-count-lt-N_COLUMNS c =
    let p = c.args.p.position in
    let r = c.requires in
    ap (λ (m : ℕ). m / 16) r.1 ∙ room_none p (facts p c.args.p.good) (omega (arith, c.count.ensures, counted p c.args.p.good _ r.0, c.if-count-lt-N_COLUMNS.false))
