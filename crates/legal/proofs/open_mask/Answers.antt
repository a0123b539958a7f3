-- `legal::open_mask` meets its contract.
-- Assumes nothing.
use Rattle.std.proofs.Common.{◌≡◌, ℕ, ◌-◌, ◌/◌, ◌^◌, ◌≤◌, T, ltb, bit_and, sym, ap, ◌∙◌, subst}
use Rattle.bits.specs.Bit.{bit, mask_of}
use Rattle.bits.proofs.Laws.{mask_ext}
use Rattle.rules.specs.declared.Position.{Position}
use Rattle.rules.specs.Cards.{pair}
use Rattle.rules.specs.Places.{is_head, is_free}
use Rattle.rules.specs.Legal.{is_open}
use Rattle.rules.specs.Proper.{proper}
use Rattle.rules.proofs.Facts.{facts}
use Rattle.rules.proofs.HeadsLaw.{free_mask}
use Rattle.legal.specs.Pairs.{pair_of, lower}
use Rattle.legal.proofs.Room.{ruled, open_is}
use Rattle.legal.proofs.open_mask.Goals as goal

-- the code's free cards
free : (p : Position) → T (proper p) → (heads : ℕ) → heads ≡ mask_of 52 (is_head p) → bit_and p.visible ((2 ^ 64 - 1) - heads) ≡ mask_of 52 (is_free p)
free p t heads e = ap (λ (m : ℕ). bit_and p.visible ((2 ^ 64 - 1) - m)) e ∙ free_mask p (facts p t)

pub bottom_mask-requires : goal.bottom_mask-requires
bottom_mask-requires c =
    let p = c.args.p.position in
    let f = facts p c.args.p.good in
    (f.visible, λ k l. subst (λ (m : ℕ). pair_of (lower (bit m)) k ≤ pair_of (bit p.visible) k) (sym (free p c.args.p.good c.args.heads c.requires)) (ruled p f k l))

pub returns : goal.returns
returns c =
    let p = c.args.p.position in
    let t = c.args.p.good in
    c.bottom_mask.ensures
    ∙ ap (λ (m : ℕ). mask_of 52 (λ c. ltb (pair_of (lower (bit m)) (c / 2)) (pair_of (bit p.visible) (c / 2)))) (free p t c.args.heads c.requires)
    ∙ mask_ext 52 (λ c. ltb (pair_of (lower (bit (mask_of 52 (is_free p)))) (c / 2)) (pair_of (bit p.visible) (c / 2))) (λ c. is_open p (pair c)) (open_is p (facts p t))
