use Rattle.std.proofs.Common.{◌++◌, ℕ, arith, ap, ap₂, ◌∙◌}
use Rattle.std.proofs.lemmas.List.Edits.{sets}
use Rattle.rules.specs.declared.Masks.{Masks}
use Rattle.rules.specs.declared.Saved.{Saved}
use Rattle.rules.specs.declared.Masked.{Masked}
use Rattle.rules.specs.Show.{hex_line, masks_text, shown}
use Rattle.show.proofs.Lines.{Wrote, line, then, lines}
use Rattle.show.proofs.Texts.{code_told, masks_told}
use Rattle.show.proofs.shown.Goals as goal

pub returns : goal.returns
unfolding shown
returns c =
    let v = c.gravyhelm_save in
    let h = c.hex_line-at in
    let k = c.gravyhelm_masks in
    let t = c.mask_lines in
    let saved = ap (λ (r : Saved). r.code) v.ensures ∙ code_told c.args.p c.requires.0 in
    let masked = ap (λ (r : Masked). r.masks) k.ensures ∙ masks_told c.args.p c.requires.0 in
    let w : Wrote c.args.out.now 0 t.new.out t.result (hex_line v.result.code ++ masks_text k.result.masks) =
    then (line v.result.code h.new.out h.result h.ensures) (lines k.result.masks t.new.out t.result t.ensures) in
    (omega arith, w.over ∙ ap₂ (λ (n : ℕ) (m : Masks). sets c.args.out.now 0 (hex_line n ++ masks_text m)) saved masked)
