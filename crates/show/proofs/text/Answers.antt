use Rattle.std.proofs.Common.{◌∙◌, ap, arith}
use Rattle.rules.specs.Show.{shown, refused_line, show_text}
use Rattle.show.proofs.Texts.{at_front, of_none, low, refused_text, is_proper_lem, shown_text, shown_length, refused_length}
use Rattle.show.proofs.text.Goals as goal

pub returns-in_default : goal.returns-in_default
returns-in_default c =
    at_front c.args.out.now _ _ c.args.input.now (refused_line 2) 10 (refused_length 2) (omega arith) (of_none _ c.in_default.ensures.cases) c.refused.ensures

pub refused-requires-then-s-ne0 : goal.refused-requires-then-s-ne0
refused-requires-then-s-ne0 c = (low _ _ _ c.gravyhelm_deal-s.ensures.0, omega arith)

pub returns-then-s-ne0 : goal.returns-then-s-ne0
returns-then-s-ne0 c =
    let n = c.gravyhelm_deal-s.result.refusal in
    let told = refused_text _ _ _ c.gravyhelm_deal-s.ensures.0 c.if-s-ne0.true in
    at_front c.args.out.now _ _ c.args.input.now (refused_line n) 10 (refused_length n) (omega arith) (ap show_text c.in-Some.ensures.cases.0 ∙ told) c.refused-then-s-ne0.ensures

pub shown-requires : goal.shown-requires
shown-requires c = (is_proper_lem _ _ _ c.gravyhelm_deal-s.ensures.0 c.if-s-ne0.false, omega arith)

pub returns : goal.returns
returns c =
    let p = c.gravyhelm_deal-s.result.position in
    let told = shown_text _ _ _ c.gravyhelm_deal-s.ensures.0 c.if-s-ne0.false in
    at_front c.args.out.now _ _ c.args.input.now (shown p) 102 (shown_length p) (omega arith) (ap show_text c.in-Some.ensures.cases.0 ∙ told) c.shown.ensures
