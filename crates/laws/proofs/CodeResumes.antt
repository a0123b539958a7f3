-- Resuming a proper position's code restores it with the stored offset: the theorem, of what ResumesSaved shows of one position.
-- Assumes nothing.
use mathlib.Core.Path.{refl, ap, ◌∙◌}
use Rattle.rules.specs.declared.Position.{Position}
use Rattle.rules.specs.Proper.{proper}
use Rattle.rules.specs.Fields.{with_offset}
use Rattle.rules.specs.Code.{code, resumed}
use Rattle.rules.specs.History.{same_position}
use Rattle.rules.specs.Answers.{improper, save_answer, resume_answer}
use Rattle.rules.specs.Demands.{ResumesSaved}
use Rattle.bits.proofs.Tables.{T_true, true-T}
use Rattle.laws.proofs.Accepted.{is_accepted}
use Rattle.laws.proofs.Saved.{stored}
use Rattle.laws.proofs.ResumesSaved.{Given, given, resumed_is, code_accepted, tidied_same}

pub resumes_saved : ResumesSaved
unfolding save_answer improper resume_answer
resumes_saved p s t =
    let g : Given p = given p s t in
    rw (T_true (proper p) t, is_accepted p.deal p.step (code p) (code_accepted p g))
    (refl, true-T (same_position (resumed p.deal p.step (code p)) (with_offset p (stored p))) (ap (λ (q : Position). same_position q (with_offset p (stored p))) (resumed_is p g) ∙ tidied_same p g (stored p)))
