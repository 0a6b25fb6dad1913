use Rattle.std.proofs.Common.{ℕ, take, ap, ◌∙◌}
use Rattle.std.specs.Str.{valid_up_to}
use Rattle.line_diagnosis.proofs.FrontLaws.{front_of}
use Rattle.line_diagnosis.proofs.diagnosis.text_of.Goals as goal

pub returns-in-Ok-from_utf8-clause-longest : goal.returns-in-Ok-from_utf8-clause-longest
returns-in-Ok-from_utf8-clause-longest c =
    let v = c.in-Err.ensures.cases in
    let w = c.in-Ok-from_utf8.ensures.cases in
    front_of c.args.line.now c.in-Ok-from_utf8.text.now (valid_up_to c.in-Err.error) v.1 (w.0 ∙ ap (λ (n : ℕ). take n c.args.line.now) c.valid_up_to-end.ensures)
