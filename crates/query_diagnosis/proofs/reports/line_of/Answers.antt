use Rattle.std.proofs.Common.{ℕ, List, ◌∙◌, ap, string_bytes}
use lib.Utf8.{encodes}
use Rattle.query_diagnosis.specs.Position.{line_of}
use Rattle.query_diagnosis.proofs.ReportSteps.{line_text}
use Rattle.query_diagnosis.proofs.reports.line_of.Goals as goal

pub returns-clause-line : goal.returns-clause-line
returns-clause-line c =
    line_text c.args.text.now (string_bytes c.in_ok-line.line) c.in_ok-characters.characters.items c.args.offset c.utf8.text c.in_ok-characters.ensures
    (c.in_ok-line.ensures ∙ ap encodes (c.line_at.ensures.value ∙ ap (λ (x : List ℕ). line_of x c.args.offset) c.deref.ensures.value))
