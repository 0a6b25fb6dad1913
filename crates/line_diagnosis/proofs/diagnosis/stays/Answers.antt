use Rattle.std.proofs.Common.{◌∙◌, sym}
use Rattle.line_diagnosis.proofs.StayLaws.{in_iri_at, in_string_at}
use Rattle.line_diagnosis.proofs.diagnosis.stays.Goals as goal

pub returns-in-Read : goal.returns-in-Read
returns-in-Read c = λ h. in_iri_at c.args.state c.in-Iri.field-0 c.in-Iri.scheme c.args.c c.in-Iri.is c.in-Read.is c.ranges.c.0 (sym c.is_iri_char.ensures.value ∙ h)

pub returns-in-String : goal.returns-in-String
returns-in-String c = λ h. in_string_at c.args.state c.args.c c.in-String.is (sym c.is_string_char.ensures.value ∙ h)
