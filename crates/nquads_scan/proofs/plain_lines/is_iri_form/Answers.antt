use Rattle.std.proofs.Common.{sym, ◌∙◌}
use Rattle.nquads_scan.proofs.PlainLaws.{iri_denotes}
use Rattle.nquads_scan.proofs.plain_lines.is_iri_form.Goals as goal

pub returns-in-Some : goal.returns-in-Some
returns-in-Some c = λ h. iri_denotes c.args.raw.now c.in-Some.iri.now c.in-Some.ensures (sym c.is_plain_iri.ensures ∙ h)
