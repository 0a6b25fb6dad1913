use Rattle.nquads_scan.proofs.PlainLaws.{label_denotes}
use Rattle.nquads_scan.proofs.plain_lines.is_label_form.Goals as goal

pub returns-in-Some : goal.returns-in-Some
returns-in-Some c = λ h. label_denotes c.args.raw.now c.in-Some.label.now c.in-Some.ensures (c.is_label.ensures h)
