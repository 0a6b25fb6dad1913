use Rattle.std.proofs.Common.{sym, ◌∙◌}
use Rattle.nquads_scan.proofs.PlainLaws.{iri_form, label_form, literal_form}
use Rattle.nquads_scan.proofs.plain.is_plain_form.Goals as goal

pub returns-in-Some : goal.returns-in-Some
returns-in-Some c = λ h. iri_form c.args.raw.now c.in-Some.iri.now c.in-Some.ensures (sym c.is_plain_iri.ensures ∙ h)

pub returns-in-Some-cut_string : goal.returns-in-Some-cut_string
returns-in-Some-cut_string c =
    λ h. literal_form c.args.raw.now c.in-Some-cut_string.field-0-0.now c.in-Some-cut_string.suffix.now c.in-Some-cut_string.ensures (c.is_plain_suffix.ensures h)

pub returns-in-Some-after_label_sign : goal.returns-in-Some-after_label_sign
returns-in-Some-after_label_sign c = λ h. label_form c.args.raw.now c.in-Some-after_label_sign.label.now c.in-Some-after_label_sign.ensures (c.is_label.ensures h)
