use Rattle.std.proofs.Common.{ap, ◌∙◌}
use Rattle.std.proofs.lemmas.Str.Ascii.{trim_ascii_start_is}
use Rattle.line_diagnosis.specs.Likeness.{is_html_text}
use Rattle.line_diagnosis.proofs.likeness.is_html.Goals as goal

pub returns : goal.returns
returns c = record {
  value = c.is_html_text.ensures.value ∙ ap is_html_text (trim_ascii_start_is c.args.line.now c.trim_ascii_start.result.now c.trim_ascii_start.ensures.value);
}
