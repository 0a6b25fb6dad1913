use Rattle.std.proofs.Common.{sym, ◌∙◌}
use Rattle.text_pieces.proofs.RelevanceSteps.{unneeded}
use Rattle.text_pieces.proofs.relevance.is_unneeded.Goals as goal

pub returns : goal.returns
returns c = record {
  unneeded = unneeded c.args.filter.now c.args.raw.now c.is_in_form.result (λ q slices. sym (c.wants.ensures.value q slices) ∙ c.if-wants.false) c.is_in_form.ensures.valid;
}
