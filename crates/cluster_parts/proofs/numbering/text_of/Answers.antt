use Rattle.std.proofs.Common.{sym}
use Rattle.cluster_parts.proofs.PartSteps.{text_with_number}
use Rattle.cluster_parts.proofs.numbering.text_of.Goals as goal

pub returns-clause-value : goal.returns-clause-value
returns-clause-value c = sym (text_with_number c.args.texts.now.texts c.args.number c.text.result.now c.text.ensures.value)
