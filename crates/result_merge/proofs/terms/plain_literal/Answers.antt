use Rattle.std.proofs.Common.{◌∙◌}
use Rattle.result_merge.proofs.ReadSteps.{plain_term}
use Rattle.result_merge.proofs.terms.plain_literal.Goals as goal

pub returns : goal.returns
returns c = record { text = plain_term c.args.lexical c.from_string-datatype.result (c.from_string-datatype.ensures.value ∙ c.in_ok-from_str.ensures.ok); memory = tt; tagged = tt }
