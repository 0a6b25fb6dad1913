use Rattle.std.proofs.Common.{◌++◌, ◌∙◌, sym}
use Rattle.std.proofs.lemmas.List.{take-append-drop}
use Rattle.result_merge.proofs.ReadSteps.{front_is}
use Rattle.result_merge.proofs.strings.split_before.Goals as goal

pub returns-clause-front : goal.returns-clause-front
returns-clause-front c = λ front e. front_is c.args.whole.now front c.args.rest.now c.split_at.result.0.now _ e c.saturating_sub.ensures c.split_at.ensures.front

pub returns-clause-parts : goal.returns-clause-parts
returns-clause-parts c = sym ((λ i. c.split_at.ensures.front i ++ c.split_at.ensures.back i) ∙ take-append-drop _ c.args.whole.now)
