use Rattle.query_parts.proofs.ResultLaws as laws
use Rattle.query_parts.proofs.laws.merges_give_the_result.Goals as goal

pub returns : goal.returns
returns c = record { law = laws.merges_give_result c.one_tree.ensures.unique c.one_meaning.ensures.law c.results_are_unique.ensures.law }
