use Rattle.quad_index.proofs.IndexSteps.{names_once, names_rise}
use Rattle.quad_index.proofs.index.Index.graphs.Goals as goal

pub returns-clause-names : goal.returns-clause-names
returns-clause-names c = names_once _ c.self.inside.gspo c.self.inside.graphs.items _ c.self.view_is c.self.invariant.sorted_gspo c.self.invariant.names c.as_slice.ensures.value

pub returns-clause-rising : goal.returns-clause-rising
returns-clause-rising c = names_rise c.self.inside.gspo c.self.inside.graphs.items _ c.self.invariant.sorted_gspo c.self.invariant.names c.as_slice.ensures.value
