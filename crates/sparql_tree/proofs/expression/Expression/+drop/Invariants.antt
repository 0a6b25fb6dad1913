use Rattle.std.proofs.Common.{◌≤◌}
use Rattle.sparql_tree.specs.declared.expression.Expression.{size-Expression}
use Rattle.sparql_tree.proofs.expression.Expression.+drop.Given as goal

abbrev pub invariant-loop-self : goal.invariant-loop-self
invariant-loop-self l = size-Expression l.self ≤ size-Expression l.initial.self
