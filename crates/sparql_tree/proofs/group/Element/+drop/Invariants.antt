use Rattle.std.proofs.Common.{◌≤◌}
use Rattle.sparql_tree.specs.declared.group.Element.{size-Element}
use Rattle.sparql_tree.proofs.group.Element.+drop.Given as goal

abbrev pub invariant-loop-self : goal.invariant-loop-self
invariant-loop-self l = size-Element l.self ≤ size-Element l.initial.self
