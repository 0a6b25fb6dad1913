use Rattle.std.proofs.Common.{◌≡◌, filter, nat_eq, take}
use Rattle.std.specs.List.{list_any}
use Rattle.sparql_eval.proofs.possible_graphs.graphs_among.Given as goal

abbrev pub invariant-loop-i : goal.invariant-loop-i
invariant-loop-i l = l.found.items ≡ filter (λ g. list_any (λ x. nat_eq x g) l.numbers) (take l.i l.graphs)
