use Rattle.std.proofs.Common.{◌≡◌, ◌++◌, drop, map, filter}
use Rattle.sparql_algebra.specs.Names.{is_name_among, number_of}
use Rattle.sparql_algebra.proofs.translation.numbers_in_scope.Given as goal

abbrev pub invariant-loop-name : goal.invariant-loop-name
invariant-loop-name l =
    l.numbers.items ++ map (number_of l.names) (filter (λ x. is_name_among x l.scope) (drop l.name-index l.names))
    ≡ map (number_of l.names) (filter (λ x. is_name_among x l.scope) l.names)
