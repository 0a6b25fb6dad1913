use Rattle.std.proofs.Common.{◌≡◌, [], drop, get_or, is_some, not}
use Rattle.std.specs.List.{list_all}
use Rattle.sparql_eval.proofs.joins.first_is_open.Given as goal

abbrev pub invariant-loop-variable : goal.invariant-loop-variable
invariant-loop-variable l =
    list_all (λ cell. not (is_some cell)) (drop l.variable (get_or l.rows.rows 0 [])) ≡ list_all (λ cell. not (is_some cell)) (get_or l.rows.rows 0 [])
