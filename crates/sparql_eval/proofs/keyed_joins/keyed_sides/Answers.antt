use Rattle.std.proofs.Common.{ℕ, List, map, ap, ◌∙◌}
use Rattle.sparql_eval.specs.KeyedRows.{with_keys}
use Rattle.sparql_eval.proofs.keyed_joins.keyed_sides.Goals as goal

pub returns-clause-left : goal.returns-clause-left
returns-clause-left c = c.in_ok-left.ensures.rows ∙ ap (λ (vs : List ℕ). map (with_keys c.args.dict.now vs) c.args.left.now.rows) (c.as_slice.ensures.value ∙ c.in_ok-left_variables.ensures.left)

pub returns-clause-right : goal.returns-clause-right
returns-clause-right c = c.in_ok-right.ensures.rows ∙ ap (λ (vs : List ℕ). map (with_keys c.args.dict.now vs) c.args.right.now.rows) (c.as_slice-2.ensures.value ∙ c.in_ok-left_variables.ensures.right)
