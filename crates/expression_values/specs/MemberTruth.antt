-- Whether a value is among the values of a list of expressions, with errors: the result of IN. Only
-- private clauses use this definition.
use Rattle.std.specs.Prelude.{List, [], ◌∷◌, Option, Some, Bool, false}
use Rattle.rdf_core.specs.declared.term.Term.{Term}
use Rattle.algebra_model.specs.Solution.{Solution}
use Rattle.algebra_model.specs.BooleanValue.{logical_or}
use Rattle.algebra_model.specs.Comparison.{equal, compares}
use Rattle.algebra_model.specs.Expression.{Expression, val, with_values}

abbrev pub member_truth : Option Term → List Expression → Solution Term → Option Bool
member_truth x [] μ = Some false
member_truth x (e ∷ es) μ =
    logical_or (with_values x (val e μ) (compares equal)) (member_truth x es μ)
