-- What an operator with two inputs makes of their solutions. Only private clauses use this definition.
use Rattle.std.specs.Prelude.{List}
use Rattle.rdf_core.specs.declared.term.Term.{Term}
use Rattle.rdf_core.specs.Equality.{term_eq}
use Rattle.algebra_model.specs.Expression.{holds}
use Rattle.algebra_model.specs.Operators.{join, left_join, minus}
use Rattle.algebra_model.specs.Solution.{Solution}
use Rattle.expression_values.specs.ExpressionOf.{expression_of}
use Rattle.sparql_eval.specs.declared.two_inputs.Pairing.{Pairing}
use Rattle.sparql_eval.specs.declared.two_inputs.Pairing.TheVariants.{Join, LeftJoin, Minus}

abbrev pub paired : Pairing → List (Solution Term) → List (Solution Term) → List (Solution Term)
paired Join A B = join term_eq A B
paired (LeftJoin condition) A B = left_join term_eq (holds (expression_of condition.now)) A B
paired Minus A B = minus term_eq A B
