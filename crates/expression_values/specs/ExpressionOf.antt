-- The expression that a tree of the program represents, without its layout in memory.
use Rattle.rdf_core.specs.declared.term.Term.{Term}
use Rattle.algebra_model.specs.Call as call
use Rattle.algebra_model.specs.Expression.{Expression, variable, constant, either, both, negation, comparison, member, call, bound, same_term}
use Rattle.sparql_tree.specs.declared.expression.Function.{Function}
use Rattle.sparql_tree.specs.declared.expression.Function.TheVariants.{Str, Lang, Datatype, IsIri, IsBlank, IsLiteral}
pub use Rattle.term_values.specs.ComparisonOf.{comparison_of}
use Rattle.expression_values.specs.declared.expression.Expr.{Expr, fold-Expr}
use Rattle.expression_values.specs.declared.expression.Expr.TheOpen.{Expr-F}

abbrev pub function_of : Function → call.Function
function_of Str = call.str
function_of Lang = call.lang
function_of Datatype = call.datatype
function_of IsIri = call.is_iri
function_of IsBlank = call.is_blank
function_of IsLiteral = call.is_literal

-- one level of the tree, with each operand replaced by its expression
abbrev pub expression_step : Expr-F Expression → Expression
expression_step (Expr-F.Variable v) = variable v
expression_step (Expr-F.Constant t) = constant t
expression_step (Expr-F.Or a b) = either a.value b.value
expression_step (Expr-F.And a b) = both a.value b.value
expression_step (Expr-F.Not a) = negation a.value
expression_step (Expr-F.Compare op a b) = comparison (comparison_of op) a.value b.value
expression_step (Expr-F.In x es) = member x.value es.items
expression_step (Expr-F.Call f a) = call (function_of f) a.value
expression_step (Expr-F.Bound v) = bound v
expression_step (Expr-F.SameTerm a b) = same_term a.value b.value

abbrev pub expression_of : Expr → Expression
expression_of = fold-Expr Expression expression_step
