-- The comparison that a comparison operator of the syntax tree represents.
use Rattle.algebra_model.specs.Comparison as comparison
use Rattle.sparql_tree.specs.declared.expression.Comparison.{Comparison}
use Rattle.sparql_tree.specs.declared.expression.Comparison.TheVariants.{Equal, NotEqual, Less, Greater, LessOrEqual, GreaterOrEqual}

-- the same operator of the algebra
abbrev pub comparison_of : Comparison → comparison.Comparison
comparison_of Equal = comparison.equal
comparison_of NotEqual = comparison.not_equal
comparison_of Less = comparison.less
comparison_of Greater = comparison.greater
comparison_of LessOrEqual = comparison.less_or_equal
comparison_of GreaterOrEqual = comparison.greater_or_equal
