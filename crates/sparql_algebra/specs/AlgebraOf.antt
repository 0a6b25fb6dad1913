-- The algebra expression that the tree of a plan represents, without its layout in memory.
use Rattle.std.specs.Prelude.{map}
use Rattle.rdf_core.specs.declared.term.Term.{Term}
use Rattle.algebra_model.specs.Algebra as algebra
use Rattle.algebra_model.specs.Algebra.{Algebra, each_graph, one_graph}
use Rattle.algebra_model.specs.Bgp as bgp
use Rattle.expression_values.specs.ExpressionOf.{expression_of}
use Rattle.sparql_algebra.specs.declared.operator.GraphName.{GraphName}
use Rattle.sparql_algebra.specs.declared.operator.GraphName.TheVariants as name
use Rattle.sparql_algebra.specs.declared.operator.PatternTerm.{PatternTerm}
use Rattle.sparql_algebra.specs.declared.operator.PatternTerm.TheVariants as place
use Rattle.sparql_algebra.specs.declared.operator.TriplePattern.{TriplePattern}
use Rattle.sparql_algebra.specs.declared.operator.Operator.{Operator, fold-Operator}
use Rattle.sparql_algebra.specs.declared.operator.Operator.TheOpen.{Operator-F}

abbrev pub pattern_term_of : PatternTerm → bgp.PatternTerm Term
pattern_term_of (place.Variable v) = bgp.variable v
pattern_term_of (place.Label l) = bgp.label l
pattern_term_of (place.Term t) = bgp.constant t

abbrev pub triple_pattern_of : TriplePattern → bgp.TriplePattern Term
triple_pattern_of t = record {
  s = pattern_term_of t.subject;
  p = pattern_term_of t.predicate;
  o = pattern_term_of t.object;
}

abbrev pub graph_name_of : GraphName → algebra.GraphName
graph_name_of (name.Variable v) = each_graph v
graph_name_of (name.Iri t) = one_graph t

-- one level of the tree, with each input replaced by its algebra expression
abbrev pub algebra_step : Operator-F Algebra → Algebra
algebra_step (Operator-F.Pattern labels P) = algebra.Pattern labels (map triple_pattern_of P.items)
algebra_step (Operator-F.Join A B) = algebra.Join A.value B.value
algebra_step (Operator-F.LeftJoin A B e) = algebra.LeftJoin A.value B.value (expression_of e)
algebra_step (Operator-F.Union A B) = algebra.Union A.value B.value
algebra_step (Operator-F.Minus A B) = algebra.Minus A.value B.value
algebra_step (Operator-F.Graph i A) = algebra.Graph (graph_name_of i) A.value
algebra_step (Operator-F.Filter e A) = algebra.Filter (expression_of e) A.value
algebra_step (Operator-F.Extend v e A) = algebra.Extend v (expression_of e) A.value
algebra_step (Operator-F.Project vs A) = algebra.Project vs.items A.value
algebra_step (Operator-F.Distinct A) = algebra.Distinct A.value
algebra_step (Operator-F.Table vs rows) = algebra.Table vs.items (map (λ row. row.items) rows.items)

abbrev pub algebra_of : Operator → Algebra
algebra_of = fold-Operator Algebra algebra_step
