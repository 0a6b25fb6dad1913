-- A group with one more element; the program has translated what the element adds. Only private
-- clauses use this definition.
use Rattle.std.specs.Prelude.{List, ◌++◌}
use Rattle.algebra_model.specs.Algebra as algebra
use Rattle.expression_values.specs.ExpressionOf.{expression_of}
use Rattle.sparql_algebra.specs.AlgebraOf.{algebra_of}
use Rattle.sparql_algebra.specs.Names.{Name}
use Rattle.sparql_algebra.specs.Translation.{Part, closed, closed_as, joined_filters}
use Rattle.sparql_algebra.specs.declared.addition.Addition as addition
use Rattle.sparql_algebra.specs.declared.addition.Addition.TheVariants.{Triples, Filter, Operation}
use Rattle.sparql_algebra.specs.declared.operation.Operation as operation
use Rattle.sparql_algebra.specs.declared.operation.Operation.TheVariants.{Optional, Minus, Extend, Join}

-- the operator with its first input
abbrev pub applied : algebra.Algebra → operation.Operation → algebra.Algebra
applied A (Optional o e) = algebra.LeftJoin A (algebra_of o.value) (expression_of e.value)
applied A (Minus o) = algebra.Minus A (algebra_of o.value)
applied A (Extend v e) = algebra.Extend v (expression_of e.value) A
applied A (Join o) = algebra.Join A (algebra_of o.value)

abbrev pub added : List Name → Part → addition.Addition → Part
added names p (Triples ts) =
    record { before = p.before; triples = p.triples ++ ts.now; filters = p.filters }
added names p (Filter e) = record {
  before = p.before;
  triples = p.triples;
  filters = joined_filters p.filters (expression_of e.value);
}
added names p (Operation o) = closed_as p (applied (closed names p) o)
