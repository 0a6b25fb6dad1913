-- Trees whose solutions do not depend on the active graph: no triple pattern is outside of a GRAPH.
-- The evaluation of GRAPH (SPARQL 1.1 Query Language, section 18.6) is the only one that changes
-- the active graph, and a basic graph pattern is the only one that reads it. The condition is a
-- choice of this project; only laws and private clauses use it.
use Rattle.std.specs.Prelude.{Bool, true, false, ◌&&◌, [], ◌∷◌}
use Rattle.algebra_model.specs.Algebra.{Algebra, Pattern, Join, LeftJoin, Union, Minus, Graph, Filter, Extend, Project, Distinct, Table}

-- no triple pattern is outside of a GRAPH
abbrev pub is_closed : Algebra → Bool
is_closed (Pattern labels []) = true
is_closed (Pattern labels (t ∷ P)) = false
is_closed (Join A B) = is_closed A && is_closed B
is_closed (LeftJoin A B e) = is_closed A && is_closed B
is_closed (Union A B) = is_closed A && is_closed B
is_closed (Minus A B) = is_closed A && is_closed B
is_closed (Graph i A) = true
is_closed (Filter e A) = is_closed A
is_closed (Extend v e A) = is_closed A
is_closed (Project vs A) = is_closed A
is_closed (Distinct A) = is_closed A
is_closed (Table vs rows) = true
