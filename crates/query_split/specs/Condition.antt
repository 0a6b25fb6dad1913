-- Which queries can be evaluated on the parts of a dataset (conditions of this project, from SPARQL 1.1 Query Language,
-- sections 18.5 and 18.6). The laws of this crate say that they suffice; they are not necessary.
use Rattle.std.specs.Prelude.{ℕ, Bool, true, false, ◌&&◌, ◌||◌, ◌==◌, List, [], ◌∷◌}
use Rattle.std.specs.List.{list_all}
use Rattle.rdf_core.specs.declared.term.Term.{Term}
use Rattle.rdf_core.specs.Equality.{term_eq}
use Rattle.algebra_model.specs.Algebra.{Algebra, GraphName, Pattern, Join, LeftJoin, Union, Minus, Graph, Filter, Extend, Project, Distinct, Table, each_graph, one_graph}
use Rattle.algebra_model.specs.Bgp.{PatternTerm, TriplePattern, variable, label, constant}
use Rattle.query_split.specs.declared.split.Split.{Split}
use Rattle.query_split.specs.declared.split.Split.TheVariants as by

-- A key: what a solution has the key of its part in, a variable or the name of a graph.
abbrev pub Key : Type 0
Key = PatternTerm Term

-- the position is the key, which is a variable
abbrev pub is_key_variable : Key → PatternTerm Term → Bool
is_key_variable (variable k) (variable v) = k == v
is_key_variable _ _ = false

-- the name after GRAPH is the key
abbrev pub is_key_name : Key → GraphName → Bool
is_key_name (variable k) (each_graph v) = k == v
is_key_name (constant k) (one_graph t) = term_eq k t
is_key_name _ _ = false

-- there is no GRAPH in the expression
abbrev pub has_no_graph : Algebra → Bool
has_no_graph (Pattern labels P) = true
has_no_graph (Join A B) = has_no_graph A && has_no_graph B
has_no_graph (LeftJoin A B e) = has_no_graph A && has_no_graph B
has_no_graph (Union A B) = has_no_graph A && has_no_graph B
has_no_graph (Minus A B) = has_no_graph A && has_no_graph B
has_no_graph (Graph i A) = false
has_no_graph (Filter e A) = has_no_graph A
has_no_graph (Extend v e A) = has_no_graph A
has_no_graph (Project vs A) = has_no_graph A
has_no_graph (Distinct A) = has_no_graph A
has_no_graph (Table vs rows) = true

-- each part has the whole default graph
abbrev pub has_default : Split → Bool
has_default by.GraphWithDefault = true
has_default _ = false

-- The solutions are the same in each part as in the whole: no triple pattern is in the expression, or each part has the
-- graph that it reads.
abbrev pub is_same : Split → Algebra → Bool
is_same split (Pattern labels []) = true
is_same split (Pattern labels (t ∷ P)) = has_default split
is_same split (Join A B) = is_same split A && is_same split B
is_same split (LeftJoin A B e) = is_same split A && is_same split B
is_same split (Union A B) = is_same split A && is_same split B
is_same split (Minus A B) = is_same split A && is_same split B
is_same split (Graph i A) = false
is_same split (Filter e A) = is_same split A
is_same split (Extend v e A) = is_same split A
is_same split (Project vs A) = is_same split A
is_same split (Distinct A) = is_same split A
is_same split (Table vs rows) = true

-- each solution of the pattern comes from one part: by lines from one triple, by subject from triples with the key as subject
abbrev pub is_apart_pattern : Split → Key → List (TriplePattern Term) → Bool
is_apart_pattern by.Lines key (t ∷ []) = true
is_apart_pattern by.Subject key (t ∷ P) = is_key_variable key t.s && list_all (λ u. is_key_variable key u.s) P
is_apart_pattern _ key P = false

-- two solutions from different parts are never compatible, since each has a key of its part
abbrev pub has_keys : Split → Bool
has_keys by.Lines = false
has_keys _ = true

-- a GRAPH whose solutions come from one part each
abbrev pub is_apart_graph : Split → Key → GraphName → Algebra → Bool → Bool
is_apart_graph by.Lines key i A inner = has_no_graph A && inner
is_apart_graph by.Subject key i A inner = has_no_graph A && inner
is_apart_graph by.Graph key i A inner = has_no_graph A && is_key_name key i
is_apart_graph by.GraphWithDefault key i A inner = has_no_graph A && is_key_name key i

-- Each solution comes from one part: the solutions of the whole are those of all parts together.
abbrev pub is_apart : Split → Key → Algebra → Bool
is_apart split key (Pattern labels P) = is_apart_pattern split key P
is_apart split key (Join A B) =
    is_apart split key A && (is_same split B || has_keys split && is_apart split key B)
    || is_same split A && is_apart split key B
is_apart split key (LeftJoin A B e) = is_apart split key A && (is_same split B || has_keys split && is_apart split key B)
is_apart split key (Union A B) = is_apart split key A && is_apart split key B
is_apart split key (Minus A B) = is_apart split key A && (is_same split B || has_keys split && is_apart split key B)
is_apart split key (Graph i A) = is_apart_graph split key i A (is_apart split key A)
is_apart split key (Filter e A) = is_apart split key A
is_apart split key (Extend v e A) = is_apart split key A
is_apart split key (Project vs A) = false
is_apart split key (Distinct A) = false
is_apart split key (Table vs rows) = false
