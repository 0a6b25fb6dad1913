-- The key of a split in the code, and the keys that can fit. Only private clauses use these definitions.
use Rattle.std.specs.Prelude.{◌≡◌, ℕ, Bool, true, false, List, [], ◌∷◌, Option, Some, None}
use Rattle.std.specs.Option.{option_or}
use Rattle.rdf_core.specs.declared.term.Term.{Term}
use Rattle.algebra_model.specs.Algebra.{Algebra, Pattern, Join, LeftJoin, Union, Minus, Graph, Filter, Extend, Project, Distinct, Table}
use Rattle.algebra_model.specs.Algebra as algebra
use Rattle.algebra_model.specs.Bgp.{PatternTerm, TriplePattern, variable, label, constant}
use Rattle.query_split.specs.Condition.{Key}
use Rattle.query_split.specs.declared.split.Split.{Split}
use Rattle.query_split.specs.declared.split.Split.TheVariants as by
use Rattle.sparql_algebra.specs.declared.operator.GraphName.{GraphName}
use Rattle.sparql_algebra.specs.declared.operator.GraphName.TheVariants as name

abbrev pub key_of : GraphName → Key
key_of (name.Variable v) = variable v
key_of (name.Iri t) = constant t

-- the key of the split is the name of a graph
abbrev pub has_names : Split → Bool
has_names by.Lines = false
has_names by.Subject = false
has_names by.Graph = true
has_names by.GraphWithDefault = true

-- the variable at a position
abbrev pub variable_at : PatternTerm Term → Option ℕ
variable_at (variable v) = Some v
variable_at (label l) = None
variable_at (constant t) = None

-- the subject of the first triple pattern, if it is a variable
abbrev pub first_variable : List (TriplePattern Term) → Option ℕ
first_variable [] = None
first_variable (t ∷ P) = variable_at t.s

-- the first subject that is a variable and in the first triple pattern of its basic graph pattern
abbrev pub first_subject : Algebra → Option ℕ
first_subject (Pattern labels P) = first_variable P
first_subject (Join A B) = option_or (first_subject A) (first_subject B)
first_subject (LeftJoin A B e) = option_or (first_subject A) (first_subject B)
first_subject (Union A B) = option_or (first_subject A) (first_subject B)
first_subject (Minus A B) = option_or (first_subject A) (first_subject B)
first_subject (Graph i A) = first_subject A
first_subject (Filter e A) = first_subject A
first_subject (Extend v e A) = first_subject A
first_subject (Project vs A) = first_subject A
first_subject (Distinct A) = first_subject A
first_subject (Table vs rows) = None

-- the first name after GRAPH
abbrev pub first_graph : Algebra → Option algebra.GraphName
first_graph (Pattern labels P) = None
first_graph (Join A B) = option_or (first_graph A) (first_graph B)
first_graph (LeftJoin A B e) = option_or (first_graph A) (first_graph B)
first_graph (Union A B) = option_or (first_graph A) (first_graph B)
first_graph (Minus A B) = option_or (first_graph A) (first_graph B)
first_graph (Graph i A) = Some i
first_graph (Filter e A) = first_graph A
first_graph (Extend v e A) = first_graph A
first_graph (Project vs A) = first_graph A
first_graph (Distinct A) = first_graph A
first_graph (Table vs rows) = None
