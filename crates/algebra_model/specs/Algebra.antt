-- Algebra expressions (SPARQL 1.1 Query Language, section 18.2). Variables are numbered over the
-- whole query, and blank node labels within their pattern.
use Rattle.std.specs.Prelude.{ℕ, Bool, true, ◌&&◌, nat_lt, List, Option}
use Rattle.std.specs.List.{list_all}
use Rattle.rdf_core.specs.declared.term.Term.{Term}
use Rattle.algebra_model.specs.Bgp.{TriplePattern, PatternTerm, variable, label, constant}
use Rattle.algebra_model.specs.Expression.{Expression}

-- the name after GRAPH: a variable, which ranges over all named graphs, or an IRI
pub data GraphName : Type 0 where
  each_graph : ℕ → GraphName
  one_graph : Term → GraphName

-- the operators of sections 18.2 and 18.5, under the names of the standard; Table is the data of
-- VALUES
pub data Algebra : Type 0 where
  -- a basic graph pattern, with the count of its blank node labels
  Pattern : ℕ → List (TriplePattern Term) → Algebra
  Join : Algebra → Algebra → Algebra
  -- left, right and condition
  LeftJoin : Algebra → Algebra → Expression → Algebra
  Union : Algebra → Algebra → Algebra
  Minus : Algebra → Algebra → Algebra
  Graph : GraphName → Algebra → Algebra
  Filter : Expression → Algebra → Algebra
  -- the variable that the value is bound to
  Extend : ℕ → Expression → Algebra → Algebra
  Project : List ℕ → Algebra → Algebra
  Distinct : Algebra → Algebra
  -- the variables of VALUES and its rows of cells, where UNDEF is `None`
  Table : List ℕ → List (List (Option Term)) → Algebra

-- The variables that the expression binds or lists are below w, and the labels of each pattern are
-- below its count of labels.
abbrev pub is_below : ℕ → ℕ → PatternTerm Term → Bool
is_below w labels (variable v) = nat_lt v w
is_below w labels (label l) = nat_lt l labels
is_below w labels (constant t) = true

-- the same of a triple pattern
abbrev pub is_triple_below : ℕ → ℕ → TriplePattern Term → Bool
is_triple_below w labels t = is_below w labels t.s && is_below w labels t.p && is_below w labels t.o

-- the same of the name after GRAPH
abbrev pub is_name_below : ℕ → GraphName → Bool
is_name_below w (each_graph v) = nat_lt v w
is_name_below w (one_graph t) = true

-- the same of a whole expression
abbrev pub is_within : ℕ → Algebra → Bool
is_within w (Pattern labels P) = list_all (is_triple_below w labels) P
is_within w (Join A B) = is_within w A && is_within w B
is_within w (LeftJoin A B e) = is_within w A && is_within w B
is_within w (Union A B) = is_within w A && is_within w B
is_within w (Minus A B) = is_within w A && is_within w B
is_within w (Graph i A) = is_name_below w i && is_within w A
is_within w (Filter e A) = is_within w A
is_within w (Extend v e A) = nat_lt v w && is_within w A
is_within w (Project vs A) = list_all (λ v. nat_lt v w) vs && is_within w A
is_within w (Distinct A) = is_within w A
is_within w (Table vs rows) = list_all (λ v. nat_lt v w) vs
