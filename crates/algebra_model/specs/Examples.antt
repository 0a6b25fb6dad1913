-- Worked examples: small datasets, algebra expressions and the rows of their results.
use Rattle.std.specs.Prelude.{◌≡◌, ℕ, List, [], ◌∷◌, Option, None, Some, true, codes}
use Rattle.rdf_core.specs.Vocabulary.{xsd_string}
use Rattle.rdf_core.specs.declared.term.Term.{Term}
use Rattle.rdf_core.specs.declared.term.Term.TheVariants.{Blank, Iri, Literal}
use Rattle.rdf_core.specs.QuadParts.{QuadParts}
use Rattle.algebra_model.specs.Bgp.{TriplePattern, PatternTerm, variable, label, constant}
use Rattle.algebra_model.specs.Call.{boolean_term}
use Rattle.algebra_model.specs.Expression as expression
use Rattle.algebra_model.specs.Algebra.{Algebra, Pattern, Join, LeftJoin, Minus, Graph, Project, Distinct, Table, each_graph}
use Rattle.algebra_model.specs.Eval.{eval}
use Rattle.algebra_model.specs.RowOrder.{sorted_rows}

-- five IRIs
abbrev a : Term
a = Iri (codes "http://e/a")

abbrev b : Term
b = Iri (codes "http://e/b")

abbrev c : Term
c = Iri (codes "http://e/c")

abbrev p : Term
p = Iri (codes "http://e/p")

abbrev q : Term
q = Iri (codes "http://e/q")

-- a literal of xsd:string
abbrev text : List ℕ → Term
text form = Literal form xsd_string None

-- a statement of the default graph
abbrev states : Term → Term → Term → QuadParts
states s p o = record { s = s; p = p; o = o; g = None }

-- a statement of the graph g
abbrev states_in : Term → Term → Term → Term → QuadParts
states_in g s p o = record { s = s; p = p; o = o; g = Some g }

-- a triple pattern
abbrev matches : PatternTerm Term → PatternTerm Term → PatternTerm Term → TriplePattern Term
matches s p o = record { s = s; p = p; o = o }

-- the rows of the listed variables in the result of the expression over the default graph
abbrev result_rows : ℕ → List QuadParts → List ℕ → Algebra → List (List (Option Term))
result_rows w D vs A = sorted_rows vs (eval w D None A)

-- a p b . a p c .
abbrev two_objects : List QuadParts
two_objects = states a p b ∷ states a p c ∷ []

-- ?s p _:x has its one solution twice, once for each term of _:x.
abbrev pub LabelsCount : Type 0
LabelsCount =
    result_rows 1 two_objects (0 ∷ [])
    (Project (0 ∷ []) (Pattern 1 (matches (variable 0) (constant p) (label 0) ∷ [])))
    ≡ (Some a ∷ []) ∷ (Some a ∷ []) ∷ []

-- The same with DISTINCT.
abbrev pub DistinctTakesOne : Type 0
DistinctTakesOne =
    result_rows 1 two_objects (0 ∷ [])
    (Distinct (Project (0 ∷ []) (Pattern 1 (matches (variable 0) (constant p) (label 0) ∷ []))))
    ≡ (Some a ∷ []) ∷ []

-- ?s p ?o MINUS { a p ?w }: no variable is shared, and nothing is removed.
abbrev pub MinusNeedsSharing : Type 0
MinusNeedsSharing =
    result_rows 3 two_objects (0 ∷ [])
    (Minus (Pattern 0 (matches (variable 0) (constant p) (variable 1) ∷ []))
    (Pattern 0 (matches (constant a) (constant p) (variable 2) ∷ [])))
    ≡ (Some a ∷ []) ∷ (Some a ∷ []) ∷ []

-- a p b . c p b . a q "1" . b q "1" . b q "2" .
abbrev with_a_gap : List QuadParts
with_a_gap =
    states a p b ∷ states c p b ∷ states a q (text (codes "1"))
    ∷ states b q (text (codes "1")) ∷ states b q (text (codes "2")) ∷ []

-- ?s p b OPTIONAL { ?s q ?y } { b q ?y }: an unbound ?y is compatible with every value.
abbrev pub UnboundMeetsAll : Type 0
UnboundMeetsAll =
    result_rows 2 with_a_gap (1 ∷ [])
    (Join
    (LeftJoin (Pattern 0 (matches (variable 0) (constant p) (constant b) ∷ []))
    (Pattern 0 (matches (variable 0) (constant q) (variable 1) ∷ []))
    (expression.constant (boolean_term true)))
    (Pattern 0 (matches (constant b) (constant q) (variable 1) ∷ [])))
    ≡ (Some (text (codes "1")) ∷ []) ∷ (Some (text (codes "1")) ∷ [])
    ∷ (Some (text (codes "2")) ∷ []) ∷ []

-- a p b . in the default graph, a p c . in the graphs q and _:g.
abbrev three_graphs : List QuadParts
three_graphs = states a p b ∷ states_in q a p c ∷ states_in (Blank (codes "g")) a p c ∷ []

-- GRAPH ?g { ?s ?p ?o }: the named graphs, also those named by blank nodes, and not the default
-- graph.
abbrev pub GraphsAreNamed : Type 0
GraphsAreNamed =
    result_rows 4 three_graphs (0 ∷ [])
    (Graph (each_graph 0) (Pattern 0 (matches (variable 1) (variable 2) (variable 3) ∷ [])))
    ≡ (Some (Blank (codes "g")) ∷ []) ∷ (Some q ∷ []) ∷ []

-- VALUES (?x ?y) { (a UNDEF) (b c) } joined with VALUES ?y { c }.
abbrev pub UndefIsUnbound : Type 0
UndefIsUnbound =
    result_rows 2 [] (0 ∷ 1 ∷ [])
    (Join (Table (0 ∷ 1 ∷ []) ((Some a ∷ None ∷ []) ∷ (Some b ∷ Some c ∷ []) ∷ []))
    (Table (1 ∷ []) ((Some c ∷ []) ∷ [])))
    ≡ (Some a ∷ Some c ∷ []) ∷ (Some b ∷ Some c ∷ []) ∷ []
