-- The quads that the solutions of an expression depend on (a choice of this project, from SPARQL 1.1 Query Language, sections
-- 18.3 and 18.6): those that some triple pattern can match in its graph, and all quads of a graph whose name alone matters. The
-- law `needed_quads_suffice` says that they suffice.
use Rattle.std.specs.Prelude.{Bool, true, false, ◌&&◌, ◌||◌, not, List, [], ◌∷◌, ◌++◌, Option, None, Some}
use Rattle.std.specs.List.{list_any}
use Rattle.rdf_core.specs.declared.term.Term.{Term}
use Rattle.rdf_core.specs.Equality.{term_eq}
use Rattle.rdf_core.specs.QuadParts.{QuadParts}
use Rattle.algebra_model.specs.Algebra.{Algebra, GraphName, Pattern, Join, LeftJoin, Union, Minus, Graph, Filter, Extend, Project, Distinct, Table, each_graph, one_graph}
use Rattle.algebra_model.specs.Bgp.{PatternTerm, TriplePattern, variable, label, constant}
use Rattle.needed_quads.specs.Restriction.{Restriction, allows, restrictions}

-- the position can have the term
abbrev pub may_be : List Restriction → PatternTerm Term → Term → Bool
may_be R (variable v) t = allows R v t
may_be R (label l) t = true
may_be R (constant c) t = term_eq c t

-- the triple pattern can match the quad
abbrev pub may_match : List Restriction → QuadParts → TriplePattern Term → Bool
may_match R q t = may_be R t.s q.s && (may_be R t.p q.p && may_be R t.o q.o)

-- the name after GRAPH can be that of the graph
abbrev pub may_name : List Restriction → GraphName → Option Term → Bool
may_name R i None = false
may_name R (each_graph v) (Some t) = allows R v t
may_name R (one_graph c) (Some t) = term_eq c t

-- no solution comes of an empty active graph
abbrev pub needs_triples : Algebra → Bool
needs_triples (Pattern labels []) = false
needs_triples (Pattern labels (t ∷ P)) = true
needs_triples (Join A B) = needs_triples A || needs_triples B
needs_triples (LeftJoin A B e) = needs_triples A
needs_triples (Union A B) = needs_triples A && needs_triples B
needs_triples (Minus A B) = needs_triples A
needs_triples (Graph i A) = false
needs_triples (Filter e A) = needs_triples A
needs_triples (Extend v e A) = needs_triples A
needs_triples (Project vs A) = needs_triples A
needs_triples (Distinct A) = needs_triples A
needs_triples (Table vs rows) = false

-- The quad is needed for the solutions that fit. `here` is whether it is in the active graph. A GRAPH within a GRAPH needs quads of
-- another graph, so a quad that the outer one does not name may be needed as well.
abbrev pub is_needed : QuadParts → Bool → List Restriction → Algebra → Bool
is_needed q here R (Pattern labels P) = here && list_any (may_match R q) P
is_needed q here R (Join A B) =
    is_needed q here (R ++ (restrictions A ++ restrictions B)) A || is_needed q here (R ++ (restrictions A ++ restrictions B)) B
is_needed q here R (LeftJoin A B e) = is_needed q here R A || is_needed q here (restrictions A) B
is_needed q here R (Union A B) = is_needed q here R A || is_needed q here R B
is_needed q here R (Minus A B) = is_needed q here R A || is_needed q here (restrictions A) B
is_needed q here R (Graph i A) =
    (may_name R i q.g && (is_needed q true R A || not (needs_triples A))) || is_needed q false R A
is_needed q here R (Filter e A) = is_needed q here R A
is_needed q here R (Extend v e A) = is_needed q here R A
is_needed q here R (Project vs A) = is_needed q here [] A
is_needed q here R (Distinct A) = is_needed q here [] A
is_needed q here R (Table vs rows) = false
