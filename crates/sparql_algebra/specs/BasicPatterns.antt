-- The basic graph patterns of a query, by two definitions. One is the runs of triples that the rule
-- on blank node labels checks (SPARQL 1.1 Query Language, section 5.1.1). The other is the basic
-- graph patterns of the query's plan (section 18.2.2.5).
use Rattle.std.specs.Prelude.{◌≡◌, ℕ, List, [], ◌∷◌, ◌++◌}
use Rattle.std.specs.Str.{bytes_eq}
use Rattle.rdf_core.specs.declared.term.Term.{Term}
use Rattle.sparql_tree.specs.declared.group.Triple.{Triple}
use Rattle.sparql_tree.specs.QueryTree.{QueryTree}
use Rattle.algebra_model.specs.Algebra.{Algebra, Pattern, Join, LeftJoin, Union, Minus, Graph, Filter, Extend, Project, Distinct, Table}
use Rattle.algebra_model.specs.Bag.{without_repeats}
use Rattle.algebra_model.specs.Bgp.{TriplePattern}
use Rattle.sparql_tree.specs.BlankReuse as reuse
use Rattle.sparql_tree.specs.BlankReuse.{basic_patterns}
use Rattle.sparql_grammar.specs.Derives.{Derives}
use Rattle.sparql_algebra.specs.Names.{Name, names_of}
use Rattle.sparql_algebra.specs.Translation as translation
use Rattle.sparql_algebra.specs.Translation.{translate, translate_pattern}

-- a list of the pattern alone, or the empty list if the pattern has no triples
abbrev pub unless_empty : ℕ → List (TriplePattern Term) → List Algebra
unless_empty labels [] = []
unless_empty labels (t ∷ ts) = Pattern labels (t ∷ ts) ∷ []

-- the basic graph patterns of an algebra expression that have triples, from left to right
abbrev pub patterns_of : Algebra → List Algebra
patterns_of (Pattern labels ts) = unless_empty labels ts
patterns_of (Join A B) = patterns_of A ++ patterns_of B
patterns_of (LeftJoin A B e) = patterns_of A ++ patterns_of B
patterns_of (Union A B) = patterns_of A ++ patterns_of B
patterns_of (Minus A B) = patterns_of A ++ patterns_of B
patterns_of (Graph i A) = patterns_of A
patterns_of (Filter e A) = patterns_of A
patterns_of (Extend v e A) = patterns_of A
patterns_of (Project vs A) = patterns_of A
patterns_of (Distinct A) = patterns_of A
patterns_of (Table vs rows) = []

-- the translation of each run that has triples
abbrev pub translated : List Name → List (List Triple) → List Algebra
translated names [] = []
translated names ([] ∷ runs) = translated names runs
translated names ((t ∷ ts) ∷ runs) = translate_pattern names (t ∷ ts) ∷ translated names runs

-- The facts that relate the two definitions.
pub record OneSetOfPatterns : Type 0 where
  -- the basic graph patterns of the plan of a text's query are its translated runs, in order
  pub patterns : (text : List ℕ) (q : QueryTree) → Derives text q
      → patterns_of (translate q).algebra ≡ translated (names_of q) (basic_patterns q.group)
  -- the blank node labels of a basic graph pattern are those of its run, each once
  pub labels : (run : List Triple) → translation.labels_of run ≡ without_repeats bytes_eq (reuse.labels_of run)
