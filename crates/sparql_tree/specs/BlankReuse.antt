-- Blank node labels that occur in two basic graph patterns (SPARQL 1.1 Query Language, section
-- 5.1.1).
use Rattle.std.specs.Prelude.{ℕ, List, [], ◌∷◌, ◌++◌, Bool, true, false, ◌||◌, flat_map, cond}
use Rattle.std.specs.List.{list_any}
use Rattle.std.specs.Str.{bytes_eq}
use Rattle.sparql_tree.specs.declared.group.VarOrTerm.{VarOrTerm}
use Rattle.sparql_tree.specs.declared.group.VarOrTerm.TheVariants as place
use Rattle.sparql_tree.specs.declared.group.Triple.{Triple}
use Rattle.sparql_tree.specs.GroupTree.{GroupTree, ElementTree, none, then, triples, group, union, optional, minus, graph, filter, bind, values}

-- a `[]` has a label that occurs only in its own triples
abbrev pub place_labels : VarOrTerm → List (List ℕ)
place_labels (place.Variable x) = []
place_labels (place.Blank l) = l ∷ []
place_labels (place.Term t) = []

-- the labels of a triple, in the order of the text
abbrev pub triple_labels : Triple → List (List ℕ)
triple_labels t = place_labels t.subject ++ (place_labels t.predicate ++ place_labels t.object)

-- a run of triples continues after a FILTER, and every other element ends it
abbrev pub open_after : List Triple → ElementTree → List Triple
open_after us (triples ts) = us ++ ts
open_after us (filter e) = us
open_after us (group g) = []
open_after us (union e g) = []
open_after us (optional g) = []
open_after us (minus g) = []
open_after us (graph i g) = []
open_after us (bind e x) = []
open_after us (values xs rows) = []

-- the run of triples at the end of a group, which the next element may continue
abbrev pub open_pattern : GroupTree → List Triple
open_pattern none = []
open_pattern (then g e) = open_after (open_pattern g) e

-- the element ends the run before it
abbrev pub ends_run : ElementTree → Bool
ends_run (triples ts) = false
ends_run (filter e) = false
ends_run (group g) = true
ends_run (union e g) = true
ends_run (optional g) = true
ends_run (minus g) = true
ends_run (graph i g) = true
ends_run (bind e x) = true
ends_run (values xs rows) = true

-- The basic graph patterns of a group without the run at its end, and those inside an element. A
-- pattern may be empty.
abbrev mutual
  pub closed_patterns : GroupTree → List (List Triple)
  closed_patterns none = []
  closed_patterns (then g e) =
      closed_patterns g ++ cond (ends_run e) (open_pattern g ∷ patterns_inside e) []

  pub patterns_inside : ElementTree → List (List Triple)
  patterns_inside (triples ts) = ts ∷ []
  patterns_inside (group g) = closed_patterns g ++ open_pattern g ∷ []
  patterns_inside (union e g) = patterns_inside e ++ (closed_patterns g ++ open_pattern g ∷ [])
  patterns_inside (optional g) = closed_patterns g ++ open_pattern g ∷ []
  patterns_inside (minus g) = closed_patterns g ++ open_pattern g ∷ []
  patterns_inside (graph i g) = closed_patterns g ++ open_pattern g ∷ []
  patterns_inside (filter e) = []
  patterns_inside (bind e x) = []
  patterns_inside (values xs rows) = []

-- all basic graph patterns of a group, with those of the groups inside it
abbrev pub basic_patterns : GroupTree → List (List Triple)
basic_patterns g = closed_patterns g ++ open_pattern g ∷ []

-- the labels of a basic graph pattern
abbrev pub labels_of : List Triple → List (List ℕ)
labels_of ts = flat_map triple_labels ts

-- a label of one of the patterns occurs in an earlier one, or is in `before`
abbrev pub shares_labels : List (List ℕ) → List (List Triple) → Bool
shares_labels before [] = false
shares_labels before (p ∷ ps) =
    list_any (λ l. list_any (bytes_eq l) before) (labels_of p) || shares_labels (before ++ labels_of p) ps

-- a label occurs in two basic graph patterns
abbrev pub reuses_blank : GroupTree → Bool
reuses_blank g = shares_labels [] (basic_patterns g)
