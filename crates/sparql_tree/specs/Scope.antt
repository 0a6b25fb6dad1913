-- The variables of a group, and those of them that are in scope (SPARQL 1.1 Query Language, section
-- 18.2.1, variable scope). A name is a list of bytes, without `?` or `$`.
use Rattle.std.specs.Prelude.{ℕ, Bool, false, List, [], ◌∷◌, ◌++◌, flat_map, cond}
use Rattle.sparql_tree.specs.declared.group.VarOrIri.{VarOrIri}
use Rattle.sparql_tree.specs.declared.group.VarOrIri.TheVariants as graph
use Rattle.sparql_tree.specs.declared.group.VarOrTerm.{VarOrTerm}
use Rattle.sparql_tree.specs.declared.group.VarOrTerm.TheVariants as place
use Rattle.sparql_tree.specs.declared.group.Triple.{Triple}
use Rattle.sparql_tree.specs.GroupTree.{GroupTree, ElementTree, none, then, triples, group, union, optional, minus, graph, filter, bind, values}

-- the name of a variable
abbrev pub Name : Type 0
Name = List ℕ

-- the variable of one position of a triple, if it has one
abbrev pub place_names : VarOrTerm → List Name
place_names (place.Variable x) = x ∷ []
place_names (place.Blank l) = []
place_names (place.Term t) = []

-- the variables of a triple, in the order of the text
abbrev pub triple_names : Triple → List Name
triple_names t = place_names t.subject ++ (place_names t.predicate ++ place_names t.object)

-- the variable of [58] GraphGraphPattern, if it has one
abbrev pub graph_names : VarOrIri → List Name
graph_names (graph.Variable x) = x ∷ []
graph_names (graph.Iri t) = []

-- The variables that a group binds: those of basic graph patterns, of GRAPH, of both sides of UNION
-- and OPTIONAL, of VALUES and of BIND. Variables that occur only in FILTER are not among them. If
-- `all` is true, the variables of MINUS's right side are among them.
module _ (all : Bool) where
  abbrev mutual
    pub element_names : ElementTree → List Name
    element_names (triples ts) = flat_map triple_names ts
    element_names (group g) = group_names g
    element_names (union e g) = element_names e ++ group_names g
    element_names (optional g) = group_names g
    element_names (minus g) = cond all (group_names g) []
    element_names (graph i g) = graph_names i ++ group_names g
    element_names (filter e) = []
    element_names (bind e x) = x ∷ []
    element_names (values xs rows) = xs

    pub group_names : GroupTree → List Name
    group_names none = []
    group_names (then g e) = group_names g ++ element_names e

-- the variables in scope are those that a group binds outside MINUS's right sides
abbrev pub group_scope : GroupTree → List Name
group_scope = group_names false
