-- The tree of a group of patterns, without its representation in memory (SPARQL 1.1 Query Language,
-- section 19.8, [53] `GroupGraphPattern`).
use Rattle.std.specs.Prelude.{ℕ, List, [], ◌∷◌, map, Option}
use Rattle.rdf_core.specs.declared.term.Term.{Term}
use Rattle.sparql_tree.specs.declared.group.Triple.{Triple}
use Rattle.sparql_tree.specs.declared.group.VarOrIri.{VarOrIri}
use Rattle.sparql_tree.specs.declared.group.Element.{Element}
use Rattle.sparql_tree.specs.declared.group.Element.TheFolds.{fold-Element}
use Rattle.sparql_tree.specs.declared.group.Element.TheOpen.{Element-F}
use Rattle.sparql_tree.specs.ExpressionTree.{ExpressionTree, expression_of}

mutual
  pub data ElementTree : Type 0 where
    triples : List Triple → ElementTree
    group : GroupTree → ElementTree
    -- the left side is a group or a union
    union : ElementTree → GroupTree → ElementTree
    optional : GroupTree → ElementTree
    minus : GroupTree → ElementTree
    graph : VarOrIri → GroupTree → ElementTree
    filter : ExpressionTree → ElementTree
    -- to a variable, by its name
    bind : ExpressionTree → List ℕ → ElementTree
    -- names of variables, and rows of cells, where None is UNDEF
    values : List (List ℕ) → List (List (Option Term)) → ElementTree

  -- the elements of a group, in the order of the text: the last one is outermost
  pub data GroupTree : Type 0 where
    none : GroupTree
    then : GroupTree → ElementTree → GroupTree

-- a list of elements appended to others
abbrev pub onto : GroupTree → List ElementTree → GroupTree
onto es [] = es
onto es (x ∷ xs) = onto (then es x) xs

-- one node whose inner elements are translated already
abbrev pub element_step : Element-F ElementTree → ElementTree
element_step (Element-F.Triples ts) = triples ts.items
element_step (Element-F.Group es) = group (onto none es.items)
element_step (Element-F.Union a es) = union a.value (onto none es.items)
element_step (Element-F.Optional es) = optional (onto none es.items)
element_step (Element-F.Minus es) = minus (onto none es.items)
element_step (Element-F.Graph name es) = graph name (onto none es.items)
element_step (Element-F.Filter e) = filter (expression_of e)
element_step (Element-F.Bind e x) = bind (expression_of e) x
element_step (Element-F.Values xs rows) = values xs.items (map (λ row. row.items) rows.items)

-- the tree of an element in the code, and of a list of elements
abbrev pub element_of : Element → ElementTree
element_of = fold-Element ElementTree element_step

-- the same for a list of elements
abbrev pub group_of : List Element → GroupTree
group_of es = onto none (map element_of es)
