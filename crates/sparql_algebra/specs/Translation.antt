-- The plan of a query (SPARQL 1.1 Query Language, section 18.2): the translation of expressions,
-- basic graph patterns, groups and queries.
use Rattle.std.specs.Prelude.{ℕ, Bool, true, false, List, [], ◌∷◌, ◌++◌, length, Option, Some, None, map, flat_map}
use Rattle.std.specs.Str.{bytes_eq}
use Rattle.rdf_core.specs.declared.term.Term.{Term}
use Rattle.rdf_core.specs.declared.term.Term.TheVariants.{Iri}
use Rattle.sparql_tree.specs.declared.group.VarOrIri.{VarOrIri}
use Rattle.sparql_tree.specs.declared.group.VarOrIri.TheVariants as graph
use Rattle.sparql_tree.specs.declared.group.VarOrTerm.{VarOrTerm}
use Rattle.sparql_tree.specs.declared.group.VarOrTerm.TheVariants as place
use Rattle.sparql_tree.specs.declared.group.Triple.{Triple}
use Rattle.sparql_tree.specs.ExpressionTree as tree
use Rattle.sparql_tree.specs.ExpressionTree.{ExpressionTree, Expressions}
use Rattle.sparql_tree.specs.GroupTree as element
use Rattle.sparql_tree.specs.GroupTree.{GroupTree, ElementTree}
use Rattle.sparql_tree.specs.QueryTree.{QueryTree}
use Rattle.algebra_model.specs.Algebra as algebra
use Rattle.algebra_model.specs.Algebra.{Algebra, each_graph, one_graph}
use Rattle.algebra_model.specs.Bag.{without_repeats}
use Rattle.algebra_model.specs.Bgp as bgp
use Rattle.algebra_model.specs.Call.{boolean_term}
use Rattle.algebra_model.specs.Expression.{Expression, variable, constant, either, both, negation, comparison, member, call, bound, same_term}
use Rattle.expression_values.specs.ExpressionOf.{comparison_of, function_of}
use Rattle.sparql_algebra.specs.Names.{Name, number_of, names_of, selected_names}

-- The first elements of a group: the algebra expression before the open basic graph pattern, the
-- triples of that pattern, and the filters, combined with `&&`.
pub record Part : Type 0 where
  pub before : Algebra
  pub triples : List Triple
  pub filters : Option Expression

abbrev pub empty_pattern : Algebra
empty_pattern = algebra.Pattern 0 []

abbrev pub joined_filters : Option Expression → Expression → Option Expression
joined_filters None e = Some e
joined_filters (Some d) e = Some (both d e)

-- a LeftJoin without filters has the condition `true`
abbrev pub condition_of : Option Expression → Expression
condition_of None = constant (boolean_term true)
condition_of (Some e) = e

abbrev pub filtered : Option Expression → Algebra → Algebra
filtered None A = A
filtered (Some e) A = algebra.Filter e A

-- the part whose basic graph pattern has ended, with A as its expression
abbrev pub closed_as : Part → Algebra → Part
closed_as p A = record { before = A; triples = []; filters = p.filters }

-- The blank node labels of a basic graph pattern are numbered in the order of their first
-- occurrence.
abbrev pub blank_names : VarOrTerm → List Name
blank_names (place.Variable x) = []
blank_names (place.Blank l) = l ∷ []
blank_names (place.Term t) = []

abbrev pub triple_blanks : Triple → List Name
triple_blanks t = blank_names t.subject ++ (blank_names t.predicate ++ blank_names t.object)

abbrev pub labels_of : List Triple → List Name
labels_of ts = without_repeats bytes_eq (flat_map triple_blanks ts)

-- names are the names of the variables of the plan
module _ (names : List Name) where
  abbrev mutual
    pub translate_expression : ExpressionTree → Expression
    translate_expression (tree.either a b) = either (translate_expression a) (translate_expression b)
    translate_expression (tree.both a b) = both (translate_expression a) (translate_expression b)
    translate_expression (tree.negation a) = negation (translate_expression a)
    translate_expression (tree.comparison op a b) =
        comparison (comparison_of op) (translate_expression a) (translate_expression b)
    translate_expression (tree.member a es) = member (translate_expression a) (translate_members es)
    translate_expression (tree.call f a) = call (function_of f) (translate_expression a)
    translate_expression (tree.bound x) = bound (number_of names x)
    translate_expression (tree.same_term a b) =
        same_term (translate_expression a) (translate_expression b)
    translate_expression (tree.variable x) = variable (number_of names x)
    translate_expression (tree.constant t) = constant t

    pub translate_members : Expressions → List Expression
    translate_members tree.none = []
    translate_members (tree.then es e) = translate_members es ++ translate_expression e ∷ []

  abbrev pub translate_place : List Name → VarOrTerm → bgp.PatternTerm Term
  translate_place labels (place.Variable x) = bgp.variable (number_of names x)
  translate_place labels (place.Blank l) = bgp.label (number_of labels l)
  translate_place labels (place.Term t) = bgp.constant t

  abbrev pub translate_triple : List Name → Triple → bgp.TriplePattern Term
  translate_triple labels t = record {
    s = translate_place labels t.subject;
    p = translate_place labels t.predicate;
    o = translate_place labels t.object;
  }

  abbrev pub translate_pattern : List Triple → Algebra
  translate_pattern ts = algebra.Pattern (length (labels_of ts)) (map (translate_triple (labels_of ts)) ts)

  abbrev pub translate_graph_name : VarOrIri → algebra.GraphName
  translate_graph_name (graph.Variable x) = each_graph (number_of names x)
  translate_graph_name (graph.Iri t) = one_graph (Iri t)

  abbrev pub with_pattern : Algebra → List Triple → Algebra
  with_pattern A [] = A
  with_pattern A (t ∷ ts) = algebra.Join A (translate_pattern (t ∷ ts))

  -- the open basic graph pattern ends, and is joined
  abbrev pub closed : Part → Algebra
  closed p = with_pattern p.before p.triples

  -- the filters of the group are applied at its end
  abbrev pub finished : Part → Algebra
  finished p = filtered p.filters (closed p)

  abbrev mutual
    -- A group ([53] `GroupGraphPattern`) begins with the empty pattern, and its elements are added
    -- in order.
    pub group_part : GroupTree → Part
    group_part element.none = record { before = empty_pattern; triples = []; filters = None }
    group_part (element.then g e) = add_element (group_part g) e

    -- Triples ([55] `TriplesBlock`) are added to the open basic graph pattern, and a FILTER ([68]
    -- `Filter`) does not end it. Every other element ([56] `GraphPatternNotTriples`) does. The
    -- filters directly in the group of an OPTIONAL are its condition.
    pub add_element : Part → ElementTree → Part
    add_element p (element.triples ts) =
        record { before = p.before; triples = p.triples ++ ts; filters = p.filters }
    add_element p (element.filter e) = record {
      before = p.before;
      triples = p.triples;
      filters = joined_filters p.filters (translate_expression e);
    }
    add_element p (element.optional g) =
        closed_as p (algebra.LeftJoin (closed p) (closed (group_part g)) (condition_of (group_part g).filters))
    add_element p (element.minus g) = closed_as p (algebra.Minus (closed p) (finished (group_part g)))
    add_element p (element.bind e x) =
        closed_as p (algebra.Extend (number_of names x) (translate_expression e) (closed p))
    add_element p (element.group g) = closed_as p (algebra.Join (closed p) (finished (group_part g)))
    add_element p (element.union e g) =
        closed_as p (algebra.Join (closed p) (algebra.Union (translate_side e) (finished (group_part g))))
    add_element p (element.graph i g) =
        closed_as p (algebra.Join (closed p) (algebra.Graph (translate_graph_name i) (finished (group_part g))))
    add_element p (element.values xs rows) =
        closed_as p (algebra.Join (closed p) (algebra.Table (map (number_of names) xs) rows))

    -- The left side of a UNION ([67] `GroupOrUnionGraphPattern`) is a group, or a UNION with two or
    -- more groups. Every other element, which no parser makes there, is translated as the empty
    -- pattern.
    pub translate_side : ElementTree → Algebra
    translate_side (element.group g) = finished (group_part g)
    translate_side (element.union e g) = algebra.Union (translate_side e) (finished (group_part g))
    translate_side _ = empty_pattern

  abbrev pub translate_group : GroupTree → Algebra
  translate_group g = finished (group_part g)

-- The plan of a query: the names of its variables by their numbers, and the algebra expression.
pub record Translation : Type 0 where
  pub names : List Name
  pub algebra : Algebra

abbrev pub distinct_where : Bool → Algebra → Algebra
distinct_where true A = algebra.Distinct A
distinct_where false A = A

abbrev pub projection : QueryTree → List ℕ
projection q = map (number_of (names_of q)) (selected_names q)

abbrev pub translate : QueryTree → Translation
translate q = record {
  names = names_of q;
  algebra = distinct_where q.distinct
      (algebra.Project (projection q) (translate_group (names_of q) q.group));
}
