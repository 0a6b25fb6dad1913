-- In the algebra expression of a query, each constant of an Extend and each cell of a table has the right datatype if it has a
-- language tag.
use Rattle.std.proofs.Common.{Bool, true, false, List, [], ◌∷◌, Option, None, Some}
use Rattle.std.specs.Prelude.{⊤}
use Rattle.algebra_model.specs.Algebra.{Algebra, Pattern, Join, LeftJoin, Union, Minus, Graph, Filter, Extend, Project, Distinct, Table}
use Rattle.algebra_model.specs.Expression as expression
use Rattle.algebra_model.specs.Expression.{Expression}
use Rattle.algebra_model.specs.Renaming.{Each}
use Rattle.sparql_tree.specs.declared.group.Triple.{Triple}
use Rattle.sparql_tree.specs.ExpressionTree as tree
use Rattle.sparql_tree.specs.ExpressionTree.{ExpressionTree}
use Rattle.sparql_tree.specs.GroupTree.{GroupTree, ElementTree, none, then, triples, group, union, optional, minus, graph, filter, bind, values}
use Rattle.sparql_tree.specs.QueryTree.{QueryTree}
use Rattle.sparql_algebra.specs.Names.{Name, names_of}
use Rattle.sparql_algebra.specs.Translation.{Part, add_element, closed, distinct_where, filtered, finished, group_part, projection, translate, translate_expression, translate_group, translate_members, translate_side, with_pattern}
use Rattle.result_merge.specs.Tags.{HasTagType}
use Rattle.query_parts.proofs.QueryTags.{HasTaggedConstant, HasTags, HasTagsInside, IsTagged}

-- if the expression is a constant, it has the right datatype
abbrev pub HasTaggedTerm : Expression → Type 0
HasTaggedTerm (expression.constant t) = IsTagged t
HasTaggedTerm _ = ⊤

-- the property for each Extend and each table of an algebra expression
abbrev pub GivesTags : Algebra → Type 0
GivesTags (Pattern labels P) = ⊤
GivesTags (Join A B) = GivesTags A × GivesTags B
GivesTags (LeftJoin A B e) = GivesTags A × GivesTags B
GivesTags (Union A B) = GivesTags A × GivesTags B
GivesTags (Minus A B) = GivesTags A × GivesTags B
GivesTags (Graph i A) = GivesTags A
GivesTags (Filter e A) = GivesTags A
GivesTags (Extend v e A) = HasTaggedTerm e × GivesTags A
GivesTags (Project vs A) = GivesTags A
GivesTags (Distinct A) = GivesTags A
GivesTags (Table vs rows) = Each (Each HasTagType) rows

member_gives : (x : Expression) (es : List Expression) → HasTaggedTerm (expression.member x es)
member_gives x [] = tt
member_gives x (e ∷ es) = tt

module _ (names : List Name) where
  expression_gives : (e : ExpressionTree) → HasTaggedConstant e → HasTaggedTerm (translate_expression names e)
  expression_gives (tree.either a b) h = tt
  expression_gives (tree.both a b) h = tt
  expression_gives (tree.negation a) h = tt
  expression_gives (tree.comparison op a b) h = tt
  expression_gives (tree.member a es) h = member_gives (translate_expression names a) (translate_members names es)
  expression_gives (tree.call f a) h = tt
  expression_gives (tree.bound x) h = tt
  expression_gives (tree.same_term a b) h = tt
  expression_gives (tree.variable x) h = tt
  expression_gives (tree.constant t) h = h

  pattern_gives : (A : Algebra) (ts : List Triple) → GivesTags A → GivesTags (with_pattern names A ts)
  pattern_gives A [] h = h
  pattern_gives A (t ∷ ts) h = (h, tt)

  -- the part of a group that is read gives right datatypes
  abbrev Gives : Part → Type 0
  Gives p = GivesTags p.before

  closed_gives : (p : Part) → Gives p → GivesTags (closed names p)
  closed_gives p h = pattern_gives p.before p.triples h

  filtered_gives : (f : Option Expression) (A : Algebra) → GivesTags A → GivesTags (filtered f A)
  filtered_gives None A h = h
  filtered_gives (Some e) A h = h

  finished_gives : (p : Part) → Gives p → GivesTags (finished names p)
  finished_gives p h = filtered_gives p.filters (closed names p) (closed_gives p h)

  mutual
    part_gives : (g : GroupTree) → HasTags g → Gives (group_part names g)
    part_gives none h = tt
    part_gives (then g e) h = added_gives (group_part names g) e (part_gives g h.0) h.1

    added_gives : (p : Part) (e : ElementTree) → Gives p → HasTagsInside e → Gives (add_element names p e)
    added_gives p (triples ts) h k = h
    added_gives p (filter e) h k = h
    added_gives p (optional g) h k = (closed_gives p h, closed_gives (group_part names g) (part_gives g k))
    added_gives p (minus g) h k = (closed_gives p h, finished_gives (group_part names g) (part_gives g k))
    added_gives p (bind e x) h k = (expression_gives e k, closed_gives p h)
    added_gives p (group g) h k = (closed_gives p h, finished_gives (group_part names g) (part_gives g k))
    added_gives p (union e g) h k = (closed_gives p h, (side_gives e k.0, finished_gives (group_part names g) (part_gives g k.1)))
    added_gives p (graph i g) h k = (closed_gives p h, finished_gives (group_part names g) (part_gives g k))
    added_gives p (values xs rows) h k = (closed_gives p h, k)

    side_gives : (e : ElementTree) → HasTagsInside e → GivesTags (translate_side names e)
    side_gives (triples ts) h = tt
    side_gives (group g) h = finished_gives (group_part names g) (part_gives g h)
    side_gives (union e g) h = (side_gives e h.0, finished_gives (group_part names g) (part_gives g h.1))
    side_gives (optional g) h = tt
    side_gives (minus g) h = tt
    side_gives (graph i g) h = tt
    side_gives (filter e) h = tt
    side_gives (bind e x) h = tt
    side_gives (values xs rows) h = tt

distinct_gives : (b : Bool) (A : Algebra) → GivesTags A → GivesTags (distinct_where b A)
distinct_gives true A h = h
distinct_gives false A h = h

-- the algebra expression of a query gives right datatypes
pub translated_gives : (q : QueryTree) → HasTags q.group → GivesTags (translate q).algebra
translated_gives q h =
    distinct_gives q.distinct (Project (projection q) (translate_group (names_of q) q.group))
    (finished_gives (names_of q) (group_part (names_of q) q.group) (part_gives (names_of q) q.group h))
