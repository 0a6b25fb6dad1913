-- The meaning of elements that hold groups, and of expressions that hold lists.
use Rattle.std.proofs.Common.{◌≡◌, sym, ◌∙◌, ap, Box, Vec, Global}
use Rattle.sparql_tree.specs.ExpressionTree as expression
use Rattle.sparql_tree.specs.ExpressionTree.{ExpressionTree, expression_of, expressions_of, expression_step}
use Rattle.sparql_tree.specs.GroupTree as element
use Rattle.sparql_tree.specs.GroupTree.{ElementTree, element_of, element_step, group_of}
use Rattle.sparql_tree.specs.declared.group.VarOrIri.{VarOrIri}
use Rattle.sparql_tree.specs.declared.group.Element.{Element}
use Rattle.sparql_tree.specs.declared.group.Element.TheFolds.{fold-roll-Element}
use Rattle.sparql_tree.specs.declared.group.Element.TheOpen.{Element-F}
use Rattle.sparql_tree.specs.declared.group.Element.TheVariants as variants
use Rattle.sparql_tree.specs.declared.group.Element.TheViews as views
use Rattle.sparql_tree.specs.declared.expression.Expression.{Expression}
use Rattle.sparql_tree.specs.declared.expression.Expression.TheFolds.{fold-roll-Expression}
use Rattle.sparql_tree.specs.declared.expression.Expression.TheOpen.{Expression-F}
use Rattle.sparql_tree.specs.declared.expression.Expression.TheVariants as expression_variants
use Rattle.sparql_tree.specs.declared.expression.Expression.TheViews as expression_views

pub group_stands_for : (es : Vec Element Global) → element_of (views.Group es) ≡ element.group (group_of es.items)
group_stands_for es = ap element_of (sym (variants.rolls-Group es)) ∙ fold-roll-Element ElementTree element_step (Element-F.Group es)

pub union_stands_for : (left : Box Element Global) (es : Vec Element Global) → element_of (views.Union left es) ≡ element.union (element_of left.value) (group_of es.items)
union_stands_for left es = ap element_of (sym (variants.rolls-Union left es)) ∙ fold-roll-Element ElementTree element_step (Element-F.Union left es)

pub optional_stands_for : (es : Vec Element Global) → element_of (views.Optional es) ≡ element.optional (group_of es.items)
optional_stands_for es = ap element_of (sym (variants.rolls-Optional es)) ∙ fold-roll-Element ElementTree element_step (Element-F.Optional es)

pub minus_stands_for : (es : Vec Element Global) → element_of (views.Minus es) ≡ element.minus (group_of es.items)
minus_stands_for es = ap element_of (sym (variants.rolls-Minus es)) ∙ fold-roll-Element ElementTree element_step (Element-F.Minus es)

pub graph_stands_for : (name : VarOrIri) (es : Vec Element Global) → element_of (views.Graph name es) ≡ element.graph name (group_of es.items)
graph_stands_for name es = ap element_of (sym (variants.rolls-Graph name es)) ∙ fold-roll-Element ElementTree element_step (Element-F.Graph name es)

pub member_stands_for : (item : Box Expression Global) (es : Vec Expression Global) → expression_of (expression_views.In item es) ≡ expression.member (expression_of item.value) (expressions_of es.items)
member_stands_for item es = ap expression_of (sym (expression_variants.rolls-In item es)) ∙ fold-roll-Expression ExpressionTree expression_step (Expression-F.In item es)
