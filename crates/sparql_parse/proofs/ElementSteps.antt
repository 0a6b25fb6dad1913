-- The element of the model for each element of the code.
use Rattle.std.proofs.Common.{◌≡◌, map, sym, ◌∙◌, ap, Box, Vec, Global, Option}
use Rattle.rdf_core.specs.declared.term.Term.{Term}
use Rattle.rdf_core.specs.declared.text.Text.{Text}
use Rattle.sparql_tree.specs.ExpressionTree.{expression_of}
use Rattle.sparql_tree.specs.GroupTree.{ElementTree, element_of, element_step, group_of}
use Rattle.sparql_tree.specs.GroupTree as g
use Rattle.sparql_tree.specs.declared.expression.Expression.{Expression}
use Rattle.sparql_tree.specs.declared.group.Element.{Element}
use Rattle.sparql_tree.specs.declared.group.Element.TheFolds.{fold-roll-Element}
use Rattle.sparql_tree.specs.declared.group.Element.TheOpen.{Element-F}
use Rattle.sparql_tree.specs.declared.group.Element.TheVariants as variants
use Rattle.sparql_tree.specs.declared.group.Element.TheViews as views
use Rattle.sparql_tree.specs.declared.group.VarOrIri.{VarOrIri}
use Rattle.sparql_tree.specs.declared.group.Triple.{Triple}

pub triples_seen : (ts : Vec Triple Global) → element_of (variants.Triples ts) ≡ g.triples ts.items
triples_seen ts = ap element_of (sym (variants.rolls-Triples ts)) ∙ fold-roll-Element ElementTree element_step (Element-F.Triples ts)

pub group_seen : (es : Vec Element Global) → element_of (views.Group es) ≡ g.group (group_of es.items)
group_seen es = ap element_of (sym (variants.rolls-Group es)) ∙ fold-roll-Element ElementTree element_step (Element-F.Group es)

pub union_seen : (e : Box Element Global) (es : Vec Element Global) → element_of (views.Union e es) ≡ g.union (element_of e.value) (group_of es.items)
union_seen e es = ap element_of (sym (variants.rolls-Union e es)) ∙ fold-roll-Element ElementTree element_step (Element-F.Union e es)

pub optional_seen : (es : Vec Element Global) → element_of (views.Optional es) ≡ g.optional (group_of es.items)
optional_seen es = ap element_of (sym (variants.rolls-Optional es)) ∙ fold-roll-Element ElementTree element_step (Element-F.Optional es)

pub minus_seen : (es : Vec Element Global) → element_of (views.Minus es) ≡ g.minus (group_of es.items)
minus_seen es = ap element_of (sym (variants.rolls-Minus es)) ∙ fold-roll-Element ElementTree element_step (Element-F.Minus es)

pub graph_seen : (n : VarOrIri) (es : Vec Element Global) → element_of (views.Graph n es) ≡ g.graph n (group_of es.items)
graph_seen n es = ap element_of (sym (variants.rolls-Graph n es)) ∙ fold-roll-Element ElementTree element_step (Element-F.Graph n es)

pub filter_seen : (e : Expression) → element_of (variants.Filter e) ≡ g.filter (expression_of e)
filter_seen e = ap element_of (sym (variants.rolls-Filter e)) ∙ fold-roll-Element ElementTree element_step (Element-F.Filter e)

pub bind_seen : (e : Expression) (x : Text) → element_of (variants.Bind e x) ≡ g.bind (expression_of e) x
bind_seen e x = ap element_of (sym (variants.rolls-Bind e x)) ∙ fold-roll-Element ElementTree element_step (Element-F.Bind e x)

pub values_seen : (xs : Vec Text Global) (rows : Vec (Vec (Option Term) Global) Global) → element_of (variants.Values xs rows) ≡ g.values xs.items (map (λ row. row.items) rows.items)
values_seen xs rows = ap element_of (sym (variants.rolls-Values xs rows)) ∙ fold-roll-Element ElementTree element_step (Element-F.Values xs rows)
