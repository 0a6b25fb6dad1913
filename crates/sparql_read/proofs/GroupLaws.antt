-- A group as the list of its elements.
use Rattle.std.proofs.Common.{◌≡◌, ◌+◌, ◌<◌, ◌≤◌, ℕ, List, [], ◌∷◌, ◌++◌, length, take, drop, map, get_or, refl, sym, ap, ◌∙◌, arith}
use Rattle.std.proofs.lemmas.List.{map-append, take_more, take-append-drop}
use Rattle.std.proofs.Common.{Box, Vec, Global}
use Rattle.sparql_tree.specs.declared.group.Element.{Element, size-Element}
use Rattle.sparql_tree.specs.declared.group.Element.TheFolds.{fold-roll-Element}
use Rattle.sparql_tree.specs.declared.group.Element.TheOpen.{Element-F}
use Rattle.sparql_tree.specs.declared.group.Element.TheVariants as variants
use Rattle.sparql_tree.specs.declared.group.Element.TheViews as views
use Rattle.sparql_tree.specs.declared.group.VarOrIri.{VarOrIri}
use Rattle.sparql_tree.specs.GroupTree.{GroupTree, ElementTree, none, then, onto, union, graph, element_of, element_step, group_of}

pub onto_append : (g : GroupTree) (xs ys : List ElementTree) → onto g (xs ++ ys) ≡ onto (onto g xs) ys
onto_append g [] ys = refl
onto_append g (x ∷ xs) ys = onto_append (then g x) xs ys

pub group_append : (xs ys : List Element) → group_of (xs ++ ys) ≡ onto (group_of xs) (map element_of ys)
group_append xs ys = ap (onto none) (map-append element_of xs ys) ∙ onto_append none (map element_of xs) (map element_of ys)

-- one more element
pub group_more : (es : List Element) (i : ℕ) (e : Element) → i < length es → e ≡ get_or es i e
    → group_of (take (i + 1) es) ≡ then (group_of (take i es)) (element_of e)
group_more es i e below is = ap group_of (take_more es i e below ∙ ap (λ x. take i es ++ x ∷ []) (sym is)) ∙ group_append (take i es) (e ∷ [])

-- the elements after the first i
pub group_rest : (es : List Element) (i : ℕ) → group_of es ≡ onto (group_of (take i es)) (map element_of (drop i es))
group_rest es i = ap group_of (sym (take-append-drop i es)) ∙ group_append (take i es) (drop i es)

-- the elements of the model for some elements of the code
pub union_denotes : (left : Box Element Global) (es : Vec Element Global) → element_of (views.Union left es) ≡ union (element_of left.value) (group_of es.items)
union_denotes left es = ap element_of (sym (variants.rolls-Union left es)) ∙ fold-roll-Element ElementTree element_step (Element-F.Union left es)

pub graph_denotes : (name : VarOrIri) (es : Vec Element Global) → element_of (views.Graph name es) ≡ graph name (group_of es.items)
graph_denotes name es = ap element_of (sym (variants.rolls-Graph name es)) ∙ fold-roll-Element ElementTree element_step (Element-F.Graph name es)

-- the left side is no larger than the whole
pub union_deeper : (left : Box Element Global) (es : Vec Element Global) → size-Element left.value ≤ size-Element (views.Union left es)
union_deeper left es = rw (views.sized-Union left es) (omega arith)
