-- In a query that the grammar derives, each constant of a BIND and each cell of VALUES has the right datatype if it has a
-- language tag.
use Rattle.std.proofs.Common.{◌≡◌, ℕ, List, [], ◌∷◌, length, Option, None, Some, refl, subst, rules}
use Rattle.std.specs.Prelude.{⊤}
use lib.Utf8.{encodes}
use Rattle.rdf_core.specs.declared.term.Term.{Term}
use Rattle.rdf_core.specs.declared.term.Term.TheVariants.{Literal}
use Rattle.algebra_model.specs.Renaming.{Each}
use Rattle.algebra_model.proofs.RangeLaws.{Each-append}
use Rattle.sparql_lexer.specs.declared.token.Kind.{Kind}
use Rattle.sparql_lexer.specs.declared.token.Kind.TheVariants as kind
use Rattle.sparql_lexer.specs.declared.token.Keyword.TheVariants as word
use Rattle.sparql_lexer.specs.Terminal.{Terminal}
use Rattle.sparql_tree.specs.ExpressionTree.{ExpressionTree, constant}
use Rattle.sparql_tree.specs.GroupTree.{GroupTree, ElementTree, none, then, triples, group, union, optional, minus, graph, filter, bind, values}
use Rattle.sparql_tree.specs.QueryTree.{QueryTree}
use Rattle.sparql_grammar.specs.Class.{Class, Picked, Picks, boolean_of}
use Rattle.sparql_grammar.specs.Class as class
use Rattle.sparql_grammar.specs.Form.{Form, give, count_following, take, part, last, choice, when}
use Rattle.sparql_grammar.specs.Derivation.{Derivation, gives, counts, takes, parts, lasts, firsts, seconds, whens}
use Rattle.sparql_grammar.specs.Productions.{right_side}
use Rattle.sparql_grammar.specs.Symbol as the
use Rattle.sparql_grammar.specs.Symbol.{Symbol, Value}
use Rattle.sparql_grammar.specs.Values.{Names}
use Rattle.sparql_grammar.specs.Derives.{Derives}
use Rattle.result_merge.specs.Tags.{HasTagType}

-- the term has the right datatype if it has a language tag
abbrev pub IsTagged : Term → Type 0
IsTagged t = HasTagType (Some t)

-- If the expression is a constant, it has the right datatype. Any other expression has a value of another type, or that of a
-- variable.
abbrev pub HasTaggedConstant : ExpressionTree → Type 0
HasTaggedConstant (constant t) = IsTagged t
HasTaggedConstant _ = ⊤

-- the property for each BIND and VALUES of a group
abbrev mutual
  pub HasTags : GroupTree → Type 0
  HasTags none = ⊤
  HasTags (then g e) = HasTags g × HasTagsInside e

  pub HasTagsInside : ElementTree → Type 0
  HasTagsInside (triples ts) = ⊤
  HasTagsInside (group g) = HasTags g
  HasTagsInside (union e g) = HasTagsInside e × HasTags g
  HasTagsInside (optional g) = HasTags g
  HasTagsInside (minus g) = HasTags g
  HasTagsInside (graph i g) = HasTags g
  HasTagsInside (filter e) = ⊤
  HasTagsInside (bind e x) = HasTaggedConstant e
  HasTagsInside (values xs rows) = Each (Each HasTagType) rows

-- ---- terminals

-- the property for the value of a terminal
abbrev IsRightValue : (c : Class) → Picked c → Type 0
IsRightValue class.number t = IsTagged t
IsRightValue class.boolean t = IsTagged t
IsRightValue _ v = ⊤

no_value : (t : Term) → None ≡ Some t → IsTagged t
no_value t e = absurd (cc)

number_right : (form : List ℕ) (datatype : Option (List ℕ)) (t : Term) → elim datatype [ None ↦ None | Some d ↦ Some (Literal form d None) ] ≡ Some t → IsTagged t
number_right form None t e = no_value t e
number_right form (Some d) t e = subst HasTagType e tt

boolean_right : (k : Kind) (t : Term) → boolean_of k ≡ Some t → IsTagged t
boolean_right (kind.Keyword word.True) t e = subst HasTagType e tt
boolean_right (kind.Keyword word.False) t e = subst HasTagType e tt
boolean_right _ t e = no_value t e

picked_right : (names : Names) (c : Class) (k : Kind) (x : List ℕ) (v : Picked c) → Picks names c k x v → IsRightValue c v
picked_right names class.number k x v h = number_right (encodes x) (class.number_type k) v h
picked_right names class.boolean k x v h = boolean_right k v h
picked_right names _ k x v h = tt

-- ---- symbols

-- the property for the part of a list or chain that a symbol has
abbrev Carried : Symbol → Type 0
Carried (the.more_or e) = HasTaggedConstant e
Carried (the.more_and e) = HasTaggedConstant e
Carried (the.body es) = HasTags es
Carried (the.others es) = HasTags es
Carried (the.after_other es) = HasTags es
Carried (the.more_union e) = HasTagsInside e
Carried (the.more_column x rs) = Each (Each HasTagType) rs
Carried (the.more_rows xs rs) = Each (Each HasTagType) rs
Carried (the.more_cells cs) = Each HasTagType cs
Carried _ = ⊤

-- the property for the value of a symbol
abbrev Given : (s : Symbol) → Value s → Type 0
Given the.disjunction v = HasTaggedConstant v
Given (the.more_or e) v = HasTaggedConstant v
Given the.conjunction v = HasTaggedConstant v
Given (the.more_and e) v = HasTaggedConstant v
Given the.relation v = HasTaggedConstant v
Given the.unary v = HasTaggedConstant v
Given the.primary v = HasTaggedConstant v
Given the.bracket v = HasTaggedConstant v
Given the.call v = HasTaggedConstant v
Given the.bound v = HasTaggedConstant v
Given the.same_term v = HasTaggedConstant v
Given the.term v = IsTagged v
Given (the.literal x) v = IsTagged v
Given the.group v = HasTags v
Given (the.body es) v = HasTags v
Given (the.others es) v = HasTags v
Given (the.after_other es) v = HasTags v
Given the.other v = HasTagsInside v
Given the.simple v = HasTagsInside v
Given the.unions v = HasTagsInside v
Given (the.more_union e) v = HasTagsInside v
Given the.named_graph v = HasTagsInside v
Given the.binding v = HasTagsInside v
Given the.data_block v = HasTagsInside v
Given the.cell v = HasTagType v
Given (the.column x) v = HasTagsInside v
Given (the.more_column x rs) v = HasTagsInside v
Given (the.rows xs) v = HasTagsInside v
Given (the.more_rows xs rs) v = HasTagsInside v
Given the.row v = Each HasTagType v
Given (the.more_cells cs) v = Each HasTagType v
Given the.query v = HasTags v.group
Given the.declared v = HasTags v.group
Given the.select_query v = HasTags v.group
Given (the.select d) v = HasTags v.group
Given (the.selected d xs) v = HasTags v.group
Given (the.pattern d xs) v = HasTags v.group
Given (the.pattern_group d xs) v = HasTags v.group
Given _ v = ⊤

-- the property for every value of a form, provided that the parts of the form have it
abbrev Fine : {A : Type 0} → (A → Type 0) → Form A → Type 0
Fine P (give a) = P a
Fine P (count_following g) = (n : ℕ) → P (g n)
Fine P (take c f) = (v : Picked c) → IsRightValue c v → Fine P (f v)
Fine P (part u f) = Carried u × ((a : Value u) → Given u a → Fine P (f a))
Fine P (last u g) = Carried u × ((a : Value u) → Given u a → P (g a))
Fine P (choice l r) = Fine P l × Fine P r
Fine P (when b f) = Fine P f

sound : {names : Names} {s : Symbol} {form : Form (Value s)} {ts rest : List Terminal} {v : Value s}
    → Derivation names s form ts v rest → ((u : Symbol) → Carried u → Fine (Given u) (right_side u)) → Fine (Given s) form → Given s v
sound gives R h = h
sound (counts {ts = ts}) R h = h (length ts)
sound {names = names} (takes {c = c} {k = k} {x = x} p i d) R h = sound d R (h p (picked_right names c k x p i))
sound (parts {u = u} {a = a} d e) R h = sound e R (h.1 a (sound d R (R u h.0)))
sound (lasts {u = u} {a = a} d) R h = h.1 a (sound d R (R u h.0))
sound (firsts d) R h = sound d R h.0
sound (seconds d) R h = sound d R h.1
sound (whens e d) R h = sound d R h

right_side_fine : (u : Symbol) → Carried u → Fine (Given u) (right_side u)
right_side_fine the.disjunction c = (tt, λ a h. (h, λ e k. k))
right_side_fine (the.more_or a) c = ((λ p _. (tt, λ b _. (tt, λ e k. k))), c)
right_side_fine the.conjunction c = (tt, λ a h. (h, λ e k. k))
right_side_fine (the.more_and a) c = ((λ p _. (tt, λ b _. (tt, λ e k. k))), c)
right_side_fine the.relation c =
    (tt, λ a h. ((λ op _. (tt, λ b _. tt)), ((λ p _. (tt, λ es _. tt)), ((λ p _. λ q _. (tt, λ es _. tt)), h))))
right_side_fine the.unary c = ((λ p _. (tt, λ a _. tt)), (tt, λ a h. h))
right_side_fine the.primary c = ((tt, λ e h. h), ((tt, λ e h. h), ((λ v _. tt), (tt, λ t h. h))))
right_side_fine the.bracket c = λ p _. (tt, λ e h. λ q _. h)
right_side_fine the.call c = ((λ f _. (tt, λ e _. tt)), ((λ p _. (tt, λ e h. h)), (λ p _. (tt, λ e h. h))))
right_side_fine the.bound c = λ p _. λ v _. λ q _. tt
right_side_fine the.same_term c = λ p _. (tt, λ a _. λ q _. (tt, λ b _. λ r _. tt))
right_side_fine the.term c = ((λ i _. tt), ((λ t h. h), ((λ t h. h), (λ v _. (tt, λ t h. h)))))
right_side_fine (the.literal v) c = ((λ l _. refl), ((λ p _. λ i _. tt), tt))
right_side_fine the.group c = λ p _. (tt, λ es h. h)
right_side_fine (the.body es) c = ((tt, λ ts _. ((c, tt), λ fs h. h)), (c, λ fs h. h))
right_side_fine (the.others es) c = ((λ p _. c), (tt, λ e h. ((c, h), λ fs k. k)))
right_side_fine (the.after_other es) c = ((λ p _. (c, λ fs k. k)), (c, λ fs k. k))
right_side_fine the.other c =
    ((tt, λ e h. h), ((λ p _. (tt, λ es h. h)), ((λ p _. (tt, λ es h. h)), ((λ p _. (tt, λ e h. h)), (tt, λ e h. h)))))
right_side_fine the.simple c = ((λ p _. (tt, λ e _. tt)), ((λ p _. (tt, λ e h. h)), (λ p _. (tt, λ e h. h))))
right_side_fine the.unions c = (tt, λ es h. (h, λ e k. k))
right_side_fine (the.more_union e) c = ((λ p _. (tt, λ es h. ((c, h), λ f k. k))), c)
right_side_fine the.named_graph c = (tt, λ n _. (tt, λ es h. h))
right_side_fine the.binding c = λ p _. (tt, λ e h. λ q _. λ v _. λ r _. h)
right_side_fine the.data_block c = ((λ v _. (tt, λ e h. h)), (tt, λ xs _. (tt, λ e h. h)))
right_side_fine the.cell c = ((λ p _. tt), (tt, λ t h. h))
right_side_fine (the.column x) c = λ p _. (tt, λ e h. h)
right_side_fine (the.more_column x rs) c =
    ((λ p _. c), (tt, λ cell h. (Each-append (Each HasTagType) rs ((cell ∷ []) ∷ []) c ((h, tt), tt), λ e k. k)))
right_side_fine (the.rows xs) c = λ p _. (tt, λ e h. h)
right_side_fine (the.more_rows xs rs) c =
    ((λ p _. c), (tt, λ cs h. (Each-append (Each HasTagType) rs (cs ∷ []) c (h, tt), λ e k. k)))
right_side_fine the.row c = λ p _. (tt, λ cs h. h)
right_side_fine (the.more_cells cs) c =
    ((λ p _. c), (tt, λ cell h. (Each-append HasTagType cs (cell ∷ []) c (h, tt), λ ds k. k)))
right_side_fine the.query c = ((λ p _. (tt, λ q h. h)), (tt, λ q h. h))
right_side_fine the.declared c = λ p _. λ r _. (tt, λ q h. h)
right_side_fine the.select_query c = λ p _. ((λ q _. (tt, λ r h. h)), (tt, λ q h. h))
right_side_fine (the.select d) c = ((λ p _. (tt, λ q h. h)), (λ v _. (tt, λ q h. h)))
right_side_fine (the.selected d xs) c = ((λ v _. (tt, λ q h. h)), (tt, λ q h. h))
right_side_fine (the.pattern d xs) c = ((λ p _. (tt, λ q h. h)), (tt, λ q h. h))
right_side_fine (the.pattern_group d xs) c = (tt, λ es h. (tt, λ m _. h))
right_side_fine _ c = search rules

pub derived_has_tags : (text : List ℕ) (q : QueryTree) → Derives text q → HasTags q.group
derived_has_tags text q d =
    let h = sound d.derived right_side_fine (right_side_fine the.query tt) in
    rw d.tree h
