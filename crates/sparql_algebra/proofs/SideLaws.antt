-- In a group that the grammar derives, the left side of each UNION is a group or a UNION.
use Rattle.std.proofs.Common.{ℕ, List, length, rules}
use Rattle.std.specs.Prelude.{⊤}
use Rattle.sparql_lexer.specs.Terminal.{Terminal}
use Rattle.sparql_tree.specs.GroupTree.{GroupTree, ElementTree, none, then, triples, group, union, optional, minus, graph, filter, bind, values}
use Rattle.sparql_tree.specs.QueryTree.{QueryTree}
use Rattle.sparql_grammar.specs.Class.{Picked}
use Rattle.sparql_grammar.specs.Form.{Form, give, count_following, take, part, last, choice, when}
use Rattle.sparql_grammar.specs.Derivation.{Derivation, gives, counts, takes, parts, lasts, firsts, seconds, whens}
use Rattle.sparql_grammar.specs.Productions.{right_side}
use Rattle.sparql_grammar.specs.Symbol as the
use Rattle.sparql_grammar.specs.Symbol.{Symbol, Value}
use Rattle.sparql_grammar.specs.Values.{Names}
use Rattle.sparql_grammar.specs.Derives.{Derives}

-- The left side of each UNION is a group or a UNION. The grammar derives no other group.
abbrev mutual
  pub HasSides : GroupTree → Type 0
  HasSides none = ⊤
  HasSides (then g e) = HasSides g × HasSidesInside e

  pub HasSidesInside : ElementTree → Type 0
  HasSidesInside (triples ts) = ⊤
  HasSidesInside (group g) = HasSides g
  HasSidesInside (union e g) = IsSide e × HasSides g
  HasSidesInside (optional g) = HasSides g
  HasSidesInside (minus g) = HasSides g
  HasSidesInside (graph i g) = HasSides g
  HasSidesInside (filter e) = ⊤
  HasSidesInside (bind e x) = ⊤
  HasSidesInside (values xs rows) = ⊤

  pub IsSide : ElementTree → Type 0
  IsSide (group g) = HasSides g
  IsSide (union e g) = IsSide e × HasSides g
  IsSide (triples ts) = ⊥
  IsSide (optional g) = ⊥
  IsSide (minus g) = ⊥
  IsSide (graph i g) = ⊥
  IsSide (filter e) = ⊥
  IsSide (bind e x) = ⊥
  IsSide (values xs rows) = ⊥

-- the property for the part of a list or chain that a symbol has
abbrev Carried : Symbol → Type 0
Carried (the.body es) = HasSides es
Carried (the.others es) = HasSides es
Carried (the.after_other es) = HasSides es
Carried (the.more_union e) = IsSide e
Carried _ = ⊤

-- the property for the value of a symbol
abbrev Given : (s : Symbol) → Value s → Type 0
Given the.group v = HasSides v
Given (the.body es) v = HasSides v
Given (the.others es) v = HasSides v
Given (the.after_other es) v = HasSides v
Given the.other v = HasSidesInside v
Given the.simple v = HasSidesInside v
Given the.named_graph v = HasSidesInside v
Given the.binding v = HasSidesInside v
Given the.data_block v = HasSidesInside v
Given (the.column x) v = HasSidesInside v
Given (the.more_column x rs) v = HasSidesInside v
Given (the.rows xs) v = HasSidesInside v
Given (the.more_rows xs rs) v = HasSidesInside v
Given the.unions v = IsSide v
Given (the.more_union e) v = IsSide v
Given the.query v = HasSides v.group
Given the.declared v = HasSides v.group
Given the.select_query v = HasSides v.group
Given (the.select d) v = HasSides v.group
Given (the.selected d xs) v = HasSides v.group
Given (the.pattern d xs) v = HasSides v.group
Given (the.pattern_group d xs) v = HasSides v.group
Given _ v = ⊤

-- the property for every value of a form, provided that the parts of the form have it
abbrev Fine : {A : Type 0} → (A → Type 0) → Form A → Type 0
Fine P (give a) = P a
Fine P (count_following g) = (n : ℕ) → P (g n)
Fine P (take c f) = (p : Picked c) → Fine P (f p)
Fine P (part u f) = Carried u × ((a : Value u) → Given u a → Fine P (f a))
Fine P (last u g) = Carried u × ((a : Value u) → Given u a → P (g a))
Fine P (choice l r) = Fine P l × Fine P r
Fine P (when b f) = Fine P f

sound : {names : Names} {s : Symbol} {form : Form (Value s)} {ts rest : List Terminal} {v : Value s}
    → Derivation names s form ts v rest → ((u : Symbol) → Carried u → Fine (Given u) (right_side u)) → Fine (Given s) form → Given s v
sound gives R h = h
sound (counts {ts = ts}) R h = h (length ts)
sound (takes p k d) R h = sound d R (h p)
sound (parts {u = u} {a = a} d e) R h = sound e R (h.1 a (sound d R (R u h.0)))
sound (lasts {u = u} {a = a} d) R h = h.1 a (sound d R (R u h.0))
sound (firsts d) R h = sound d R h.0
sound (seconds d) R h = sound d R h.1
sound (whens e d) R h = sound d R h

side_inside : (e : ElementTree) → IsSide e → HasSidesInside e
side_inside (group g) h = h
side_inside (union e g) h = h
side_inside (triples ts) h = tt
side_inside (optional g) h = absurd h
side_inside (minus g) h = absurd h
side_inside (graph i g) h = absurd h
side_inside (filter e) h = tt
side_inside (bind e x) h = tt
side_inside (values xs rows) h = tt

right_side_fine : (u : Symbol) → Carried u → Fine (Given u) (right_side u)
right_side_fine the.group c = λ p. (tt, λ a h. h)
right_side_fine (the.body es) c = ((tt, λ ts _. ((c, tt), λ fs h. h)), (c, λ fs h. h))
right_side_fine (the.others es) c = ((λ p. c), (tt, λ e h. ((c, h), λ fs k. k)))
right_side_fine (the.after_other es) c = ((λ p. (c, λ fs k. k)), (c, λ fs k. k))
right_side_fine the.other c =
    ((tt, λ e h. side_inside e h), ((λ p. (tt, λ es h. h)), ((λ p. (tt, λ es h. h)), ((λ p. (tt, λ e h. h)), (tt, λ e h. h)))))
right_side_fine the.simple c = ((λ p. (tt, λ e _. tt)), ((λ p. (tt, λ e h. h)), (λ p. (tt, λ e h. h))))
right_side_fine the.unions c = (tt, λ es h. (h, λ e k. k))
right_side_fine (the.more_union e) c = ((λ p. (tt, λ es h. ((c, h), λ f k. k))), c)
right_side_fine the.named_graph c = (tt, λ n _. (tt, λ es h. h))
right_side_fine the.binding c = λ p. (tt, λ e _. λ q. λ v. λ r. tt)
right_side_fine the.data_block c = ((λ v. (tt, λ e h. h)), (tt, λ vs _. (tt, λ e h. h)))
right_side_fine (the.column v) c = λ p. (tt, λ e h. h)
right_side_fine (the.more_column v rs) c = ((λ p. tt), (tt, λ x _. (tt, λ e h. h)))
right_side_fine (the.rows vs) c = λ p. (tt, λ e h. h)
right_side_fine (the.more_rows vs rs) c = ((λ p. tt), (tt, λ cs _. (tt, λ e h. h)))
right_side_fine the.query c = ((λ p. (tt, λ q h. h)), (tt, λ q h. h))
right_side_fine the.declared c = λ p. λ r. (tt, λ q h. h)
right_side_fine the.select_query c = λ p. ((λ q. (tt, λ r h. h)), (tt, λ q h. h))
right_side_fine (the.select d) c = ((λ p. (tt, λ q h. h)), (λ v. (tt, λ q h. h)))
right_side_fine (the.selected d vs) c = ((λ v. (tt, λ q h. h)), (tt, λ q h. h))
right_side_fine (the.pattern d vs) c = ((λ p. (tt, λ q h. h)), (tt, λ q h. h))
right_side_fine (the.pattern_group d vs) c = (tt, λ es h. (tt, λ m _. h))
right_side_fine _ c = search rules

pub derived_has_sides : (text : List ℕ) (q : QueryTree) → Derives text q → HasSides q.group
derived_has_sides text q d =
    let h = sound d.derived right_side_fine (right_side_fine the.query tt) in
    rw d.tree h
