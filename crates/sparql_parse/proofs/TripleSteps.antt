-- Steps of the readers of triples.
use Rattle.std.proofs.Common.{◌≡◌, ◌<◌, ◌≤◌, ℕ, List, [], ◌∷◌, ◌++◌, ap, ◌∙◌, arith, Result, Ok, Err, true, false, refl, sym, subst}
use Rattle.std.specs.Borrow.{Bor}
use Rattle.sparql_lexer.specs.declared.token.Token.{Token}
use Rattle.sparql_lexer.specs.Terminal.{Terminal}
use Rattle.sparql_tree.specs.declared.group.VarOrTerm.{VarOrTerm}
use Rattle.sparql_tree.specs.declared.group.Triple.{Triple}
use Rattle.sparql_grammar.specs.Values.{Names}
use Rattle.sparql_grammar.specs.Symbol.{Symbol, Value}
use Rattle.sparql_grammar.specs.Symbol as the
use Rattle.sparql_grammar.specs.Form.{last}
use Rattle.sparql_grammar.specs.Productions.{right_side, and_triple}
use Rattle.sparql_grammar.specs.Follow.{heads, is_verb}
use Rattle.sparql_grammar.proofs.ProductionLaws.{good}
use Rattle.sparql_expression.specs.declared.fault.ParseFault.{ParseFault}
use Rattle.sparql_expression.specs.ParseResult.{ParseResult, Parses}
use Rattle.sparql_expression.proofs.Steps.{Left, mapped, begin, then_read, part_fails, enter, last_reads, last_fails, here, left, branch, passed_by}
use Rattle.sparql_parse.specs.Seen.{seen_out}
use Rattle.sparql_parse.specs.Objects.{IsObject, IsProperty, ParsesProperty}

-- the last call of a reader, for any result
pub tail : {names : Names} {s : Symbol} {ts : List Terminal} {u : Symbol} {g : Value u → Value s} {w : Symbol} {h : Value w → Value u} {mid : List Terminal}
    → Left names s ts u g (last w h) mid → (to : ParseResult w → ParseResult s) → ((v : Value w) (rest : List Terminal) → to (Ok (v, rest)) ≡ Ok (g (h v), rest)) → ((e : ParseFault) → to (Err e) ≡ Err e)
    → (answer : ParseResult w) → Parses names w mid answer → Parses names s ts (to answer)
tail {names = names} {s = s} {ts = ts} l to a b (Ok p) r = subst (λ x. Parses names s ts x) (sym (a p.0 p.1)) (last_reads l r refl)
tail {names = names} {s = s} {ts = ts} l to a b (Err e) r = subst (λ x. Parses names s ts x) (sym (b e)) (last_fails l r)

pub object_read : {names : Names} {s : Symbol} {ts : List Terminal} {a b : VarOrTerm} {us vs : List Triple} {g : List Triple → Value s} {mid after : List Terminal}
    → Left names s ts (the.objects a b us) g (right_side (the.objects a b us)) mid → IsObject names a b us vs mid after
    → Left names s ts (the.more_objects a b vs) g (right_side (the.more_objects a b vs)) after
object_read {names = names} {s = s} {ts = ts} {a = a} {b = b} {g = g} {after = after} l o =
    subst (λ vs. Left names s ts (the.more_objects a b vs) g (right_side (the.more_objects a b vs)) after) (sym o.triples) (enter (then_read l o.reads))

property_is : {names : Names} {a : VarOrTerm} {us vs : List Triple} {before after : List Terminal}
    → Left names (the.after_semicolon a us) before (the.more_properties a vs) (λ v. v) (right_side (the.more_properties a vs)) after
    → (answer : ParseResult (the.more_properties a vs)) → Parses names (the.more_properties a vs) after answer → Parses names (the.after_semicolon a us) before answer
property_is l (Ok p) r = l.goes (Ok p) r
property_is l (Err e) r = l.goes (Err e) r

pub no_property : {names : Names} {a : VarOrTerm} {us : List Triple} {ts : List Terminal} → heads is_verb ts ≡ false → IsProperty names a us us ts ts
no_property {names = names} {a = a} {us = us} {ts = ts} h = λ answer r. property_is (enter (passed_by (begin names (the.after_semicolon a us) ts) refl h)) answer r

pub next_property : {names : Names} {a : VarOrTerm} {us : List Triple} {ts : List Terminal} (vs : List Triple) (res : Result (Bor (List Token)) ParseFault)
    → heads is_verb ts ≡ true → Parses names (the.property a us) ts (seen_out vs res) → ParsesProperty names a us vs ts res
next_property {names = names} {a = a} {us = us} {ts = ts} vs (Ok after) h r = λ answer q. property_is (enter (then_read (branch (begin names (the.after_semicolon a us) ts) (left here) h) r)) answer q
next_property {names = names} {a = a} {us = us} {ts = ts} vs (Err e) h r = part_fails (branch (begin names (the.after_semicolon a us) ts) (left here) h) r

property_goes : {names : Names} {s : Symbol} {ts : List Terminal} {a : VarOrTerm} {us vs : List Triple} {g : List Triple → Value s} {before after : List Terminal}
    → Left names s ts (the.after_semicolon a us) g (right_side (the.after_semicolon a us)) before → IsProperty names a us vs before after
    → (answer : ParseResult (the.more_properties a vs)) → Parses names (the.more_properties a vs) after answer → Parses names s ts (mapped g answer)
property_goes l h (Ok p) r = l.goes (Ok p) (h (Ok p) r)
property_goes l h (Err e) r = l.goes (Err e) (h (Err e) r)

pub after_property : {names : Names} {s : Symbol} {ts : List Terminal} {a : VarOrTerm} {us vs : List Triple} {g : List Triple → Value s} {before after : List Terminal}
    → Left names s ts (the.after_semicolon a us) g (right_side (the.after_semicolon a us)) before → IsProperty names a us vs before after
    → Left names s ts (the.more_properties a vs) g (right_side (the.more_properties a vs)) after
after_property {a = a} {vs = vs} l h = record { good = good (the.more_properties a vs); goes = λ answer r. property_goes l h answer r }

-- a result for the last symbol is a result for the whole
pub whole : {names : Names} {s : Symbol} {ts : List Terminal} {u : Symbol} {g : Value u → Value s} {mid : List Terminal} {e : ParseFault}
    → Left names s ts u g (right_side u) mid → Parses names u mid (Err e) → Parses names s ts (Err e)
whole {e = e} l r = l.goes (Err e) r

pub and_copied : (ts : List Triple) {us : List Triple} {a b a' b' : VarOrTerm} (o : VarOrTerm) → us ≡ ts ++ record { subject = a'; predicate = b'; object = o } ∷ [] → a' ≡ a → b' ≡ b → us ≡ and_triple ts a b o
and_copied ts {a = a} {b' = b'} o h e f =
    h ∙ ap (λ x. ts ++ record { subject = x; predicate = b'; object = o } ∷ []) e ∙ ap (λ y. ts ++ record { subject = a; predicate = y; object = o } ∷ []) f

-- fewer terminals are left after each step

pub shorter_twice : {a b c : ℕ} → a < b → b < c → a < c
shorter_twice h i = omega arith

pub shorter_thrice : {a b c d : ℕ} → a < b → b < c → c < d → a < d
shorter_thrice h i j = omega arith

pub no_longer : {a b c d : ℕ} → a ≤ b → b < c → c < d → a < d
no_longer h i j = omega arith

pub up_to : {a b c : ℕ} → a ≤ b → b < c → a < c
up_to h i = omega arith

pub up_twice : {a b c d e : ℕ} → a ≤ b → b ≤ c → c < d → d < e → a < e
up_twice h i j k = omega arith
