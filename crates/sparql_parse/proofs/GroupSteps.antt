-- Steps of the readers of groups, and of lists that grow at their end.
use Rattle.std.proofs.Common.{◌≡◌, List, [], ◌∷◌, ◌++◌, map, Ok, Err, refl, ap, ◌∙◌}
use Rattle.sparql_lexer.specs.Terminal.{Terminal}
use Rattle.sparql_tree.specs.declared.group.Element.{Element}
use Rattle.sparql_tree.specs.GroupTree.{GroupTree, ElementTree, none, then, onto, element_of, group_of}
use Rattle.sparql_grammar.specs.Values.{Names}
use Rattle.sparql_grammar.specs.Symbol.{Symbol, Value, Select}
use Rattle.sparql_grammar.specs.Symbol as the
use Rattle.sparql_grammar.specs.Productions.{right_side}
use Rattle.sparql_grammar.proofs.ProductionLaws.{good}
use Rattle.sparql_expression.specs.ParseResult.{ParseResult, Parses}
use Rattle.sparql_expression.proofs.Steps.{Left, mapped}
use Rattle.sparql_parse.specs.Groups.{IsElementRun, IsAfterDot}
use Rattle.sparql_parse.specs.Queries.{IsDeclaration}

onto-push : (acc : GroupTree) (es : List ElementTree) (e : ElementTree) → onto acc (es ++ e ∷ []) ≡ then (onto acc es) e
onto-push acc [] e = refl
onto-push acc (x ∷ es) e = onto-push (then acc x) es e

map-push : {A B : Type 0} (f : A → B) (es : List A) (e : A) → map f (es ++ e ∷ []) ≡ map f es ++ f e ∷ []
map-push f [] e = refl
map-push f (x ∷ es) e = ap (λ xs. f x ∷ xs) (map-push f es e)

pub group-push : (es : List Element) (e : Element) → group_of (es ++ e ∷ []) ≡ then (group_of es) (element_of e)
group-push es e = ap (onto none) (map-push element_of es e) ∙ onto-push none (map element_of es) (element_of e)

-- a run of triples, and the terminals after it

run_is : {names : Names} {es fs : GroupTree} {before after : List Terminal} → Left names (the.body es) before (the.others fs) (λ v. v) (right_side (the.others fs)) after
    → (answer : ParseResult (the.others fs)) → Parses names (the.others fs) after answer → Parses names (the.body es) before answer
run_is l (Ok p) r = l.goes (Ok p) r
run_is l (Err e) r = l.goes (Err e) r

pub is_run : {names : Names} {es fs : GroupTree} {before after : List Terminal}
    → Left names (the.body es) before (the.others fs) (λ v. v) (right_side (the.others fs)) after → IsElementRun names es fs before after
is_run l = λ answer r. run_is l answer r

run_goes : {names : Names} {s : Symbol} {ts : List Terminal} {es fs : GroupTree} {g : GroupTree → Value s} {before after : List Terminal}
    → Left names s ts (the.body es) g (right_side (the.body es)) before → IsElementRun names es fs before after
    → (answer : ParseResult (the.others fs)) → Parses names (the.others fs) after answer → Parses names s ts (mapped g answer)
run_goes l h (Ok p) r = l.goes (Ok p) (h (Ok p) r)
run_goes l h (Err e) r = l.goes (Err e) (h (Err e) r)

pub after_run : {names : Names} {s : Symbol} {ts : List Terminal} {es fs : GroupTree} {g : GroupTree → Value s} {before after : List Terminal}
    → Left names s ts (the.body es) g (right_side (the.body es)) before → IsElementRun names es fs before after → Left names s ts (the.others fs) g (right_side (the.others fs)) after
after_run {fs = fs} l h = record { good = good (the.others fs); goes = λ answer r. run_goes l h answer r }

-- a dot, or none

dot_is : {names : Names} {es : GroupTree} {before after : List Terminal} → Left names (the.after_other es) before (the.body es) (λ v. v) (right_side (the.body es)) after
    → (answer : ParseResult (the.body es)) → Parses names (the.body es) after answer → Parses names (the.after_other es) before answer
dot_is l (Ok p) r = l.goes (Ok p) r
dot_is l (Err e) r = l.goes (Err e) r

pub is_after_dot : {before after : List Terminal}
    → ((names : Names) (es : GroupTree) → Left names (the.after_other es) before (the.body es) (λ v. v) (right_side (the.body es)) after) → IsAfterDot before after
is_after_dot l = λ names es answer r. dot_is (l names es) answer r

dot_goes : {names : Names} {s : Symbol} {ts : List Terminal} {es : GroupTree} {g : GroupTree → Value s} {before after : List Terminal}
    → Left names s ts (the.after_other es) g (right_side (the.after_other es)) before → IsAfterDot before after
    → (answer : ParseResult (the.body es)) → Parses names (the.body es) after answer → Parses names s ts (mapped g answer)
dot_goes {names = names} {es = es} l h (Ok p) r = l.goes (Ok p) (h names es (Ok p) r)
dot_goes {names = names} {es = es} l h (Err e) r = l.goes (Err e) (h names es (Err e) r)

pub after_dot : {names : Names} {s : Symbol} {ts : List Terminal} {es : GroupTree} {g : GroupTree → Value s} {before after : List Terminal}
    → Left names s ts (the.after_other es) g (right_side (the.after_other es)) before → IsAfterDot before after → Left names s ts (the.body es) g (right_side (the.body es)) after
after_dot {es = es} l h = record { good = good (the.body es); goes = λ answer r. dot_goes l h answer r }

-- a declaration

declaration_is : {names : Names} {before after : List Terminal} → Left names the.declared before the.query (λ v. v) (right_side the.query) after
    → (answer : ParseResult the.query) → Parses names the.query after answer → Parses names the.declared before answer
declaration_is l (Ok p) r = l.goes (Ok p) r
declaration_is l (Err e) r = l.goes (Err e) r

pub is_declaration : {names : Names} {before after : List Terminal}
    → Left names the.declared before the.query (λ v. v) (right_side the.query) after → IsDeclaration names before after
is_declaration l = λ answer r. declaration_is l answer r

declaration_goes : {names : Names} {s : Symbol} {ts : List Terminal} {g : Select → Value s} {before after : List Terminal}
    → Left names s ts the.declared g (right_side the.declared) before → IsDeclaration names before after
    → (answer : ParseResult the.query) → Parses names the.query after answer → Parses names s ts (mapped g answer)
declaration_goes l h (Ok p) r = l.goes (Ok p) (h (Ok p) r)
declaration_goes l h (Err e) r = l.goes (Err e) (h (Err e) r)

pub after_declaration : {names : Names} {s : Symbol} {ts : List Terminal} {g : Select → Value s} {before after : List Terminal}
    → Left names s ts the.declared g (right_side the.declared) before → IsDeclaration names before after → Left names s ts the.query g (right_side the.query) after
after_declaration l h = record { good = good the.query; goes = λ answer r. declaration_goes l h answer r }
