-- Steps of the readers of a query's start and end.
use Rattle.std.proofs.Common.{◌≡◌, ◌<◌, List, [], ◌∷◌, Ok, Err, refl, ap, subst, lit<}
use Rattle.sparql_lexer.specs.declared.token.Token.{Token}
use Rattle.sparql_lexer.specs.Terminal.{Terminal, terminals}
use Rattle.sparql_grammar.specs.Values.{Names}
use Rattle.sparql_grammar.specs.Symbol.{Select}
use Rattle.sparql_grammar.specs.Symbol as the
use Rattle.sparql_grammar.specs.Productions.{right_side}
use Rattle.sparql_grammar.specs.Follow.{next_level}
use Rattle.sparql_grammar.specs.Derivation.{Derivation}
use Rattle.sparql_expression.specs.declared.fault.ParseFault.{ParseFault}
use Rattle.sparql_expression.specs.declared.fault.ParseFault.TheVariants.{Syntax, Memory}
use Rattle.sparql_expression.specs.ParseResult.{Parses}
use Rattle.sparql_parse.specs.Queries.{IsQuery, IsParsed}

-- the whole text, or a part of it

pub all_read : {names : Names} {ts : List Terminal} {q : Select} (rest : List Token) → rest ≡ [] → Parses names the.query ts (Ok (q, terminals rest)) → IsQuery names ts q
all_read {names = names} {ts = ts} {q = q} rest e r = subst (λ t. Derivation names the.query (right_side the.query) ts q t) (ap terminals e) r.is.0

nothing_is_something : (t : Token) (ts : List Token) → [] ≡ terminals (t ∷ ts) → ⊥
nothing_is_something t ts h = (cc)

ends_low : 8 < next_level []
ends_low = lit< tt

pub not_all_read : {names : Names} {ts : List Terminal} {q : Select} (rest : List Token) → (rest ≡ [] → ⊥) → Parses names the.query ts (Ok (q, terminals rest)) → (p : Select) → IsQuery names ts p → ⊥
not_all_read [] n r p d = n refl
not_all_read (t ∷ rest) n r p d = nothing_is_something t rest (r.is.1 p [] d ends_low).1

pub not_read : {names : Names} {ts : List Terminal} → Parses names the.query ts (Err Syntax) → (p : Select) → IsQuery names ts p → ⊥
not_read r p d = r.is p [] d ends_low

pub fault_read : {names : Names} {ts : List Terminal} (e : ParseFault) → Parses names the.query ts (Err e) → IsParsed names ts (Err e)
fault_read Syntax r = λ p d. not_read r p d
fault_read Memory r = tt
