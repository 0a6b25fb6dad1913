-- The empty beginning of a query.
use Rattle.std.proofs.Common.{List, [], ◌∷◌, refl, false, None}
use Rattle.sparql_lexer.specs.declared.token.Kind.TheVariants as kind
use Rattle.sparql_lexer.specs.declared.token.Keyword.TheVariants as w
use Rattle.sparql_lexer.specs.declared.token.Sign.TheVariants as s
use Rattle.sparql_lexer.specs.Terminal.{Terminal, terminal}
use Rattle.sparql_tree.specs.GroupTree as g
use Rattle.sparql_grammar.specs.Symbol.{Select}
use Rattle.sparql_grammar.specs.Derivation.{takes, parts, lasts, firsts, seconds, gives}
use Rattle.sparql_parse.specs.Queries.{IsQuery}
use Rattle.query_diagnosis.specs.QueryPrefix.{IsQueryPrefix}

-- SELECT * {}
abbrev shortest : List Terminal
shortest = terminal (kind.Keyword w.Select) [] ∷ terminal (kind.Sign s.Star) []
    ∷ terminal (kind.Sign s.OpenBrace) [] ∷ terminal (kind.Sign s.CloseBrace) [] ∷ []

abbrev query : Select
query = record { distinct = false; selection = None; group = g.none; limit = None; offset = None }

derived : IsQuery [] shortest query
derived = seconds (lasts (takes tt refl (seconds (lasts (firsts (takes tt refl (lasts
    (seconds (lasts (parts (takes tt refl (lasts (seconds (lasts (firsts (takes tt refl gives))))))
    (lasts {a = (None, None)} (seconds (seconds gives)))))))))))))

-- some query begins with no terminals
pub first_place : IsQueryPrefix []
first_place = record { rest = shortest; whole = record { names = []; query = query; derived = derived } }
