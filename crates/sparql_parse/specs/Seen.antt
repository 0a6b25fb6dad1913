-- The results of a reader that appends to a list.
use Rattle.std.specs.Prelude.{List, Result, Ok, Err}
use Rattle.std.specs.Borrow.{Bor}
use Rattle.sparql_lexer.specs.declared.token.Token.{Token}
use Rattle.sparql_lexer.specs.Terminal.{Terminal, terminals}
use Rattle.sparql_expression.specs.declared.fault.ParseFault.{ParseFault}

-- the new list, and the terminals of the tokens after the ones that were read
abbrev pub seen_out : {A : Type 0} → A → Result (Bor (List Token)) ParseFault → Result (A × List Terminal) ParseFault
seen_out a (Ok rest) = Ok (a, terminals rest.now)
seen_out a (Err e) = Err e
