-- The results of the reader of one object, and of the reader of the text after `;`.
use Rattle.std.specs.Prelude.{◌≡◌, List, Result, Ok, Err}
use Rattle.std.specs.Borrow.{Bor}
use Rattle.sparql_lexer.specs.declared.token.Token.{Token}
use Rattle.sparql_lexer.specs.Terminal.{Terminal, terminals}
use Rattle.sparql_tree.specs.declared.group.VarOrTerm.{VarOrTerm}
use Rattle.sparql_tree.specs.declared.group.Triple.{Triple}
use Rattle.sparql_grammar.specs.Values.{Names}
use Rattle.sparql_grammar.specs.Symbol as the
use Rattle.sparql_grammar.specs.Productions.{and_triple}
use Rattle.sparql_expression.specs.declared.fault.ParseFault.{ParseFault}
use Rattle.sparql_expression.specs.ParseResult.{ParseResult, Parses}

-- an object of the subject a and the verb b, after the triples ts
pub record IsObject (names : Names) (a b : VarOrTerm) (ts us : List Triple) (before after : List Terminal) : Type 0 where
  pub object : VarOrTerm
  pub reads : Parses names the.pattern_term before (Ok (object, after))
  pub triples : us ≡ and_triple ts a b object

-- what the reader of one object returns
abbrev pub ParsesObject : (names : Names) (a b : VarOrTerm) (ts us : List Triple) → List Terminal → Result (Bor (List Token)) ParseFault → Type 0
ParsesObject names a b ts us before (Ok after) = IsObject names a b ts us before (terminals after.now)
ParsesObject names a b ts us before (Err e) = Parses names the.pattern_term before (Err e)

-- A result from the terminals after a property is a result from the terminals after the semicolon
-- before it.
abbrev pub IsProperty : (names : Names) (a : VarOrTerm) (ts us : List Triple) (before after : List Terminal) → Type 0
IsProperty names a ts us before after = (answer : ParseResult (the.more_properties a us)) → Parses names (the.more_properties a us) after answer
    → Parses names (the.after_semicolon a ts) before answer

-- what the reader of the text after `;` returns
abbrev pub ParsesProperty : (names : Names) (a : VarOrTerm) (ts us : List Triple) → List Terminal → Result (Bor (List Token)) ParseFault → Type 0
ParsesProperty names a ts us before (Ok after) = IsProperty names a ts us before (terminals after.now)
ParsesProperty names a ts us before (Err e) = Parses names (the.after_semicolon a ts) before (Err e)
