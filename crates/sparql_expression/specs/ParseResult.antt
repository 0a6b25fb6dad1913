-- The results of the reader of a symbol of the grammar (SPARQL 1.1 Query Language, section 19.8).
use Rattle.std.specs.Prelude.{◌≡◌, ◌<◌, List, Result, Ok, Err}
use Rattle.std.specs.Borrow.{Bor}
use Rattle.sparql_lexer.specs.declared.token.Token.{Token}
use Rattle.sparql_lexer.specs.Terminal.{Terminal, terminals}
use Rattle.sparql_grammar.specs.Values.{Names}
use Rattle.sparql_grammar.specs.Symbol.{Symbol, Value}
use Rattle.sparql_grammar.specs.Form.{Form}
use Rattle.sparql_grammar.specs.Productions.{right_side}
use Rattle.sparql_grammar.specs.Derivation.{Derivation}
use Rattle.sparql_grammar.specs.Follow.{reach, next_level}
use Rattle.sparql_expression.specs.declared.fault.ParseFault.{ParseFault}
use Rattle.sparql_expression.specs.declared.fault.ParseFault.TheVariants.{Syntax, Memory}

-- a value of the symbol and the terminals after it, or a fault
abbrev pub ParseResult : Symbol → Type 0
ParseResult s = Result (Value s × List Terminal) ParseFault

-- The grammar derives the value that is returned. It derives no other value, unless the terminal
-- after that value can continue it. Syntax is returned only if the grammar derives no value of this
-- kind. Memory says nothing about the text.
abbrev pub IsParseResult : (names : Names) (s : Symbol) → Form (Value s) → List Terminal → ParseResult s → Type 0
IsParseResult names s form ts (Ok p) = Derivation names s form ts p.0 p.1
    × ((v : Value s) (rest : List Terminal) → Derivation names s form ts v rest → reach s < next_level rest → (v ≡ p.0) × (rest ≡ p.1))
IsParseResult names s form ts (Err Syntax) = (v : Value s) (rest : List Terminal) → Derivation names s form ts v rest → reach s < next_level rest → ⊥
IsParseResult names s form ts (Err Memory) = Unit {0}

-- the result for a form of the symbol: its right side, or a later part of it
pub record ParsesForm (names : Names) (s : Symbol) (form : Form (Value s)) (ts : List Terminal) (answer : ParseResult s) : Type 0 where
  pub is : IsParseResult names s form ts answer

-- the result for the symbol
abbrev pub Parses : Names → (s : Symbol) → List Terminal → ParseResult s → Type 0
Parses names s = ParsesForm names s (right_side s)

-- a result of the code: the model of its value, and the terminals of the tokens after it
abbrev pub seen : {A B : Type 0} → (A → B) → Result (A × Bor (List Token)) ParseFault → Result (B × List Terminal) ParseFault
seen view (Ok p) = Ok (view p.0, terminals p.1.now)
seen view (Err e) = Err e
