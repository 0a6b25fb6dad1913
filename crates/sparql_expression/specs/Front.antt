-- The first terminal of a list.
use Rattle.std.specs.Prelude.{◌≡◌, ℕ, List, [], ◌∷◌, Option, Some, None}
use Rattle.std.specs.Borrow.{Bor}
use Rattle.sparql_lexer.specs.declared.token.Kind.{Kind}
use Rattle.sparql_lexer.specs.declared.token.Token.{Token}
use Rattle.sparql_lexer.specs.Terminal.{Terminal, terminal, terminals}
use Rattle.sparql_grammar.specs.Class.{Class, Picked, Picks}
use Rattle.sparql_grammar.specs.Values.{Names}

-- the list is a terminal of the class with this value, followed by `after`
pub record Taken (names : Names) (c : Class) (ts : List Terminal) (v : Picked c) (after : List Terminal) : Type 0 where
  pub kind : Kind
  pub text : List ℕ
  pub first : ts ≡ terminal kind text ∷ after
  pub picks : Picks names c kind text v

-- the list does not begin with a terminal of the class
pub record Untaken (names : Names) (c : Class) (ts : List Terminal) : Type 0 where
  pub none : (v : Picked c) (after : List Terminal) → Taken names c ts v after → ⊥

-- the value of the first terminal and the terminals after it, or None if it is not of the class
abbrev pub Accepts : (names : Names) (c : Class) → List Terminal → Option (Picked c × List Terminal) → Type 0
Accepts names c ts (Some p) = Taken names c ts p.0 p.1
Accepts names c ts None = Untaken names c ts

-- the result of the code: a value and the tokens after it, or only these tokens
abbrev pub accepted : {A : Type 0} → Option (A × Bor (List Token)) → Option (A × List Terminal)
accepted (Some p) = Some (p.0, terminals p.1.now)
accepted None = None

-- the same for a terminal without a value
abbrev pub followed : Option (Bor (List Token)) → Option (Unit {0} × List Terminal)
followed (Some after) = Some (tt, terminals after.now)
followed None = None

-- the kind and the characters of the first token, and the tokens after it
abbrev pub IsNextToken : List Token → Option (Kind × Bor (List ℕ) × Bor (List Token)) → Type 0
IsNextToken ts (Some p) = terminals ts ≡ terminal p.0 p.1.now ∷ terminals p.2.now
IsNextToken ts None = terminals ts ≡ []
