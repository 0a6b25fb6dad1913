-- Right sides of productions. Productions.antt writes the grammar of SPARQL 1.1 Query Language,
-- section 19.8, with them.
use Rattle.std.specs.Prelude.{ℕ, Bool}
use Rattle.sparql_grammar.specs.Class.{Class, Picked, exactly}
use Rattle.sparql_grammar.specs.Symbol.{Symbol, Value}
use Rattle.sparql_lexer.specs.declared.token.Kind.{Kind}
use Rattle.sparql_lexer.specs.declared.token.Kind.TheVariants as kind
use Rattle.sparql_lexer.specs.declared.token.Keyword.{Keyword}
use Rattle.sparql_lexer.specs.declared.token.Sign.{Sign}

-- A list of symbols and terminals, and the value of a text of this form.
pub data Form (A : Type 0) : Type 0 where
  -- nothing more; the value
  give : A → Form A
  -- nothing more; the number of the terminals that follow determines the value
  count_following : (ℕ → A) → Form A
  -- a terminal of a class, followed by a form that depends on its value
  take : (c : Class) → (Picked c → Form A) → Form A
  -- a text of a symbol, followed by a form that depends on its value
  part : (s : Symbol) → (Value s → Form A) → Form A
  -- a text of a symbol, and nothing more
  last : (s : Symbol) → (Value s → A) → Form A
  -- one form or the other
  choice : Form A → Form A → Form A
  -- the form, provided that a condition on the values before it is true
  when : Bool → Form A → Form A

-- a terminal of exactly this kind, without a value
abbrev pub this : {A : Type 0} → Kind → Form A → Form A
this k f = take (exactly k) (λ _. f)

-- this punctuation sign
abbrev pub sign : {A : Type 0} → Sign → Form A → Form A
sign s f = take (exactly (kind.Sign s)) (λ _. f)

-- this keyword
abbrev pub word : {A : Type 0} → Keyword → Form A → Form A
word w f = take (exactly (kind.Keyword w)) (λ _. f)
