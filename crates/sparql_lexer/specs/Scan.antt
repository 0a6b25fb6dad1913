-- The terminals of a text, the longest at each place (SPARQL 1.1 Query Language, section 19.8).
use Rattle.std.specs.Prelude.{◌≡◌, ◌≤◌, ℕ, List, [], ◌∷◌, length, Some, None}
use Rattle.sparql_lexer.specs.declared.token.Kind.{Kind}
use Rattle.sparql_lexer.specs.declared.token.Kind.TheVariants as kind
use Rattle.sparql_lexer.specs.Terminal.{Terminal, terminal}
use Rattle.sparql_lexer.specs.Pattern.{Matches, ◌or◌}
use Rattle.sparql_lexer.specs.Blanks.{after_blanks}
use Rattle.sparql_lexer.specs.Enclosed.{iri, anonymous, short_string, long_string}
use Rattle.sparql_lexer.specs.Names.{variable, namespace, prefixed_name, blank_label, language_tag}
use Rattle.sparql_lexer.specs.Numbers.{integer, decimal, double, signed}
use Rattle.sparql_lexer.specs.Signs.{IsSign}
use Rattle.sparql_lexer.specs.Words.{IsWord, taken}

-- the text is a terminal of the kind followed by `rest`
abbrev pub Reads : Kind → List ℕ → List ℕ → Type 0
Reads kind.IriRef = Matches iri
Reads kind.Variable = Matches variable
Reads kind.PrefixedNamespace = Matches namespace
Reads kind.PrefixedName = Matches prefixed_name
Reads kind.BlankLabel = Matches blank_label
Reads kind.Anonymous = Matches anonymous
Reads kind.LanguageTag = Matches language_tag
Reads kind.Integer = Matches integer
Reads kind.Decimal = Matches decimal
Reads kind.Double = Matches double
Reads kind.SignedInteger = Matches (signed integer)
Reads kind.SignedDecimal = Matches (signed decimal)
Reads kind.SignedDouble = Matches (signed double)
Reads kind.ShortString = Matches (short_string 39 or short_string 34)
Reads kind.LongString = Matches (long_string 39 or long_string 34)
Reads (kind.Keyword k) = IsWord (Some k)
Reads kind.Word = IsWord None
Reads (kind.Sign s) = IsSign s

-- the longest terminal at a place
pub record Longest (k : Kind) (place rest : List ℕ) : Type 0 where
  pub reads : Reads k place rest
  pub longest : (l : Kind) (other : List ℕ) → Reads l place other → length rest ≤ length other

-- no terminal begins at this place
abbrev pub Unreadable : List ℕ → Type 0
Unreadable place = (k : Kind) (rest : List ℕ) → Reads k place rest → ⊥

-- The terminals of a text, each the longest at its place, up to the first place where there is no
-- terminal. White space may occur before, between and after them. The third text begins at that
-- place; it is empty if the whole text is read.
pub data Scans : List ℕ → List Terminal → List ℕ → Type 0 where
  stops : {text place : List ℕ} → after_blanks text ≡ place → Unreadable place → Scans text [] place
  reads : {text place rest end : List ℕ} {k : Kind} {ts : List Terminal} → after_blanks text ≡ place → Longest k place rest → Scans rest ts end
      → Scans text (terminal k (taken place rest) ∷ ts) end
