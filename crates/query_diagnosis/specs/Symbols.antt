-- What may come next, by the symbols that are still to be read (a choice of this project, not fixed by the standard; the
-- grammar is that of SPARQL 1.1 Query Language, section 19.8). Only private clauses cite these definitions.
use Rattle.std.specs.Prelude.{◌≡◌, ℕ, ◌+◌, ◌<◌, List, length, drop, Bool, true, false, Option, Some, None}
use Rattle.std.specs.List.{list_all, slice_get}
use Rattle.sparql_lexer.specs.declared.token.Kind.{Kind}
use Rattle.sparql_lexer.specs.declared.token.Token.{Token}
use Rattle.query_diagnosis.specs.declared.rules.Breach.{Breach}
use Rattle.query_diagnosis.specs.declared.symbol.Symbol.{Symbol}
use Rattle.query_diagnosis.specs.declared.symbol.Symbol.TheVariants.{Modifiers, MoreLimit, MoreOffset, MoreUnion, MoreObjects, MoreProperties, AfterSemicolon, LiteralTail, MoreRelation, MoreLogic}

-- the symbol derives the empty text
abbrev pub is_optional : Symbol → Bool
is_optional Modifiers = true
is_optional MoreLimit = true
is_optional MoreOffset = true
is_optional MoreUnion = true
is_optional MoreObjects = true
is_optional MoreProperties = true
is_optional AfterSemicolon = true
is_optional LiteralTail = true
is_optional MoreRelation = true
is_optional MoreLogic = true
is_optional _ = false

-- the query may end: each symbol that is left derives the empty text
abbrev pub may_end : List Symbol → Bool
may_end stack = list_all is_optional stack

-- terminals are appended, if the empty text does not do
abbrev pub AreEnds : Bool → List Token → List Token → Type 0
AreEnds true old new = new ≡ old
AreEnds false old new = length old < length new

-- The symbol at this place of the stack may be the next that takes a terminal: those above it derive the empty text.
abbrev pub IsNext : List Symbol → ℕ → Type 0
IsNext stack place = (place < length stack) × (may_end (drop (place + 1) stack) ≡ true)

-- the kind of the terminal at a place, if there is one
abbrev pub kind_of : Option Token → Option Kind
kind_of None = None
kind_of (Some token) = Some token.kind

abbrev pub kind_at : List Token → ℕ → Option Kind
kind_at tokens at = kind_of (slice_get tokens at)

-- the name of a variable, without its `?` or `$`
abbrev pub name_of : Token → List ℕ
name_of variable = drop 1 variable.text.now

-- the terminals at these places have one name
pub record IsSameVariable (tokens : List Token) (at earlier : ℕ) : Type 0 where
  pub variable : Token
  pub first : Token
  pub here : slice_get tokens at ≡ Some variable
  pub there : slice_get tokens earlier ≡ Some first
  pub same : name_of first ≡ name_of variable

-- the breach names two variables of one name
abbrev pub IsRepeated : List Token → Breach → Type 0
IsRepeated tokens b = (place : ℕ) × (b.earlier ≡ Some place) × IsSameVariable tokens b.at place
