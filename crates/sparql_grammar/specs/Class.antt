-- Classes of terminals, and the value of a terminal of each class (SPARQL 1.1 Query Language,
-- section 19.8, terminals).
use Rattle.std.specs.Prelude.{◌≡◌, ℕ, List, [], ◌∷◌, Option, Some, None, drop, map, codes}
use lib.Utf8.{encodes}
use Rattle.rdf_core.specs.Vocabulary.{xsd_boolean, xsd_integer, xsd_decimal, xsd_double}
use Rattle.rdf_core.specs.declared.term.Term.{Term}
use Rattle.rdf_core.specs.declared.term.Term.TheVariants.{Literal}
use Rattle.sparql_lexer.specs.declared.token.Kind.{Kind}
use Rattle.sparql_lexer.specs.declared.token.Kind.TheVariants as kind
use Rattle.sparql_lexer.specs.declared.token.Keyword.TheVariants as word
use Rattle.sparql_lexer.specs.declared.token.Sign.TheVariants as sign
use Rattle.sparql_tree.specs.declared.expression.Comparison.{Comparison}
use Rattle.sparql_tree.specs.declared.expression.Comparison.TheVariants as op
use Rattle.sparql_tree.specs.declared.expression.Function.{Function}
use Rattle.sparql_tree.specs.declared.expression.Function.TheVariants as the_function
use Rattle.sparql_lexer.specs.Values.{iri_value, string_value}
use Rattle.sparql_grammar.specs.Values.{Names, capped, expanded}
use Rattle.std.specs.Char.{to_ascii_lowercase}

-- the classes, with the standard's production where it has one
pub data Class : Type 0 where
  -- a terminal of exactly this kind
  exactly : Kind → Class
  comparison : Class
  function : Class
  variable : Class
  blank : Class
  -- [136] iri: an IRIREF or a prefixed name
  name : Class
  -- [139] IRIREF
  reference : Class
  string : Class
  language : Class
  number : Class
  boolean : Class
  -- [146] INTEGER
  count : Class

-- the type of the value of a terminal of the class
abbrev pub Picked : Class → Type 0
Picked (exactly k) = Unit {0}
Picked comparison = Comparison
Picked function = Function
Picked variable = List ℕ
Picked blank = List ℕ
Picked name = List ℕ
Picked reference = List ℕ
Picked string = List ℕ
Picked language = List ℕ
Picked number = Term
Picked boolean = Term
Picked count = ℕ

-- '=' | '!=' | '<' | '>' | '<=' | '>=', of [114] RelationalExpression
abbrev pub comparison_of : Kind → Option Comparison
comparison_of (kind.Sign sign.Equal) = Some op.Equal
comparison_of (kind.Sign sign.NotEqual) = Some op.NotEqual
comparison_of (kind.Sign sign.Less) = Some op.Less
comparison_of (kind.Sign sign.Greater) = Some op.Greater
comparison_of (kind.Sign sign.LessOrEqual) = Some op.LessOrEqual
comparison_of (kind.Sign sign.GreaterOrEqual) = Some op.GreaterOrEqual
comparison_of _ = None

-- 'STR' | 'LANG' | 'DATATYPE' | 'isIRI' | 'isBLANK' | 'isLITERAL', of [121] BuiltInCall
abbrev pub function_of : Kind → Option Function
function_of (kind.Keyword word.Str) = Some the_function.Str
function_of (kind.Keyword word.Lang) = Some the_function.Lang
function_of (kind.Keyword word.Datatype) = Some the_function.Datatype
function_of (kind.Keyword word.IsIri) = Some the_function.IsIri
function_of (kind.Keyword word.IsBlank) = Some the_function.IsBlank
function_of (kind.Keyword word.IsLiteral) = Some the_function.IsLiteral
function_of _ = None

-- the name after `?` or `$`
abbrev pub variable_of : Kind → List ℕ → Option (List ℕ)
variable_of kind.Variable x = Some (encodes (drop 1 x))
variable_of _ x = None

-- the label after `_:`
abbrev pub blank_of : Kind → List ℕ → Option (List ℕ)
blank_of kind.BlankLabel x = Some (encodes (drop 2 x))
blank_of _ x = None

-- the IRI of an [139] IRIREF
abbrev pub reference_of : Kind → List ℕ → Option (List ℕ)
reference_of kind.IriRef x = iri_value x
reference_of _ x = None

-- the IRI of an IRIREF or of a prefixed name
abbrev pub name_of : Names → Kind → List ℕ → Option (List ℕ)
name_of ns kind.IriRef x = iri_value x
name_of ns kind.PrefixedName x = Some (expanded ns x)
name_of ns kind.PrefixedNamespace x = Some (expanded ns x)
name_of ns _ x = None

-- the string of a [135] String
abbrev pub string_of : Kind → List ℕ → Option (List ℕ)
string_of kind.ShortString x = string_value kind.ShortString x
string_of kind.LongString x = string_value kind.LongString x
string_of _ x = None

-- the tag after `@`, in lower case
abbrev pub language_of : Kind → List ℕ → Option (List ℕ)
language_of kind.LanguageTag x = Some (map to_ascii_lowercase (encodes (drop 1 x)))
language_of _ x = None

-- the datatype IRI of a [130] NumericLiteral (section 4.1.2)
abbrev pub number_type : Kind → Option (List ℕ)
number_type kind.Integer = Some xsd_integer
number_type kind.SignedInteger = Some xsd_integer
number_type kind.Decimal = Some xsd_decimal
number_type kind.SignedDecimal = Some xsd_decimal
number_type kind.Double = Some xsd_double
number_type kind.SignedDouble = Some xsd_double
number_type _ = None

-- a literal whose lexical form is the text of the number with its sign
abbrev pub number_of : Kind → List ℕ → Option Term
number_of k x = elim (number_type k) [ None ↦ None | Some d ↦ Some (Literal (encodes x) d None) ]

-- the literal of a [134] BooleanLiteral
abbrev pub boolean_of : Kind → Option Term
boolean_of (kind.Keyword word.True) = Some (Literal (codes "true") xsd_boolean None)
boolean_of (kind.Keyword word.False) = Some (Literal (codes "false") xsd_boolean None)
boolean_of _ = None

-- the number of an [146] INTEGER after LIMIT or OFFSET
abbrev pub count_of : Kind → List ℕ → Option ℕ
count_of kind.Integer x = Some (capped x)
count_of _ x = None

-- a terminal of the kind with these characters is in the class and has the value
abbrev pub Picks : Names → (c : Class) → Kind → List ℕ → Picked c → Type 0
Picks ns (exactly k) l x v = l ≡ k
Picks ns comparison l x v = comparison_of l ≡ Some v
Picks ns function l x v = function_of l ≡ Some v
Picks ns variable l x v = variable_of l x ≡ Some v
Picks ns blank l x v = blank_of l x ≡ Some v
Picks ns name l x v = name_of ns l x ≡ Some v
Picks ns reference l x v = reference_of l x ≡ Some v
Picks ns string l x v = string_of l x ≡ Some v
Picks ns language l x v = language_of l x ≡ Some v
Picks ns number l x v = number_of l x ≡ Some v
Picks ns boolean l x v = boolean_of l ≡ Some v
Picks ns count l x v = count_of l x ≡ Some v
