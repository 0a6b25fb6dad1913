-- What the errors of a term's comparisons depend on (SPARQL 1.1 Query Language, section 17.3; XML Schema
-- Part 2, sections 3.3.4 and 3.3.5).
use Rattle.std.specs.Prelude.{◌≡◌, ℕ, Bool, true, false, not, ◌&&◌, ◌||◌, List, Some, None, codes, is_some}
use Rattle.std.specs.Str.{bytes_eq}
use Rattle.rdf_core.specs.Vocabulary.{xsd, xsd_double}
use Rattle.rdf_core.specs.declared.term.Term.{Term}
use Rattle.rdf_core.specs.declared.term.Term.TheVariants.{Blank, Iri, Literal}
use Rattle.algebra_model.specs.BooleanValue.{ebv}
use Rattle.algebra_model.specs.Comparison.{is_literal, value_of}
use Rattle.algebra_model.specs.LiteralValue.{LiteralValue, other}
use Rattle.expression_errors.specs.declared.cause.Kind.{Kind}
use Rattle.expression_errors.specs.declared.cause.Kind.TheVariants as kind
use Rattle.expression_errors.specs.declared.cause.TermClass.{TermClass}

-- the datatype IRI of numbers in single precision
abbrev pub xsd_float : List ℕ
xsd_float = xsd (codes "float")

-- xsd:double or xsd:float
abbrev pub is_float_type : List ℕ → Bool
is_float_type datatype = bytes_eq datatype xsd_double || bytes_eq datatype xsd_float

-- a literal of xsd:double or xsd:float, also an ill-typed one
abbrev pub is_float : Term → Bool
is_float (Blank label) = false
is_float (Iri text) = false
is_float (Literal form datatype None) = is_float_type datatype
is_float (Literal form datatype (Some tag)) = false

-- a literal with a language tag
abbrev pub has_tag : Term → Bool
has_tag (Blank label) = false
has_tag (Iri text) = false
has_tag (Literal form datatype tag) = is_some tag

abbrev pub has_no_value : LiteralValue → Bool
has_no_value other = true
has_no_value _ = false

-- an ill-typed number or boolean: an effective boolean value exists for its datatype, and the literal
-- has no value
abbrev pub is_ill_typed : Term → Bool
is_ill_typed term = is_some (ebv term) && has_no_value (value_of term)

abbrev pub is_name_kind : Kind → Bool
is_name_kind kind.Name = true
is_name_kind _ = false

abbrev pub is_tagged_kind : Kind → Bool
is_tagged_kind kind.Tagged = true
is_tagged_kind _ = false

abbrev pub is_float_kind : Kind → Bool
is_float_kind kind.Float = true
is_float_kind _ = false

abbrev pub is_ill_formed_kind : Kind → Bool
is_ill_formed_kind kind.IllFormed = true
is_ill_formed_kind _ = false

-- The kind of a term says whether the term is a literal, has a language tag, is a float, or is ill-typed.
pub record IsKindOf (kind : Kind) (term : Term) : Type 0 where
  pub literal : not (is_name_kind kind) ≡ is_literal term
  pub tag : is_tagged_kind kind ≡ has_tag term
  pub float : is_float_kind kind ≡ is_float term
  pub ill_typed : is_ill_formed_kind kind ≡ true → is_ill_typed term ≡ true

-- the class of a term: what it says of its kind
abbrev pub IsClassOf : TermClass → Term → Type 0
IsClassOf class term = IsKindOf class.kind term
