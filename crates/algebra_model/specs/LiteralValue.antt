-- The value of a literal without a language tag, by its datatype and lexical form (SPARQL 1.1 Query
-- Language, sections 17.1 and 17.2; XML Schema Part 2, sections 3.2 to 3.4).
use Rattle.std.specs.Prelude.{ℕ, Bool, true, false, List, [], ◌∷◌, ◌||◌, Option, Some, None, if◌then◌else◌, codes}
use Rattle.std.specs.List.{list_any}
use Rattle.std.specs.Str.{bytes_eq}
use Rattle.rdf_core.specs.Vocabulary.{xsd, xsd_string, xsd_boolean, xsd_decimal}
use Rattle.algebra_model.specs.Number.{Number, decimal_number, integer_number}

-- the values that comparisons and effective boolean values distinguish
pub data LiteralValue : Type 0 where
  number : Number → LiteralValue
  boolean : Bool → LiteralValue
  string : List ℕ → LiteralValue
  -- any other value, also that of an ill-typed number or boolean
  other : LiteralValue

-- xsd:integer and the types derived from it
abbrev pub integer_types : List (List ℕ)
integer_types =
    xsd (codes "integer") ∷ xsd (codes "nonPositiveInteger") ∷ xsd (codes "negativeInteger")
    ∷ xsd (codes "long") ∷ xsd (codes "int") ∷ xsd (codes "short") ∷ xsd (codes "byte")
    ∷ xsd (codes "nonNegativeInteger") ∷ xsd (codes "unsignedLong") ∷ xsd (codes "unsignedInt")
    ∷ xsd (codes "unsignedShort") ∷ xsd (codes "unsignedByte") ∷ xsd (codes "positiveInteger") ∷ []

-- xsd:integer, or derived from it
abbrev pub is_integer_type : List ℕ → Bool
is_integer_type datatype = list_any (bytes_eq datatype) integer_types

-- xsd:decimal, xsd:integer, or derived from xsd:integer
abbrev pub is_number_type : List ℕ → Bool
is_number_type datatype = bytes_eq datatype xsd_decimal || is_integer_type datatype

-- an ill-typed number has no value
abbrev pub number_or_other : Option Number → LiteralValue
number_or_other None = other
number_or_other (Some x) = number x

-- true and 1 are true, false and 0 are false
abbrev pub boolean_value : List ℕ → LiteralValue
boolean_value form =
    if bytes_eq form (codes "true") || bytes_eq form (codes "1") then boolean true
    else if bytes_eq form (codes "false") || bytes_eq form (codes "0") then boolean false
    else other

-- the value of a lexical form of this datatype
abbrev pub literal_value : List ℕ → List ℕ → LiteralValue
literal_value form datatype =
    if bytes_eq datatype xsd_string then string form
    else if bytes_eq datatype xsd_boolean then boolean_value form
    else if bytes_eq datatype xsd_decimal then number_or_other (decimal_number form)
    else if is_integer_type datatype then number_or_other (integer_number form)
    else other
