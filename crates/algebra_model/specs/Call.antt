-- Calls on one term (SPARQL 1.1 Query Language, section 17.4.2). `None` is an error.
use Rattle.std.specs.Prelude.{ℕ, Bool, true, false, List, [], Option, Some, None, codes}
use Rattle.rdf_core.specs.Vocabulary.{xsd_string, xsd_boolean}
use Rattle.rdf_core.specs.declared.term.Term.{Term}
use Rattle.rdf_core.specs.declared.term.Term.TheVariants.{Blank, Iri, Literal}

-- STR, LANG, DATATYPE, isIRI, isBlank and isLiteral
pub data Function : Type 0 where
  str : Function
  lang : Function
  datatype : Function
  is_iri : Function
  is_blank : Function
  is_literal : Function

-- a simple literal
abbrev pub string_term : List ℕ → Term
string_term form = Literal form xsd_string None

-- a literal of xsd:boolean
abbrev pub boolean_term : Bool → Term
boolean_term true = Literal (codes "true") xsd_boolean None
boolean_term false = Literal (codes "false") xsd_boolean None

-- LANG of a literal without a tag is the empty string (section 17.4.2.6)
abbrev pub tag_text : Option (List ℕ) → List ℕ
tag_text None = []
tag_text (Some tag) = tag

-- the value of the call (sections 17.4.2.1 to 17.4.2.7)
abbrev pub call_value : Function → Term → Option Term
call_value str (Literal form type tag) = Some (string_term form)
call_value str (Iri text) = Some (string_term text)
call_value str (Blank label) = None
call_value lang (Literal form type tag) = Some (string_term (tag_text tag))
call_value lang (Iri text) = None
call_value lang (Blank label) = None
call_value datatype (Literal form type tag) = Some (Iri type)
call_value datatype (Iri text) = None
call_value datatype (Blank label) = None
call_value is_iri (Literal form type tag) = Some (boolean_term false)
call_value is_iri (Iri text) = Some (boolean_term true)
call_value is_iri (Blank label) = Some (boolean_term false)
call_value is_blank (Literal form type tag) = Some (boolean_term false)
call_value is_blank (Iri text) = Some (boolean_term false)
call_value is_blank (Blank label) = Some (boolean_term true)
call_value is_literal (Literal form type tag) = Some (boolean_term true)
call_value is_literal (Iri text) = Some (boolean_term false)
call_value is_literal (Blank label) = Some (boolean_term false)
