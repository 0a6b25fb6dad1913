-- Effective boolean values, and logic with errors (SPARQL 1.1 Query Language, sections 17.2 and
-- 17.2.2). `None` is an error.
use Rattle.std.specs.Prelude.{ℕ, Bool, true, false, not, ◌||◌, List, [], ◌∷◌, Option, Some, None, if◌then◌else◌}
use Rattle.std.specs.Str.{bytes_eq}
use Rattle.rdf_core.specs.Vocabulary.{xsd_boolean}
use Rattle.rdf_core.specs.declared.term.Term.{Term}
use Rattle.rdf_core.specs.declared.term.Term.TheVariants.{Blank, Iri, Literal}
use Rattle.algebra_model.specs.Number.{is_zero}
use Rattle.algebra_model.specs.LiteralValue.{LiteralValue, number, boolean, string, other, literal_value, is_number_type}

-- a string is true if it is not empty
abbrev pub has_characters : List ℕ → Bool
has_characters [] = false
has_characters (c ∷ cs) = true

-- the effective boolean value (section 17.2.2): an ill-typed boolean or number is false; every
-- remaining value is an error, also one of xsd:float or xsd:double
abbrev pub value_ebv : LiteralValue → List ℕ → Option Bool
value_ebv (boolean b) datatype = Some b
value_ebv (string form) datatype = Some (has_characters form)
value_ebv (number x) datatype = Some (not (is_zero x))
value_ebv other datatype =
    if bytes_eq datatype xsd_boolean || is_number_type datatype then Some false else None

-- the effective boolean value of a term; IRIs and blank nodes have none
abbrev pub ebv : Term → Option Bool
ebv (Blank label) = None
ebv (Iri text) = None
ebv (Literal form datatype None) = value_ebv (literal_value form datatype) datatype
ebv (Literal form datatype (Some tag)) = Some (has_characters form)

-- `&&` with errors, as the table of section 17.2 has it
abbrev pub logical_and : Option Bool → Option Bool → Option Bool
logical_and (Some true) (Some true) = Some true
logical_and (Some true) (Some false) = Some false
logical_and (Some false) (Some true) = Some false
logical_and (Some false) (Some false) = Some false
logical_and (Some true) None = None
logical_and None (Some true) = None
logical_and (Some false) None = Some false
logical_and None (Some false) = Some false
logical_and None None = None

-- `||` with errors, as the table of section 17.2 has it
abbrev pub logical_or : Option Bool → Option Bool → Option Bool
logical_or (Some true) (Some true) = Some true
logical_or (Some true) (Some false) = Some true
logical_or (Some false) (Some true) = Some true
logical_or (Some false) (Some false) = Some false
logical_or (Some true) None = Some true
logical_or None (Some true) = Some true
logical_or (Some false) None = None
logical_or None (Some false) = None
logical_or None None = None

-- `!` with errors (section 17.3, fn:not)
abbrev pub logical_not : Option Bool → Option Bool
logical_not (Some true) = Some false
logical_not (Some false) = Some true
logical_not None = None
