-- The IRIs of RDF and XML Schema that the definitions name (RDF 1.1 Concepts, section 5).
use Rattle.std.specs.Prelude.{ℕ, List, ◌++◌, codes}

-- the IRI of this name in the namespace of XML Schema
abbrev pub xsd : List ℕ → List ℕ
xsd name = codes "http://www.w3.org/2001/XMLSchema#" ++ name

-- the datatype IRI of simple literals (section 3.3)
abbrev pub xsd_string : List ℕ
xsd_string = codes "http://www.w3.org/2001/XMLSchema#string"

-- the datatype IRI of `true` and `false` in SPARQL
abbrev pub xsd_boolean : List ℕ
xsd_boolean = codes "http://www.w3.org/2001/XMLSchema#boolean"

-- the datatype IRI of [146] INTEGER in SPARQL
abbrev pub xsd_integer : List ℕ
xsd_integer = codes "http://www.w3.org/2001/XMLSchema#integer"

-- the datatype IRI of [147] DECIMAL in SPARQL
abbrev pub xsd_decimal : List ℕ
xsd_decimal = codes "http://www.w3.org/2001/XMLSchema#decimal"

-- the datatype IRI of [148] DOUBLE in SPARQL
abbrev pub xsd_double : List ℕ
xsd_double = codes "http://www.w3.org/2001/XMLSchema#double"

-- the datatype IRI of literals with a language tag (section 3.3)
abbrev pub rdf_lang_string : List ℕ
rdf_lang_string = codes "http://www.w3.org/1999/02/22-rdf-syntax-ns#langString"

-- the IRI that `a` abbreviates in SPARQL (SPARQL 1.1 Query Language, section 4.2.4)
abbrev pub rdf_type : List ℕ
rdf_type = codes "http://www.w3.org/1999/02/22-rdf-syntax-ns#type"
