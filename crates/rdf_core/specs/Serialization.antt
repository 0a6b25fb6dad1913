-- The N-Quads form of a term (RDF 1.1 N-Quads, section 4). A blank node is `_:` and its label. An
-- IRI is in angle brackets. A literal is in double quotes; its tag follows, or its datatype if that
-- is not xsd:string. In a literal only the quote, the backslash, LF and CR are escaped. (Which
-- characters are escaped is a choice of this project, not fixed by the standard.)
use Rattle.std.specs.Prelude.{ℕ, List, [], ◌∷◌, ◌++◌, ◌==◌, if◌then◌else◌, Option, Some, None, codes}
use Rattle.std.specs.List.{flat_map}
use Rattle.std.specs.Str.{bytes_eq}
use Rattle.rdf_core.specs.Vocabulary.{xsd_string}
use Rattle.rdf_core.specs.declared.term.Term.{Term}
use Rattle.rdf_core.specs.declared.term.Term.TheVariants.{Blank, Iri, Literal}

-- the double quote, #x22
abbrev pub quote : ℕ
quote = 34

-- the backslash, #x5C
abbrev pub backslash : ℕ
backslash = 92

-- one byte of a literal
abbrev pub escaped : ℕ → List ℕ
escaped b =
    if b == 34 then codes "\\\"" else if b == 92 then codes "\\\\"
    else if b == 10 then codes "\\n" else if b == 13 then codes "\\r" else b ∷ []

-- the text after the closing quote
abbrev pub suffix : List ℕ → Option (List ℕ) → List ℕ
suffix datatype (Some tag) = codes "@" ++ tag
suffix datatype None =
    if bytes_eq datatype xsd_string then [] else codes "^^<" ++ (datatype ++ codes ">")

-- the N-Quads form of the term
abbrev pub serialization : Term → List ℕ
serialization (Blank label) = codes "_:" ++ label
serialization (Iri text) = codes "<" ++ (text ++ codes ">")
serialization (Literal lexical datatype tag) =
    codes "\"" ++ (flat_map escaped lexical ++ (codes "\"" ++ suffix datatype tag))
