-- Literals with a language tag (RDF 1.1 Concepts, section 3.3).
use Rattle.std.specs.Prelude.{◌≡◌, ⊤, Option, Some}
use Rattle.rdf_core.specs.Vocabulary.{rdf_lang_string}
use Rattle.rdf_core.specs.declared.term.Term.{Term}
use Rattle.rdf_core.specs.declared.term.Term.TheVariants.{Literal}

-- a literal with a language tag has the datatype rdf:langString
abbrev pub HasTagType : Option Term → Type 0
HasTagType (Some (Literal lexical datatype (Some tag))) = datatype ≡ rdf_lang_string
HasTagType _ = ⊤
