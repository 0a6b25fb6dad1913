-- Texts that are UTF-8 (RFC 3629).
use Rattle.std.specs.Prelude.{⊤, IsUtf8, Option, Some, None}
use Rattle.rdf_core.specs.declared.term.Term.{Term}
use Rattle.rdf_core.specs.declared.term.Term.TheVariants.{Blank, Iri, Literal}

-- the label, the IRI, or the lexical form, the datatype and the tag of the term are UTF-8
abbrev pub HasUtf8 : Option Term → Type 0
HasUtf8 None = ⊤
HasUtf8 (Some (Blank label)) = IsUtf8 label
HasUtf8 (Some (Iri text)) = IsUtf8 text
HasUtf8 (Some (Literal lexical datatype None)) = IsUtf8 lexical × IsUtf8 datatype
HasUtf8 (Some (Literal lexical datatype (Some tag))) = IsUtf8 lexical × IsUtf8 datatype × IsUtf8 tag
