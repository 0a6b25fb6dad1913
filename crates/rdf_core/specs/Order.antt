-- The order of terms: blank nodes, then IRIs, then literals. Blank nodes are ordered by the UTF-8
-- bytes of their labels, and IRIs by those of their texts. Literals are ordered by lexical form,
-- then datatype, then tag; no tag is before any tag. (A choice of this project, not fixed by the
-- standard.)
use Rattle.std.specs.Prelude.{ℕ, List, Option, Some, None}
use Rattle.std.specs.Ordering.{nat_cmp, ordering_then}
use Rattle.std.specs.Cmp.Lexicographic.{slice_cmp}
use Rattle.std.specs.declared.cmp.Ordering.{Ordering}
use Rattle.std.specs.declared.cmp.Ordering.TheVariants.{Less, Equal, Greater}
use Rattle.rdf_core.specs.declared.term.Term.{Term}
use Rattle.rdf_core.specs.declared.term.Term.TheVariants.{Blank, Iri, Literal}

-- bytes by value, and a prefix before the longer text
abbrev pub bytes_cmp : List ℕ → List ℕ → Ordering
bytes_cmp = slice_cmp nat_cmp

-- language tags: no tag is before any tag
abbrev pub tag_cmp : Option (List ℕ) → Option (List ℕ) → Ordering
tag_cmp None None = Equal
tag_cmp None (Some b) = Less
tag_cmp (Some a) None = Greater
tag_cmp (Some a) (Some b) = bytes_cmp a b

-- terms by kind, then part by part
abbrev pub term_cmp : Term → Term → Ordering
term_cmp (Blank a) (Blank b) = bytes_cmp a b
term_cmp (Blank a) (Iri b) = Less
term_cmp (Blank a) (Literal b d t) = Less
term_cmp (Iri a) (Blank b) = Greater
term_cmp (Iri a) (Iri b) = bytes_cmp a b
term_cmp (Iri a) (Literal b d t) = Less
term_cmp (Literal a d t) (Blank b) = Greater
term_cmp (Literal a d t) (Iri b) = Greater
term_cmp (Literal a d t) (Literal b e u) =
    ordering_then (bytes_cmp a b) (ordering_then (bytes_cmp d e) (tag_cmp t u))
