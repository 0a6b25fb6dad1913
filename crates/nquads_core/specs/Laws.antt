-- What the laws on lines and documents say (laws of this project, not of the standard).
use Rattle.std.specs.Prelude.{◌≡◌, ◌⊎◌, ℕ, true, List, ◌++◌, Option, Some, None, codes}
use Rattle.rdf_core.specs.declared.term.Term.{Term}
use Rattle.rdf_core.specs.QuadFacts.{is_graph_name, is_iri, is_node}
use Rattle.rdf_core.specs.QuadParts.{QuadParts}
use Rattle.rdf_core.specs.declared.term.Term.TheVariants.{Iri}
use Rattle.rdf_core.specs.Serialization.{serialization}
use Rattle.nquads_core.specs.Grammar.{HasStatement}
use Rattle.nquads_core.specs.Lines.{lines, EndsLine}
use Rattle.nquads_core.specs.Slices.{Denotes}

-- a line has at most one meaning
abbrev pub OneMeaning : Type 0
OneMeaning = (line : List ℕ) (q r : Option QuadParts) → HasStatement line q → HasStatement line r → q ≡ r

-- the lines of whole lines, and then those of what follows, are the lines of both together
abbrev pub LinesJoin : Type 0
LinesJoin = (a b : List ℕ) → EndsLine a → lines (a ++ b) ≡ lines a ++ lines b

-- the term is one of the four of the quad
abbrev pub Occurs : Term → QuadParts → Type 0
Occurs t q = (t ≡ q.s) ⊎ ((t ≡ q.p) ⊎ ((t ≡ q.o) ⊎ (q.g ≡ Some t)))

-- a line whose object is the N-Quads form of this term
abbrev pub object_line : Term → List ℕ
object_line t = codes "<a:> <a:> " ++ (serialization t ++ codes " .")

-- the quad of this line
abbrev pub with_object : Term → QuadParts
with_object t = record { s = Iri (codes "a:"); p = Iri (codes "a:"); o = t; g = None }

-- a term of some line round-trips through its N-Quads form
abbrev pub TermsRoundTrip : Type 0
TermsRoundTrip = (line : List ℕ) (q : QuadParts) (t : Term) → HasStatement line (Some q) → Occurs t q → HasStatement (object_line t) (Some (with_object t))

-- the term occurs in the quad of some line
abbrev pub IsNQuadsTerm : Term → Type 0
IsNQuadsTerm t = (line : List ℕ) × (q : QuadParts) × HasStatement line (Some q) × Occurs t q

-- two terms of lines with the same N-Quads form are the same term
abbrev pub FormsAreDistinct : Type 0
FormsAreDistinct = (t u : Term) → IsNQuadsTerm t → IsNQuadsTerm u → serialization t ≡ serialization u → t ≡ u

-- the N-Quads form of a term of some line denotes this term
abbrev pub FormsDenote : Type 0
FormsDenote = (t : Term) → IsNQuadsTerm t → Denotes (serialization t) t

-- a term that a slice denotes occurs in some line
abbrev pub SlicesDenoteTerms : Type 0
SlicesDenoteTerms = (raw : List ℕ) (t : Term) → Denotes raw t → IsNQuadsTerm t

-- each of the four terms occurs in the quad of some line, and each may be in its place
pub record IsNQuadsQuad (q : QuadParts) : Type 0 where
  pub subject : IsNQuadsTerm q.s
  pub predicate : IsNQuadsTerm q.p
  pub object : IsNQuadsTerm q.o
  pub graph : (t : Term) → q.g ≡ Some t → IsNQuadsTerm t
  pub is_subject : is_node q.s ≡ true
  pub is_predicate : is_iri q.p ≡ true
  pub is_graph : is_graph_name q.g ≡ true

-- the graph name, if there is one, and the dot
abbrev pub line_end : Option Term → List ℕ
line_end None = codes "."
line_end (Some t) = serialization t ++ codes " ."

-- the terms of the quad in their N-Quads form, with a space after each, and the dot
abbrev pub quad_line : QuadParts → List ℕ
quad_line q = serialization q.s ++ (codes " " ++ (serialization q.p ++ (codes " " ++ (serialization q.o ++ (codes " " ++ line_end q.g)))))

-- a quad round-trips through this line
abbrev pub QuadsRoundTrip : Type 0
QuadsRoundTrip = (q : QuadParts) → IsNQuadsQuad q → HasStatement (quad_line q) (Some q)

-- so does the quad of every line
abbrev pub LinesRoundTrip : Type 0
LinesRoundTrip = (line : List ℕ) (q : QuadParts) → HasStatement line (Some q) → HasStatement (quad_line q) (Some q)
