-- Statements that may be left out of a piece, by their slices. Only private clauses use these definitions.
use Rattle.std.specs.Prelude.{◌≡◌, ℕ, true, false, List, Option, IfSome}
use Rattle.std.specs.Borrow.{Bor}
use Rattle.rdf_core.specs.declared.term.Term.{Term}
use Rattle.rdf_core.specs.QuadFacts.{is_node}
use Rattle.rdf_core.specs.QuadParts.{QuadParts}
use Rattle.rdf_core.specs.Serialization.{serialization}
use Rattle.nquads_core.specs.Slices.{Denotes}
use Rattle.nquads_core.specs.Splitting.{DenotesQuad, DenoteAll}
use Rattle.nquads_core.specs.declared.slices.RawStatement.{RawStatement}
use Rattle.quad_filter.specs.declared.filter.QuadFilter.{QuadFilter}
use Rattle.quad_filter.specs.Filter.{keeps}
use Rattle.quad_filter.specs.Kept.{IsKept}
use Rattle.quad_filter.specs.Slices.{HasSlices}

-- the slice is the N-Quads form of a term that P holds of, and denotes this term
pub record IsFormOf (P : Term → Type 0) (raw : List ℕ) : Type 0 where
  pub term : Term
  pub denotes : Denotes raw term
  pub form : raw ≡ serialization term
  pub allowed : P term

-- the slice is that of an IRI or a blank node
abbrev pub IsNodeForm : List ℕ → Type 0
IsNodeForm raw = IsFormOf (λ t. is_node t ≡ true) raw

-- so is the slice, if there is one
abbrev pub IsNodeFormIfAny : Option (Bor (List ℕ)) → Type 0
IsNodeFormIfAny slice = IfSome slice (λ (raw : Bor (List ℕ)). IsNodeForm raw.now)

-- the statement denotes a quad, and its slices are the N-Quads forms of the terms
pub record IsInForm (raw : RawStatement) : Type 0 where
  pub quad : QuadParts
  pub denotes : DenotesQuad raw quad
  pub slices : HasSlices raw quad

-- the same, and the filter does not keep the quad
pub record IsUnneeded (filter : QuadFilter) (raw : RawStatement) : Type 0 where
  pub valid : IsInForm raw
  pub unneeded : keeps filter valid.quad ≡ false

-- If the kept statements denote quads, then so do all statements, and these are the quads that the filter keeps, and
-- perhaps others.
abbrev pub AreRelevant : QuadFilter → List RawStatement → List RawStatement → Type 0
AreRelevant filter raws kept =
    (quads : List QuadParts) → DenoteAll kept quads
    → (all : List QuadParts) × DenoteAll raws all × IsKept (keeps filter) all quads
