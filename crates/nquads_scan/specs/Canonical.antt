-- The canonical text of a term is its N-Quads form. (That this form is the canonical one is a choice of this
-- project, not of the standard.)
use Rattle.std.specs.Prelude.{◌≡◌, ℕ, List, ◌++◌, Option, Some, None}
use Rattle.rdf_core.specs.declared.term.Term.{Term}
use Rattle.rdf_core.specs.Serialization.{serialization}
use Rattle.nquads_core.specs.Slices.{Denotes}
use Rattle.nquads_scan.specs.declared.canonical_text.Form.{Form}
use Rattle.nquads_scan.specs.declared.canonical_text.Form.TheVariants.{Same, Other}

-- the slice denotes a term, whose canonical text is this
pub record HasForm (raw text : List ℕ) : Type 0 where
  pub term : Term
  pub denotes : Denotes raw term
  pub form : text ≡ serialization term

-- What was found of a slice, given the bytes before and after: it is its own canonical text, or this text was
-- appended, or nothing was found.
abbrev pub IsFound : List ℕ → List ℕ → List ℕ → Option Form → Type 0
IsFound raw old new (Some Same) = HasForm raw raw × (new ≡ old)
IsFound raw old new (Some Other) = (text : List ℕ) × HasForm raw text × (new ≡ old ++ text)
IsFound raw old new None = new ≡ old

-- Nothing is found only of a slice that denotes no term.
abbrev pub IsComplete : List ℕ → Option Form → Type 0
IsComplete raw (Some form) = Unit {0}
IsComplete raw None = (t : Term) → Denotes raw t → ⊥
