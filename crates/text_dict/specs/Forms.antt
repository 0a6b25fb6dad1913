-- Texts that are N-Quads forms of terms.
use Rattle.std.specs.Prelude.{◌≡◌, ℕ, List, [], ◌∷◌}
use Rattle.rdf_core.specs.declared.term.Term.{Term}
use Rattle.rdf_core.specs.Serialization.{serialization}
use Rattle.nquads_core.specs.Laws.{IsNQuadsTerm}

-- the text is the N-Quads form of a term that occurs in some line
pub record IsForm (text : List ℕ) : Type 0 where
  pub term : Term
  pub occurs : IsNQuadsTerm term
  pub form : text ≡ serialization term

-- so is each of the texts
abbrev pub AreForms : List (List ℕ) → Type 0
AreForms [] = Unit {0}
AreForms (text ∷ texts) = IsForm text × AreForms texts
