-- Terms, and the texts that stand for them: the N-Quads form of a term identifies it (nquads_core, the law
-- `forms_identify_terms`).
use Rattle.std.specs.Prelude.{◌≡◌, ℕ, List, map}
use Rattle.std.specs.List.{All}
use Rattle.rdf_core.specs.declared.term.Term.{Term}
use Rattle.rdf_core.specs.QuadParts.{QuadParts}
use Rattle.rdf_core.specs.Serialization.{serialization}
use Rattle.nquads_core.specs.Laws.{IsNQuadsTerm}
use Rattle.dict_core.specs.declared.num_quad.NumQuad.{NumQuad}
use Rattle.dict_core.specs.Numbered.{IsNumbered}

-- the texts are the N-Quads forms of these terms, and each of the terms occurs in some line
pub record AreFormsOf (terms : List Term) (texts : List (List ℕ)) : Type 0 where
  pub forms : texts ≡ map serialization terms
  pub occur : All IsNQuadsTerm terms

-- the texts are the N-Quads forms of the terms of a dictionary that numbers the quads
pub record AreNumberedBy (quads : List QuadParts) (texts : List (List ℕ)) (numbers : List NumQuad) : Type 0 where
  pub terms : List Term
  pub forms : AreFormsOf terms texts
  pub numbered : IsNumbered quads terms numbers

-- the term has this N-Quads form, and occurs in some line
pub record IsTermOf (text : List ℕ) (term : Term) : Type 0 where
  pub form : text ≡ serialization term
  pub occurs : IsNQuadsTerm term
