-- The terms of a dictionary of texts, read in parts. Only private clauses use these definitions.
use Rattle.std.specs.Prelude.{◌≡◌, ℕ, suc, ◌+◌, ◌*◌, List, [], ◌∷◌, length, take, drop}
use Rattle.rdf_core.specs.declared.term.Term.{Term}
use Rattle.dict_core.specs.Appearances.{first_appearances}
use Rattle.text_pieces.specs.Forms.{AreFormsOf}

-- the number of terms of a part: 2^12
abbrev pub terms_of_a_part : ℕ
terms_of_a_part = 4096

-- the dictionary has the terms of part i
abbrev pub IsTermPart : List (List ℕ) → ℕ → List Term → Type 0
IsTermPart texts i dict =
    (terms : List Term) → AreFormsOf terms texts → dict ≡ first_appearances (take terms_of_a_part (drop (i * terms_of_a_part) terms))

-- the dictionaries have the terms of part i and the parts after it
abbrev pub AreTermParts : List Term → ℕ → List (List Term) → Type 0
AreTermParts terms i [] = Unit {0}
AreTermParts terms i (dict ∷ dicts) =
    (dict ≡ first_appearances (take terms_of_a_part (drop (i * terms_of_a_part) terms))) × AreTermParts terms (suc i) dicts

-- the dictionary has the terms of the parts before one, and these are that part and those after it, up to the end
pub record AreJoined (terms dict : List Term) (left : List (List Term)) (end : ℕ) : Type 0 where
  pub at : ℕ
  pub first : dict ≡ first_appearances (take (at * terms_of_a_part) terms)
  pub later : AreTermParts terms at left
  pub ends : at + length left ≡ end
