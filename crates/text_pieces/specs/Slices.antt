-- Slices of a piece, and the numbers of the terms that they denote. The numbers are places in the list of the texts of
-- the dictionary and, after them, the texts that are new in the piece. Only private clauses use these definitions.
use Rattle.std.specs.Prelude.{◌≡◌, ℕ, ◌<◌, true, List, ◌++◌, Option, length, slice_get, Some}
use Rattle.std.specs.Borrow.{Bor}
use Rattle.indexmap.specs.IndexSet.{insert_key, insert_all}
use Rattle.rdf_core.specs.declared.term.Term.{Term}
use Rattle.rdf_core.specs.QuadParts.{QuadParts}
use Rattle.rdf_core.specs.QuadFacts.{is_node}
use Rattle.rdf_core.specs.Equality.{term_eq}
use Rattle.nquads_core.specs.Slices.{Denotes}
use Rattle.nquads_core.specs.Splitting.{DenotesQuad, DenoteAll}
use Rattle.nquads_core.specs.declared.slices.RawStatement.{RawStatement}
use Rattle.dict_core.specs.declared.num_quad.NumQuad.{NumQuad}
use Rattle.dict_core.specs.NumQuad.{quad_at, IsBelow}
use Rattle.dict_core.specs.Dict.{AreNumbersOf}
use Rattle.dict_core.specs.Appearances.{terms_of_quad}
use Rattle.text_dict.specs.TextDict.{IsAdded}
use Rattle.text_pieces.specs.Forms.{AreFormsOf}
use Rattle.text_pieces.specs.declared.text_piece.TextPiece.{TextPiece}
use Rattle.text_pieces.specs.Pieces.{AreGrown, IsNumberedFrom, IsPieceOf}

-- the slice denotes a term that P holds of; the term was inserted, and this is its number
pub record IsTermNumber (P : Term → Type 0) (old new : List Term) (raw : List ℕ) (n : ℕ) : Type 0 where
  pub term : Term
  pub denotes : Denotes raw term
  pub allowed : P term
  pub at : slice_get new n ≡ Some term
  pub grown : new ≡ insert_key term_eq old term

-- the terms of a quad that the statement denotes were inserted, and these are their numbers
pub record IsQuadNumber (old new : List Term) (raw : RawStatement) (n : NumQuad) : Type 0 where
  pub quad : QuadParts
  pub denotes : DenotesQuad raw quad
  pub grown : new ≡ insert_all term_eq old (terms_of_quad quad)
  pub below : IsBelow (length new) n
  pub reads : quad_at new n ≡ quad

-- the statements denote quads, which are numbered
pub record AreNumberedStatements (dict : List Term) (raws : List RawStatement) (all : List Term) (numbers : List NumQuad) : Type 0 where
  pub quads : List QuadParts
  pub denote : DenoteAll raws quads
  pub numbered : IsNumberedFrom dict quads all numbers

-- the statements denote quads, which are numbered in the piece
pub record IsNumberedPiece (dict : List (List ℕ)) (raws : List RawStatement) (piece : TextPiece) : Type 0 where
  pub quads : List QuadParts
  pub denote : DenoteAll raws quads
  pub numbered : IsPieceOf dict quads piece

-- the text has this number, after the texts of the dictionary and the new ones grew by it
pub record IsPlaced (dict old new : List (List ℕ)) (text : List ℕ) (n : ℕ) : Type 0 where
  pub at : slice_get (dict ++ new) n ≡ Some text
  pub added : IsAdded (dict ++ old) text (dict ++ new)

-- the slice denotes a term that P holds of, and this is its number
pub record IsNumberOf (P : Term → Type 0) (dict old new : List (List ℕ)) (raw : List ℕ) (n : ℕ) : Type 0 where
  pub within : n < length (dict ++ new)
  pub grown : AreGrown (dict ++ old) (dict ++ new)
  pub terms : (earlier : List Term) → AreFormsOf earlier (dict ++ old)
      → (later : List Term) × AreFormsOf later (dict ++ new) × IsTermNumber P earlier later raw n

-- the slice denotes a term that P holds of, which has this number among these terms
pub record IsNumbered (P : Term → Type 0) (terms : List Term) (raw : List ℕ) (n : ℕ) : Type 0 where
  pub term : Term
  pub denotes : Denotes raw term
  pub allowed : P term
  pub at : slice_get terms n ≡ Some term

-- the same, of the terms of these texts
pub record IsKnown (P : Term → Type 0) (dict new : List (List ℕ)) (raw : List ℕ) (n : ℕ) : Type 0 where
  pub within : n < length (dict ++ new)
  pub terms : (all : List Term) → AreFormsOf all (dict ++ new) → IsNumbered P all raw n

-- the slice of a subject or graph name has this number
abbrev pub IsKnownNode : List (List ℕ) → List (List ℕ) → List ℕ → ℕ → Type 0
IsKnownNode dict new raw n = IsKnown (λ t. is_node t ≡ true) dict new raw n

-- the same of the graph label, if there is one
abbrev pub IsKnownName : List (List ℕ) → List (List ℕ) → Option (Bor (List ℕ)) → ℕ → Type 0
IsKnownName dict new graph n = (name : Bor (List ℕ)) → graph ≡ Some name → IsKnownNode dict new name.now n

-- the statement denotes a quad, and these are its numbers
abbrev pub AreNumbersOfQuad : List (List ℕ) → List (List ℕ) → List (List ℕ) → RawStatement → NumQuad → Type 0
AreNumbersOfQuad dict old new raw n =
    (earlier : List Term) → AreFormsOf earlier (dict ++ old)
    → (later : List Term) × AreFormsOf later (dict ++ new) × IsQuadNumber earlier later raw n

-- the statements denote quads, and these are their numbers
abbrev pub AreNumbersOfAll : List (List ℕ) → List (List ℕ) → List RawStatement → List NumQuad → Type 0
AreNumbersOfAll dict new raws numbers =
    (terms : List Term) → AreFormsOf terms dict
    → (all : List Term) × AreFormsOf all (dict ++ new) × AreNumberedStatements terms raws all numbers

-- the quads are numbered by the texts of the dictionary and, after them, the new ones
abbrev pub AreQuadsOf : List (List ℕ) → List (List ℕ) → List QuadParts → List NumQuad → Type 0
AreQuadsOf dict new quads numbers =
    (terms : List Term) → AreFormsOf terms dict
    → (all : List Term) × AreFormsOf all (dict ++ new) × IsNumberedFrom terms quads all numbers

-- the terms were inserted, and these are their numbers
abbrev pub AreTermNumbers : List (List ℕ) → List (List ℕ) → List Term → List ℕ → Type 0
AreTermNumbers dict new terms numbers =
    (earlier : List Term) → AreFormsOf earlier dict
    → (all : List Term) × AreFormsOf all (dict ++ new) × (all ≡ insert_all term_eq earlier terms) × AreNumbersOf all terms numbers
