-- A piece of a document, whose quads are numbered against a dictionary.
use Rattle.std.specs.Prelude.{◌≡◌, ℕ, ◌-◌, List, ◌++◌, length, get_or, if◌then◌else◌, nat_lt}
use Rattle.std.specs.Option.{option_map}
use Rattle.indexmap.specs.IndexSet.{insert_all}
use Rattle.rdf_core.specs.declared.term.Term.{Term}
use Rattle.rdf_core.specs.QuadParts.{QuadParts}
use Rattle.rdf_core.specs.Equality.{term_eq}
use Rattle.nquads_core.specs.Lines.{lines}
use Rattle.nquads_core.specs.Pieces.{HaveStatements}
use Rattle.dict_core.specs.declared.num_quad.NumQuad.{NumQuad}
use Rattle.dict_core.specs.NumQuad.{quads_at, AreBelow}
use Rattle.dict_core.specs.Dict.{AreNumbersOf}
use Rattle.dict_core.specs.Appearances.{terms_of}
use Rattle.quad_filter.specs.declared.filter.QuadFilter.{QuadFilter}
use Rattle.quad_filter.specs.Filter.{keeps}
use Rattle.quad_filter.specs.Kept.{IsKept}
use Rattle.text_pieces.specs.declared.text_piece.TextPiece.{TextPiece}
use Rattle.text_pieces.specs.Forms.{AreFormsOf}

-- the terms are those of the dictionary and, after them, those of the quads that it lacks, by first appearance;
-- each number is that of one of them; and the numbered quads, read through them, are the quads, in order
pub record IsNumberedFrom (dict : List Term) (quads : List QuadParts) (all : List Term) (numbered : List NumQuad) : Type 0 where
  pub terms : all ≡ insert_all term_eq dict (terms_of quads)
  pub below : AreBelow (length all) numbered
  pub reads : quads_at all numbered ≡ quads

-- the quads are those of the piece, numbered against a dictionary with these texts
pub record IsPieceOf (dict : List (List ℕ)) (quads : List QuadParts) (piece : TextPiece) : Type 0 where
  pub base : piece.base ≡ length dict
  pub numbered : (terms : List Term) → AreFormsOf terms dict
      → (all : List Term) × AreFormsOf all (dict ++ piece.new.texts) × IsNumberedFrom terms quads all piece.quads.items

-- The lines of the bytes are valid. Those of their quads that the filter keeps, and perhaps others of them, are numbered
-- against the dictionary. The lines are counted.
pub record IsRead (filter : QuadFilter) (dict : List (List ℕ)) (bytes : List ℕ) (piece : TextPiece) : Type 0 where
  pub all : List QuadParts
  pub statements : HaveStatements (lines bytes) all
  pub quads : List QuadParts
  pub kept : IsKept (keeps filter) all quads
  pub numbered : IsPieceOf dict quads piece
  pub count : piece.lines ≡ length (lines bytes)

-- a number of the dictionary, or the number of the text that was new
abbrev pub renumbered : ℕ → List ℕ → ℕ → ℕ
renumbered base numbers n = if nat_lt n base then n else get_or numbers (n - base) 0

-- the quad with these numbers
abbrev pub renumbered_quad : ℕ → List ℕ → NumQuad → NumQuad
renumbered_quad base numbers q = record {
  g = option_map (renumbered base numbers) q.g;
  s = renumbered base numbers q.s;
  p = renumbered base numbers q.p;
  o = renumbered base numbers q.o;
}

-- the later list is the earlier one with more texts after it
abbrev pub AreGrown : List (List ℕ) → List (List ℕ) → Type 0
AreGrown earlier later = (more : List (List ℕ)) × (later ≡ earlier ++ more)

-- Only private clauses use this definition: the terms of the new texts were inserted, and these are their numbers.
abbrev pub AreAdded : List (List ℕ) → List (List ℕ) → List (List ℕ) → List ℕ → Type 0
AreAdded earlier new later numbers =
    (old terms : List Term) → AreFormsOf old earlier → AreFormsOf terms new
    → let all = insert_all term_eq old terms in AreFormsOf all later × AreNumbersOf all terms numbers
