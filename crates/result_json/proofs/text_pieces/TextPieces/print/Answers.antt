use Rattle.std.proofs.Common.{◌≡◌, ℕ, ◌*◌, ◌<◌, List, length, take, drop, refl, sym, ap, ◌∙◌, subst}
use Rattle.std.specs.Int.{div_ceil}
use Rattle.std.specs.List.{slice_index_or}
use Rattle.std.proofs.lemmas.List.{length-map, take-map}
use Rattle.rdf_core.specs.declared.term.Term.{Term}
use Rattle.row_pieces.specs.Pieces.{piece_of}
use Rattle.row_pieces.proofs.PieceLaws.{enough}
use Rattle.result_json.specs.Ranks.{Entry, terms_of}
use Rattle.result_json.specs.Texts.{ArePieces}
use Rattle.result_json.proofs.SliceLaws.{drop-map}
use Rattle.result_json.proofs.text_pieces.TextPieces.print.Goals as goal

-- this number of pieces holds all terms
are_pieces : (size count number : ℕ) (entries : List Entry) (pieces : List (List Term)) → 0 < size → count ≡ length entries → number ≡ div_ceil count size → length pieces ≡ number
    → ((i : ℕ) (d : List Term) → i < number → slice_index_or pieces i d ≡ terms_of (piece_of size i entries))
    → ArePieces size (terms_of entries) pieces
are_pieces size count number entries pieces some c n b each = (some, enough count (length (terms_of entries)) size number (length pieces) some (sym wide) n b, λ i d low. each i d (subst (λ (x : ℕ). i < x) b low) ∙ cut i)
  where
    wide : length (terms_of entries) ≡ count
    wide = length-map entries (λ (e : Entry). e.0.now) ∙ sym c

    cut : (i : ℕ) → terms_of (piece_of size i entries) ≡ piece_of size i (terms_of entries)
    cut i = sym (take-map (λ (e : Entry). e.0.now) size (drop (i * size) entries)) ∙ ap (take size) (sym (drop-map (λ (e : Entry). e.0.now) (i * size) entries))

pub invariant_of-result : goal.invariant_of-result
invariant_of-result g c =
    let all = rw c.in-All.is at c.in_ok-pieces.ensures.outcome in
    are_pieces c.worker_piece_size-size.result (length c.args.terms.now) c.div_ceil-number.result c.args.terms.now c.in-All.pieces.items c.worker_piece_size-size.ensures.some refl c.div_ceil-number.ensures all.count all.each
