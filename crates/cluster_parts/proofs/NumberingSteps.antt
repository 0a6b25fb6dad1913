-- Pieces of a block, read one after the other.
use Rattle.std.proofs.Common.{◌≡◌, ℕ, zero, suc, ◌+◌, ◌<◌, ◌≤◌, Bool, true, false, cond, eqb, List, [], ◌∷◌, ◌++◌, length, get_or, take, drop, Option, refl, sym, ap, ◌∙◌, subst, inr, append-nil, length-append, arith}
use Rattle.std.specs.List.{flat_map}
use Rattle.std.specs.Option.{unwrap_or}
use Rattle.std.proofs.lemmas.Grind.{flat_map-append}
use Rattle.std.proofs.lemmas.List.{take-append-drop, take_all, take_more}
use Rattle.std.proofs.lemmas.List.Elements.{All-nil}
use Rattle.std.proofs.lemmas.Option.{slice_get_within, unwrap_or-slice_get}
use Rattle.rdf_core.specs.QuadParts.{QuadParts}
use Rattle.nquads_core.specs.Laws.{IsNQuadsTerm}
use Rattle.nquads_core.specs.Lines.{begins_with_lf, lines, onto_first, EndsLine}
use Rattle.nquads_core.specs.Pieces.{HaveStatements, IsFirstMalformed}
use Rattle.nquads_core.proofs.LineEnds.{lines_join}
use Rattle.nquads_core.proofs.PieceLaws.{lines_nil}
use Rattle.piece_cuts.specs.Cuts.{piece_at}
use Rattle.piece_cuts.specs.Laws.{pieces_from, pieces_of, ArePiecesOf}
use Rattle.dict_core.specs.NumQuad.{IsBelow}
use Rattle.quad_filter.specs.declared.filter.QuadFilter.{QuadFilter}
use Rattle.quad_filter.specs.Filter.{keeps}
use Rattle.quad_filter.proofs.KeptLaws.{kept_joins}
use Rattle.text_pieces.specs.declared.text_piece.TextPiece.{TextPiece}
use Rattle.text_pieces.specs.Forms.{AreNumberedBy}
use Rattle.text_pieces.specs.Pieces.{AreGrown, IsPieceOf, IsRead}
use Rattle.text_pieces.proofs.AddingLaws.{grown_same}
use Rattle.cluster_parts.specs.declared.numbering.NumberedLines.{NumberedLines}
use Rattle.cluster_parts.specs.Numbered.{AreRead}
use Rattle.cluster_parts.specs.Seal.{joined_texts}
use Rattle.cluster_parts.proofs.DocumentLaws.{statements-append}

-- ---- no line is read

pub nothing_is_read : (filter : QuadFilter) (so_far : NumberedLines) → so_far.texts.texts ≡ [] → so_far.quads.items ≡ [] → so_far.lines ≡ 0 → AreRead filter so_far []
nothing_is_read filter so_far no_texts no_quads no_lines = record {
  all = [];
  statements = refl;
  quads = [];
  kept = refl;
  numbered =
      subst (λ l. AreNumberedBy [] l so_far.quads.items) (sym no_texts)
      (subst (λ l. AreNumberedBy [] [] l) (sym no_quads)
      (record { terms = []; forms = record { forms = refl; occur = All-nil IsNQuadsTerm }; numbered = (refl, All-nil (IsBelow 0), refl) }));
  count = no_lines;
}

-- ---- one more piece

pub read_more : (filter : QuadFilter) (so_far so_far' : NumberedLines) (before : List (List ℕ)) (bytes : List ℕ) (piece : TextPiece) → AreRead filter so_far before → IsRead filter so_far.texts.texts bytes piece
    → ((earlier : List (List ℕ)) (done quads : List QuadParts) → AreGrown earlier so_far.texts.texts → IsPieceOf earlier quads piece → AreNumberedBy done so_far.texts.texts so_far.quads.items → AreNumberedBy (done ++ quads) so_far'.texts.texts so_far'.quads.items)
    → so_far'.lines ≡ so_far.lines + piece.lines → AreRead filter so_far' (before ++ lines bytes)
read_more filter so_far so_far' before bytes piece was read added counted = record {
  all = was.all ++ read.all;
  statements = statements-append before (lines bytes) was.all read.all was.statements read.statements;
  quads = was.quads ++ read.quads;
  kept = kept_joins (keeps filter) was.all was.quads read.all read.quads was.kept read.kept;
  numbered = added so_far.texts.texts was.quads read.quads (grown_same so_far.texts.texts) read.numbered was.numbered;
  count = counted ∙ (λ i. was.count i + read.count i) ∙ sym (length-append before (lines bytes));
}

-- the first malformed line of what follows valid lines
malformed_after : (xs ys : List (List ℕ)) (qs : List QuadParts) (k : ℕ) → HaveStatements xs qs → IsFirstMalformed ys k → IsFirstMalformed (xs ++ ys) (length xs + k)
malformed_after [] ys qs k a b = let e : k ≡ 0 + k = omega arith in subst (IsFirstMalformed ys) e b
malformed_after (x ∷ xs) ys qs k a b =
    let e : suc (length xs + k) ≡ suc (length xs) + k = omega arith in
    subst (IsFirstMalformed (x ∷ (xs ++ ys))) e ((a.0, a.2), malformed_after xs ys a.1 k a.4 b)

pub bad_after : (filter : QuadFilter) (so_far : NumberedLines) (before ls : List (List ℕ)) (j k : ℕ) → AreRead filter so_far before → IsFirstMalformed ls j → k ≡ so_far.lines + j → IsFirstMalformed (before ++ ls) k
bad_after filter so_far before ls j k was bad at =
    let e : length before + j ≡ k = omega (arith, at, was.count) in
    subst (IsFirstMalformed (before ++ ls)) e (malformed_after before ls was.all j was.statements bad)

-- ---- how many lines there are

-- the first malformed line is one of the lines
malformed_inside : (ls : List (List ℕ)) (k : ℕ) → IsFirstMalformed ls k → k < length ls
malformed_inside [] k h = absurd h
malformed_inside (l ∷ ls) zero h = omega arith
malformed_inside (l ∷ ls) (suc k) h = let i = malformed_inside ls k h.1 in omega (arith, i)

cond_most : (t : Bool) (xs ys : List (List ℕ)) (n : ℕ) → length xs ≤ n → length ys ≤ n → length (cond t xs ys) ≤ n
cond_most true xs ys n h k = h
cond_most false xs ys n h k = k

onto_most : (b : ℕ) (ls : List (List ℕ)) (n : ℕ) → length ls ≤ n → length (onto_first b ls) ≤ n + 1
onto_most b [] n h = omega arith
onto_most b (l ∷ ls) n h = omega (arith, h)

-- a text has no more lines than bytes
pub few_lines : (text : List ℕ) → length (lines text) ≤ length text
unfolding lines
few_lines [] = omega arith
few_lines (b ∷ rest) =
    let more = lines rest in
    let n = length rest in
    let h : length more ≤ n = few_lines rest in
    let least : length more ≤ n + 1 = omega (arith, h) in
    let one : length ([] ∷ more) ≤ n + 1 = omega (arith, h) in
    let e = cond_most (eqb b 10) ([] ∷ more) _ (n + 1) one (cond_most (eqb b 13) _ (onto_first b more) (n + 1) (cond_most (begins_with_lf rest) more ([] ∷ more) (n + 1) least one) (onto_most b more n h)) in
    omega (arith, e)

-- so the number of a malformed line is less than the number of bytes
pub bad_inside : (text : List ℕ) (k : ℕ) → IsFirstMalformed (lines text) k → k < length text
bad_inside text k bad = let i = malformed_inside (lines text) k bad in let f = few_lines text in omega (arith, i, f)

-- ---- the pieces of a block

-- the lines of pieces, piece by piece
abbrev pub all_lines : List (List ℕ) → List (List ℕ)
all_lines pieces = flat_map lines pieces

-- the lines of pieces of whole lines are the lines of the pieces joined
lines_of_pieces : (ps : List (List ℕ)) → ((i : ℕ) → i + 1 < length ps → EndsLine (get_or ps i [])) → all_lines ps ≡ lines (joined_texts ps)
lines_of_pieces [] h = sym lines_nil
lines_of_pieces (p ∷ []) h = append-nil (lines p) ∙ ap lines (sym (append-nil p))
lines_of_pieces (p ∷ q ∷ ps) h =
    ap (λ ls. lines p ++ ls) (lines_of_pieces (q ∷ ps) (λ i low. h (suc i) (omega arith)))
    ∙ sym (lines_join p (joined_texts (q ∷ ps)) (h 0 (omega arith)))

-- the lines before a piece are no more than the bytes before it
room : (ps : List (List ℕ)) (i : ℕ) → i < length ps → length (all_lines (take i ps)) + length (get_or ps i []) ≤ length (joined_texts ps)
room [] i low = absurd (omega (arith, low))
room (p ∷ ps) zero low = let l = length-append p (joined_texts ps) in omega (arith, l)
room (p ∷ ps) (suc i) low =
    let rest = room ps i (omega (arith, low)) in
    let few = few_lines p in
    let l = length-append p (joined_texts ps) in
    let m = length-append (lines p) (all_lines (take i ps)) in
    omega (arith, rest, few, l, m)

-- lines that follow do not matter
bad_before : (xs ys : List (List ℕ)) (k : ℕ) → IsFirstMalformed xs k → IsFirstMalformed (xs ++ ys) k
bad_before [] ys k b = absurd b
bad_before (x ∷ xs) ys zero b = b
bad_before (x ∷ xs) ys (suc k) b = (b.0, bad_before xs ys k b.1)

module _ (doc places : List ℕ) (pieces : ArePiecesOf doc places) where
  abbrev all : List (List ℕ)
  all = pieces_of doc places

  counted : (start : ℕ) (ps : List ℕ) → length (pieces_from doc start ps) ≡ length ps + 1
  counted start [] = refl
  counted start (p ∷ ps) = let c = counted p ps in omega (arith, c)

  there : (i : ℕ) (x : List ℕ) → i < length places + 1 → x ≡ piece_at doc places i → (i < length all) × (get_or all i [] ≡ x)
  there i x low at = (
    slice_get_within all i (piece_at doc places i) (pieces.each i low),
    sym (unwrap_or-slice_get all i []) ∙ ap (λ (o : Option (List ℕ)). unwrap_or o []) (pieces.each i low) ∙ sym at,
  )

  whole : (i : ℕ) → i + 1 < length all → EndsLine (get_or all i [])
  whole i low =
      let n = counted 0 places in
      let h = there i (piece_at doc places i) (omega (arith, n, low)) refl in
      let e = pieces.whole_lines i (omega (arith, n, low)) in
      inr (e.0, h.1 ∙ e.1)

  document : all_lines all ≡ lines doc
  document = lines_of_pieces all whole ∙ ap lines pieces.joined

  -- the lines of one more piece
  pub lines_more : (i : ℕ) (x : List ℕ) → i < length places + 1 → x ≡ piece_at doc places i → all_lines (take i all) ++ lines x ≡ all_lines (take (i + 1) all)
  lines_more i x low at =
      let h = there i x low at in
      ap (λ l. all_lines (take i all) ++ l) (sym (append-nil (lines x)))
      ∙ sym (flat_map-append lines (take i all) (x ∷ []))
      ∙ ap all_lines (sym (take_more all i [] h.0 ∙ ap (λ y. take i all ++ y ∷ []) h.1))

  -- the lines of all pieces
  pub lines_of_all : (n : ℕ) → length places + 1 ≤ n → all_lines (take n all) ≡ lines doc
  lines_of_all n enough =
      let c = counted 0 places in
      ap all_lines (take_all n all (omega (arith, c, enough))) ∙ document

  -- a malformed line of a piece
  pub bad_of_all : (i : ℕ) (x : List ℕ) (k : ℕ) → i < length places + 1 → x ≡ piece_at doc places i → IsFirstMalformed (all_lines (take i all) ++ lines x) k → IsFirstMalformed (lines doc) k
  bad_of_all i x k low at bad =
      let more = take (i + 1) all in
      let rest = drop (i + 1) all in
      let both : all_lines more ++ all_lines rest ≡ lines doc =
      sym (flat_map-append lines more rest) ∙ ap all_lines (take-append-drop (i + 1) all) ∙ document in
      subst (λ ls. IsFirstMalformed ls k) both
      (bad_before (all_lines more) (all_lines rest) k (subst (λ ls. IsFirstMalformed ls k) (lines_more i x low at) bad))

  -- the lines before a piece and its bytes are no more than the bytes of all
  pub room_for : (i count : ℕ) (x : List ℕ) → i < length places + 1 → x ≡ piece_at doc places i → count ≡ length (all_lines (take i all)) → count + length x ≤ length doc
  room_for i count x low at is =
      let h = there i x low at in
      let r = room all i h.0 in
      let l = ap length h.1 in
      let j = ap length pieces.joined in
      omega (arith, r, l, j, is)
