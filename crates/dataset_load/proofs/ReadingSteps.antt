-- Rounds of pieces, one after the other.
use Rattle.std.proofs.Common.{◌≡◌, ℕ, zero, suc, ◌+◌, ◌-◌, ◌<◌, ◌≤◌, List, [], ◌∷◌, ◌++◌, length, take, drop, refl, sym, ap, ◌∙◌, subst, append_assoc, length-append, arith}
use Rattle.std.specs.List.{slice_index_or, slice_range}
use Rattle.std.proofs.Math.Seq.{take-add}
use Rattle.std.proofs.lemmas.List.{map-append, length-map, append-nil, take-append-drop, take-map, take_all}
use Rattle.std.proofs.lemmas.Grind.{flat_map-append}
use Rattle.rdf_core.specs.QuadParts.{QuadParts}
use Rattle.nquads_core.specs.Lines.{lines}
use Rattle.nquads_core.specs.Pieces.{HaveStatements, IsFirstMalformed, IsBadLine}
use Rattle.dict_core.specs.Numbered as numbering
use Rattle.text_pieces.specs.declared.text_piece.TextPiece.{TextPiece}
use Rattle.text_pieces.specs.Forms.{AreNumberedBy}
use Rattle.text_pieces.specs.Pieces.{AreGrown, IsPieceOf, IsRead}
use Rattle.quad_filter.specs.declared.filter.QuadFilter.{QuadFilter}
use Rattle.quad_filter.specs.Filter.{keeps}
use Rattle.quad_filter.specs.Kept.{IsKept}
use Rattle.quad_filter.proofs.KeptLaws.{kept_joins}
use Rattle.dict_core.specs.declared.num_quad.NumQuad.{NumQuad}
use Rattle.std.specs.Borrow.{Bor}
use Rattle.dataset_load.specs.Lines.{all_lines, texts, text_at}
use Rattle.dataset_load.specs.Rounds.{AreNumbered, ArePiecesOf, HasRead, line_total}
use Rattle.dataset_load.specs.Fault.{IfBadLine}
use Rattle.dataset_load.specs.declared.numbered.Numbered.{Numbered}
use Rattle.dataset_load.specs.declared.fault.LoadFault.{LoadFault}
use Rattle.dataset_load.specs.declared.fault.LoadFault.TheVariants.{BadLine, WorkerRefused, Memory}
use Rattle.dataset_load.proofs.LineLaws.{statements-append, malformed_after, bad_before}

-- the quads of the pieces of a round, that each that the filter keeps is numbered, and how many lines they have
pub record AreRead (filter : QuadFilter) (dict : List (List ℕ)) (ps : List (List ℕ)) (reads : List TextPiece) : Type 0 where
  pub all : List QuadParts
  pub statements : HaveStatements (all_lines ps) all
  pub each : List (List QuadParts)
  pub kept : IsKept (keeps filter) all (numbering.joined each)
  pub looked_up : ArePiecesOf dict each reads
  pub count : line_total reads ≡ length (all_lines ps)

pub pieces_read : (filter : QuadFilter) (dict : List (List ℕ)) (ps : List (List ℕ)) (reads : List TextPiece) → length reads ≡ length ps
    → ((i : ℕ) (d : TextPiece) → i < length ps → IsRead filter dict (slice_index_or ps i []) (slice_index_or reads i d))
    → AreRead filter dict ps reads
pieces_read filter dict [] [] e h = record { all = []; statements = refl; each = []; kept = refl; looked_up = tt; count = refl }
pieces_read filter dict [] (o ∷ os) e h = absurd (omega arith)
pieces_read filter dict (p ∷ ps) [] e h = absurd (omega arith)
pieces_read filter dict (p ∷ ps) (o ∷ os) e h =
    let first : IsRead filter dict p o = h 0 o (omega arith) in
    let rest : AreRead filter dict ps os = pieces_read filter dict ps os (omega arith) (λ i d low. h (suc i) d (omega arith)) in
    record {
      all = first.all ++ rest.all;
      statements = statements-append (lines p) (all_lines ps) first.all rest.all first.statements rest.statements;
      each = first.quads ∷ rest.each;
      kept = kept_joins (keeps filter) first.all first.quads rest.all (numbering.joined rest.each) first.kept rest.kept;
      looked_up = (first.numbered, rest.looked_up);
      count = (λ i. first.count i + rest.count i) ∙ sym (length-append (lines p) (all_lines ps));
    }

-- the first malformed line of pieces, by the least piece that has one
pub bad_piece : (ps : List (List ℕ)) (p line : ℕ) → p < length ps
    → ((i : ℕ) → i < p → (qs : List QuadParts) × HaveStatements (lines (slice_index_or ps i [])) qs)
    → IsFirstMalformed (lines (slice_index_or ps p [])) line
    → IsFirstMalformed (all_lines ps) (length (all_lines (take p ps)) + line)
bad_piece [] p line low h b = absurd (omega arith)
bad_piece (x ∷ xs) zero line low h b =
    let e : line ≡ 0 + line = omega arith in
    subst (λ (n : ℕ). IsFirstMalformed (lines x ++ all_lines xs) n) e (bad_before (lines x) (all_lines xs) line b)
bad_piece (x ∷ xs) (suc p) line low h b =
    let first = h 0 (omega arith) in
    let rest = bad_piece xs p line (omega arith) (λ i less. h (suc i) (omega arith)) b in
    let l = length-append (lines x) (all_lines (take p xs)) in
    let e : length (lines x) + (length (all_lines (take p xs)) + line) ≡ length (lines x ++ all_lines (take p xs)) + line = omega arith in
    subst (λ (n : ℕ). IsFirstMalformed (lines x ++ all_lines xs) n) e (malformed_after (lines x) (all_lines xs) first.0 _ first.1 rest)

-- ---- a round after lines that were read

-- the quads of a round, after those of the lines before
pub round_numbered : (before : List (List ℕ)) (round : List (Bor (List ℕ))) (filter filter' : QuadFilter) (dict dict' : List (List ℕ)) (numbered numbered' : List NumQuad) (reads : List TextPiece)
    → filter' ≡ filter → AreNumbered filter before dict numbered → AreRead filter dict (texts round) reads
    → ((done : List QuadParts) (each : List (List QuadParts)) → AreNumberedBy done dict numbered → ArePiecesOf dict each reads → AreNumberedBy (done ++ numbering.joined each) dict' numbered')
    → AreNumbered filter' (before ++ all_lines (texts round)) dict' numbered'
round_numbered before round filter filter' dict dict' numbered numbered' reads same was r taken =
    subst (λ (f : QuadFilter). AreNumbered f (before ++ all_lines (texts round)) dict' numbered') (sym same)
    record {
      all = was.all ++ r.all;
      statements = statements-append before (all_lines (texts round)) was.all r.all was.statements r.statements;
      quads = was.quads ++ numbering.joined r.each;
      kept = kept_joins (keeps filter) was.all was.quads r.all (numbering.joined r.each) was.kept r.kept;
      numbered = taken was.quads r.each was.numbered r.looked_up;
    }

pub round_read : (round : List (Bor (List ℕ))) (filter : QuadFilter) (dict : List (List ℕ)) (reads : List TextPiece) → length reads ≡ length round
    → ((i : ℕ) (d : TextPiece) → i < length round → IsRead filter dict (text_at round i) (slice_index_or reads i d))
    → AreRead filter dict (texts round) reads
round_read round filter dict reads count each =
    let m : length (texts round) ≡ length round = length-map round (λ (piece : Bor (List ℕ)). piece.now) in
    pieces_read filter dict (texts round) reads (count ∙ sym m) (λ i d low. each i d (omega arith))

-- the first malformed line of a round, after valid lines
pub round_bad : (before : List (List ℕ)) (round : List (Bor (List ℕ))) (filter : QuadFilter) (dict old : List (List ℕ)) (numbered : List NumQuad) (count p line n : ℕ)
    → AreNumbered filter before old numbered → count ≡ length before → p < length round
    → ((i : ℕ) → i < p → (read : TextPiece) × IsRead filter dict (text_at round i) read)
    → IsFirstMalformed (lines (text_at round p)) line
    → n ≡ count + (length (all_lines (texts (take p round))) + line + 1)
    → IsBadLine (before ++ all_lines (texts round)) n
round_bad before round filter dict old numbered count p line n was counted low returned bad value =
    let now = λ (piece : Bor (List ℕ)). piece.now in
    let m : length (texts round) ≡ length round = length-map round now in
    let t : length (all_lines (texts (take p round))) ≡ length (all_lines (take p (texts round))) =
    ap (λ (ps : List (List ℕ)). length (all_lines ps)) (sym (take-map now p round)) in
    let b = bad_piece (texts round) p line (omega arith) (λ i less. let a = returned i less in (a.1.all, a.1.statements)) bad in (
      length before + (length (all_lines (take p (texts round))) + line),
      malformed_after before (all_lines (texts round)) was.all _ was.statements b,
      omega (arith, value, counted, t),
    )

-- ---- the loop over rounds

pub lines_more : (before round : List (Bor (List ℕ))) → all_lines (texts (before ++ round)) ≡ all_lines (texts before) ++ all_lines (texts round)
lines_more before round =
    ap all_lines (map-append (λ (piece : Bor (List ℕ)). piece.now) before round) ∙ flat_map-append lines (texts before) (texts round)

take_to : {X : Type 0} (all : List X) (from to : ℕ) → from ≤ to → take from all ++ slice_range all from to ≡ take to all
take_to all from to rising = let e : from + (to - from) ≡ to = omega arith in sym (take-add from (to - from) all) ∙ ap (λ (n : ℕ). take n all) e

-- the lines up to the end of a round
pub lines_to : (all : List (Bor (List ℕ))) (from to : ℕ) → from ≤ to
    → all_lines (texts (take from all)) ++ all_lines (texts (slice_range all from to)) ≡ all_lines (texts (take to all))
lines_to all from to rising = sym (lines_more (take from all) (slice_range all from to)) ∙ ap (λ (ps : List (Bor (List ℕ))). all_lines (texts ps)) (take_to all from to rising)

-- a malformed line of a round is one of the whole
pub bad_of_all : (all : List (Bor (List ℕ))) (from to n : ℕ) → from ≤ to
    → IsBadLine (all_lines (texts (take from all)) ++ all_lines (texts (slice_range all from to))) n
    → IsBadLine (all_lines (texts all)) n
bad_of_all all from to n rising bad =
    let whole : all_lines (texts all) ≡ all_lines (texts (take to all)) ++ all_lines (texts (drop to all)) =
    ap (λ (ps : List (Bor (List ℕ))). all_lines (texts ps)) (sym (take-append-drop to all)) ∙ lines_more (take to all) (drop to all) in
    let b = subst (λ (ls : List (List ℕ)). IsFirstMalformed ls bad.0) (lines_to all from to rising) bad.1 in (
      bad.0,
      subst (λ (ls : List (List ℕ)). IsFirstMalformed ls bad.0) (sym whole) (bad_before (all_lines (texts (take to all))) (all_lines (texts (drop to all))) bad.0 b),
      bad.2,
    )

pub bad_fault : (all round : List (Bor (List ℕ))) (from to : ℕ) (so_far : Numbered) (fault : LoadFault) → from ≤ to → round ≡ slice_range all from to
    → HasRead so_far (all_lines (texts (take from all)))
    → IfBadLine (λ n. (before : List (List ℕ)) → HasRead so_far before → IsBadLine (before ++ all_lines (texts round)) n) fault
    → IfBadLine (IsBadLine (all_lines (texts all))) fault
bad_fault all round from to so_far (BadLine n) rising is read bad =
    bad_of_all all from to n rising
    (subst (λ (ps : List (Bor (List ℕ))). IsBadLine (all_lines (texts (take from all)) ++ all_lines (texts ps)) n) is (bad (all_lines (texts (take from all))) read))
bad_fault all round from to so_far WorkerRefused rising is read bad = tt
bad_fault all round from to so_far Memory rising is read bad = tt

pub lines_up_to_end : (all : List (Bor (List ℕ))) (from : ℕ) → length all ≤ from → all_lines (texts (take from all)) ≡ all_lines (texts all)
lines_up_to_end all from end = ap (λ (ps : List (Bor (List ℕ))). all_lines (texts ps)) (take_all from all end)

-- one more piece is counted
pub total_more : (reads : List TextPiece) (i : ℕ) (d : TextPiece) → i < length reads
    → line_total (take (i + 1) reads) ≡ line_total (take i reads) + (slice_index_or reads i d).lines
total_more [] i d low = absurd (omega arith)
total_more (r ∷ reads) zero d low = omega arith
total_more (r ∷ reads) (suc i) d low =
    let e : suc i + 1 ≡ suc (i + 1) = omega arith in
    let h = total_more reads i d (omega arith) in
    ap (λ n. line_total (take n (r ∷ reads))) e ∙ omega (arith, h)

-- ---- the loop over the pieces of a round

-- the pieces that are left were looked up in the dictionary of the round's start, and with their
-- quads after those that are numbered it is all of them
pub record AreTaken (old dict : List (List ℕ)) (numbers : List NumQuad) (left : List TextPiece) (all : List QuadParts) : Type 0 where
  pub done : List QuadParts
  pub each : List (List QuadParts)
  pub numbered : AreNumberedBy done dict numbers
  pub looked_up : ArePiecesOf old each left
  pub parts : done ++ numbering.joined each ≡ all

pub grown_more : (old dict dict' : List (List ℕ)) → AreGrown old dict → AreGrown dict dict' → AreGrown old dict'
grown_more old dict dict' a b = (a.0 ++ b.0, b.1 ∙ ap (λ (d : List (List ℕ)). d ++ b.0) a.1 ∙ append_assoc old a.0 b.0)

pub take_step : (old dict dict' : List (List ℕ)) (numbered added numbered' : List NumQuad) (piece : TextPiece) (left left' : List TextPiece) (all : List QuadParts)
    → AreGrown old dict → AreTaken old dict numbered left all → left ≡ piece ∷ left'
    → ((earlier : List (List ℕ)) → AreGrown earlier dict → (done quads : List QuadParts) → IsPieceOf earlier quads piece → (before : List NumQuad) → AreNumberedBy done dict before
    → AreNumberedBy (done ++ quads) dict' (before ++ added))
    → numbered' ≡ numbered ++ added → AreTaken old dict' numbered' left' all
take_step old dict dict' numbered added numbered' piece left left' all grown was e taken more =
    by was.each (subst (λ (ps : List TextPiece). ArePiecesOf old was.each ps) e was.looked_up) was.parts
  where
    by : (each : List (List QuadParts)) → ArePiecesOf old each (piece ∷ left') → was.done ++ numbering.joined each ≡ all → AreTaken old dict' numbered' left' all
    by [] z parts = absurd z
    by (q ∷ qs) z parts = record {
      done = was.done ++ q;
      each = qs;
      numbered = subst (AreNumberedBy (was.done ++ q) dict') (sym more) (taken old grown was.done q z.0 numbered was.numbered);
      looked_up = z.1;
      parts = append_assoc was.done q (numbering.joined qs) ∙ parts;
    }

pub all_taken : (old dict : List (List ℕ)) (numbered : List NumQuad) (left : List TextPiece) (all : List QuadParts)
    → AreTaken old dict numbered left all → length left ≡ 0 → AreNumberedBy all dict numbered
all_taken old dict numbered (p ∷ ps) all was none = absurd (omega arith)
all_taken old dict numbered [] all was none = by was.each was.looked_up was.parts
  where
    by : (each : List (List QuadParts)) → ArePiecesOf old each [] → was.done ++ numbering.joined each ≡ all → AreNumberedBy all dict numbered
    by [] z parts = subst (λ (qs : List QuadParts). AreNumberedBy qs dict numbered) (sym (append-nil was.done) ∙ parts) was.numbered
    by (q ∷ qs) z parts = absurd z
