-- Rows of ranks are packed and unpacked one by one.
use Rattle.std.proofs.Common.{◌≡◌, ℕ, zero, suc, ◌+◌, ◌-◌, ◌*◌, ◌<◌, ◌≤◌, List, [], ◌∷◌, ◌++◌, length, get_or, take, drop, map, flat_map, min, slice_get, Option, None, Some, All, refl, sym, ap, ◌∙◌, arith, add-one, append_assoc}
use Rattle.std.proofs.lemmas.List.{length-map, length-take, length-drop, map-append, take-map, take_more, take_at, drop_at, get_or-drop}
use Rattle.std.proofs.lemmas.Option.{get_or_from_slice_get, slice_get_read, slice_get_within}
use Rattle.rdf_core.specs.declared.term.Term.{Term}
use Rattle.algebra_model.specs.Renaming.{Each}
use Rattle.algebra_model.specs.RowOrder.{cells}
use Rattle.algebra_model.specs.Solution.{Solution}
use Rattle.algebra_model.specs.Sorted.{slice}
use Rattle.row_core.specs.RowList.{rows_in}
use Rattle.row_pieces.specs.Pieces.{piece_of}
use Rattle.row_pieces.proofs.PieceLaws.{piece-between}
use Rattle.result_json.specs.declared.ranked_row.RankedRow.{RankedRow}
use Rattle.result_json.specs.Packed.{fitted, rank_in}
use Rattle.result_json.specs.RankedRows.{ranks_of}
use Rattle.result_json.specs.Ranks.{ranked_cell, ranked_row}
use Rattle.result_json.proofs.ChunkLaws.{Each-drop, Each-take}
use Rattle.result_json.proofs.SliceLaws.{Each-from_all, drop-map, flat_map-more}

-- ---- packing

fitted-suc : (w : ℕ) (ranks : List ℕ) → fitted (suc w) ranks ≡ fitted w ranks ++ get_or ranks w 0 ∷ []
fitted-suc zero [] = refl
fitted-suc zero (x ∷ ranks) = refl
fitted-suc (suc w) [] = ap (λ r. 0 ∷ r) (fitted-suc w [])
fitted-suc (suc w) (x ∷ ranks) = ap (λ r. x ∷ r) (fitted-suc w ranks)

fitted-more : (w : ℕ) (ranks : List ℕ) → fitted (w + 1) ranks ≡ fitted w ranks ++ get_or ranks w 0 ∷ []
fitted-more w ranks = rw add-one (fitted-suc w ranks)

length-fitted : (w : ℕ) (ranks : List ℕ) → length (fitted w ranks) ≡ w
length-fitted zero ranks = refl
length-fitted (suc w) [] = let e = length-fitted w [] in omega arith
length-fitted (suc w) (x ∷ ranks) = let e = length-fitted w ranks in omega arith

fitted-same : (w : ℕ) (ranks : List ℕ) → length ranks ≡ w → fitted w ranks ≡ ranks
fitted-same zero [] e = refl
fitted-same zero (x ∷ ranks) e = absurd (omega arith)
fitted-same (suc w) [] e = absurd (omega arith)
fitted-same (suc w) (x ∷ ranks) e = ap (λ r. x ∷ r) (fitted-same w ranks (omega arith))

-- rows that have as many ranks are packed as they are
pub all_fitted : (w : ℕ) (rows : List (List ℕ)) → Each (λ r. length r ≡ w) rows → map (fitted w) rows ≡ rows
all_fitted w [] h = refl
all_fitted w (r ∷ rows) h = λ i. fitted-same w r h.0 i ∷ all_fitted w rows h.1 i

ranks_back : (ranks : List ℕ) → map rank_in (map Some ranks) ≡ ranks
ranks_back [] = refl
ranks_back (x ∷ ranks) = ap (λ r. x ∷ r) (ranks_back ranks)

-- one more rank of a row
pub fill_more : (w : ℕ) (ranks : List ℕ) (old new : List (Option ℕ)) (rank : ℕ) → old ≡ map Some (fitted w ranks) → new ≡ old ++ Some rank ∷ [] → rank ≡ get_or ranks w 0
    → new ≡ map Some (fitted (w + 1) ranks)
fill_more w ranks old new rank was pushed is =
    pushed ∙ (λ i. was i ++ Some (is i) ∷ []) ∙ sym (map-append Some (fitted w ranks) (get_or ranks w 0 ∷ [])) ∙ ap (map Some) (sym (fitted-more w ranks))

pub cells_wide : (w : ℕ) (ranks : List ℕ) (row : List (Option ℕ)) → row ≡ map Some (fitted w ranks) → length row ≡ w
cells_wide w ranks row e = ap length e ∙ length-map (fitted w ranks) Some ∙ length-fitted w ranks

-- one more row is packed
pub pack_more : (w i : ℕ) (rows : List RankedRow) (r : RankedRow) (made made' : List (List (Option ℕ))) (row : List (Option ℕ)) → i < length rows → r ≡ get_or rows i r
    → row ≡ map Some (fitted w r.ranks.now) → made' ≡ made ++ row ∷ [] → map (map rank_in) made ≡ map (fitted w) (ranks_of (take i rows))
    → map (map rank_in) made' ≡ map (fitted w) (ranks_of (take (i + 1) rows))
pack_more w i rows r made made' row low is filled pushed was =
    let next : ranks_of (take (i + 1) rows) ≡ ranks_of (take i rows) ++ r.ranks.now ∷ [] =
    ap ranks_of (take_more rows i r low ∙ ap (λ (x : RankedRow). take i rows ++ x ∷ []) (sym is)) ∙ map-append (λ (x : RankedRow). x.ranks.now) (take i rows) (r ∷ []) in
    ap (map (map rank_in)) pushed ∙ map-append (map rank_in) made (row ∷ [])
    ∙ (λ t. was t ++ (ap (map rank_in) filled ∙ ranks_back (fitted w r.ranks.now)) t ∷ [])
    ∙ sym (map-append (fitted w) (ranks_of (take i rows)) (r.ranks.now ∷ [])) ∙ ap (map (fitted w)) (sym next)

-- ---- unpacking

-- the rank of one more cell
pub put_more : (row : List (Option ℕ)) (i : ℕ) (before old new : List ℕ) (rank : ℕ) → i < length row → old ≡ before ++ map rank_in (take i row) → new ≡ old ++ rank ∷ []
    → rank ≡ rank_in (get_or row i None) → new ≡ before ++ map rank_in (take (i + 1) row)
put_more row i before old new rank low was pushed is =
    let cell = get_or row i None in
    let next : map rank_in (take (i + 1) row) ≡ map rank_in (take i row) ++ rank_in cell ∷ [] = ap (map rank_in) (take_more row i None low) ∙ map-append rank_in (take i row) (cell ∷ []) in
    pushed ∙ (λ j. was j ++ is j ∷ []) ∙ append_assoc before (map rank_in (take i row)) (rank_in cell ∷ []) ∙ ap (λ l. before ++ l) (sym next)

-- one more row of a part that begins at a
pub unpack_more : (a i : ℕ) (rows : List (List (Option ℕ))) (row : List (Option ℕ)) (old new : List ℕ) → a ≤ i → slice_get rows i ≡ Some row
    → old ≡ flat_map (map rank_in) (take (i - a) (drop a rows)) → new ≡ old ++ map rank_in row → new ≡ flat_map (map rank_in) (take (i + 1 - a) (drop a rows))
unpack_more a i rows row old new h e was put =
    let low = slice_get_within rows i row e in
    let k : a + (i - a) ≡ i = omega arith in
    let found : row ≡ get_or (drop a rows) (i - a) row = sym (get_or_from_slice_get rows i row row e) ∙ ap (λ n. get_or rows n row) (sym k) ∙ sym (get_or-drop a rows (i - a) row) in
    let at : slice_get (drop a rows) (i - a) ≡ Some row = slice_get_read (drop a rows) (length (drop a rows)) (i - a) row refl (omega (arith, length-drop a rows)) found in
    put ∙ ap (λ l. l ++ map rank_in row) was ∙ sym (flat_map-more (map rank_in) (drop a rows) (i - a) row at) ∙ ap (λ n. flat_map (map rank_in) (take n (drop a rows))) (omega arith)

rows_unpacked : (w : ℕ) (rows : List (List (Option ℕ))) → Each (λ r. length r ≡ w) rows → rows_in w w (length rows) (flat_map (map rank_in) rows) ≡ map (map rank_in) rows
rows_unpacked w [] h = refl
rows_unpacked w (r ∷ rows) h =
    let l : length (map rank_in r) ≡ w = length-map r rank_in ∙ h.0 in
    let rest = flat_map (map rank_in) rows in
    λ i. take_at (map rank_in r) rest w l i ∷ (ap (rows_in w w (length rows)) (drop_at (map rank_in r) rest w l) ∙ rows_unpacked w rows h.1) i

-- the unpacked rows of a piece
pub piece_unpacked : (w size i count from to : ℕ) (rows : List (List (Option ℕ))) (flat : List ℕ) → All (λ r. length r ≡ w) rows → count ≡ length rows → from ≡ min (i * size) count
    → to ≡ min (from + size) count → flat ≡ flat_map (map rank_in) (take (to - from) (drop from rows)) → rows_in w w (to - from) flat ≡ piece_of size i (map (map rank_in) rows)
piece_unpacked w size i count from to rows flat wide c f t e =
    let part = take (to - from) (drop from rows) in
    let each = Each-take (λ (r : List (Option ℕ)). length r ≡ w) (to - from) (drop from rows) (Each-drop (λ (r : List (Option ℕ)). length r ≡ w) from rows (Each-from_all (λ (r : List (Option ℕ)). length r ≡ w) rows wide)) in
    let long : length part ≡ to - from = omega (arith, length-take (to - from) (drop from rows), length-drop from rows) in
    ap (λ k. rows_in w w k flat) (sym long) ∙ ap (rows_in w w (length part)) e ∙ rows_unpacked w part each ∙ ap (map (map rank_in)) (piece-between size i count from to rows c f t)
    ∙ sym (ap (take size) (drop-map (map rank_in) (i * size) rows) ∙ take-map (map rank_in) size (drop (i * size) rows))

-- ---- the width of rows

-- rows of ranks that are read as rows of terms have as many ranks as there are variables
pub widths : (terms : List Term) (vs : List ℕ) (rows : List (List ℕ)) (solutions : List (Solution Term)) → map (ranked_row terms) rows ≡ map (cells vs) solutions → Each (λ r. length r ≡ length vs) rows
widths terms vs [] solutions e = tt
widths terms vs (r ∷ rows) [] e = let l = ap length e in absurd (omega arith)
widths terms vs (r ∷ rows) (μ ∷ solutions) e =
    let first : ranked_row terms r ≡ cells vs μ = ap (λ (l : List (List (Option Term))). get_or l 0 []) e in
    let rest : map (ranked_row terms) rows ≡ map (cells vs) solutions = ap (drop 1) e in
    (sym (length-map r (ranked_cell terms)) ∙ ap length first ∙ length-map vs (λ v. get_or μ v None), widths terms vs rows solutions rest)

pub Each-slice : {X : Type 0} (P : X → Type 0) (offset : ℕ) (limit : Option ℕ) (xs : List X) → Each P xs → Each P (slice offset limit xs)
Each-slice P offset None xs h = Each-drop P offset xs h
Each-slice P offset (Some n) xs h = Each-take P n (drop offset xs) (Each-drop P offset xs h)
