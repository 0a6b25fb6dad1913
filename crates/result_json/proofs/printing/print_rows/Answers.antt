use Rattle.std.proofs.Common.{◌≡◌, ◌∙◌, ℕ, ap, sym, subst, map, length, List, Option, IfOk, IsPermutation, arith}
use Rattle.std.specs.Vec.{with_items}
use Rattle.std.proofs.lemmas.List.{with_items_is}
use Rattle.std.proofs.lemmas.List.Sorted.{IsPermutation-trans}
use Rattle.algebra_model.specs.Sorted.{slice, sorted_list}
use Rattle.algebra_model.specs.RowOrder.{cells_cmp, sorted_rows}
use Rattle.algebra_model.specs.Renaming.{Each, read_row}
use Rattle.algebra_model.proofs.RangeLaws.{Each-IsSameBag}
use Rattle.dict_core.specs.Dict.{term_at}
use Rattle.row_core.specs.RowList.{rows_in}
use Rattle.rdf_core.specs.declared.term.Term.{Term}
use Rattle.result_json.specs.declared.ranked_row.RankedRow.{RankedRow}
use Rattle.result_json.specs.Packed.{fitted, ranks_in}
use Rattle.result_json.specs.RankedRows.{ranks_of}
use Rattle.result_json.specs.Ranks.{IsRank, ranked_row, terms_of}
use Rattle.result_json.specs.Results.{joined_blocks, json, listed_names}
use Rattle.result_json.proofs.ChunkLaws.{rows_of_ranks, Each-rows_in}
use Rattle.result_json.proofs.PackLaws.{Each-slice, all_fitted, widths}
use Rattle.result_json.proofs.RankLaws.{sorted_by_ranks}
use Rattle.result_json.proofs.SliceLaws.{slice-map}
use Rattle.result_json.proofs.printing.print_rows.Goals as goal

pub returns-clause-json : goal.returns-clause-json
returns-clause-json g c =
    let table = c.args.table.now in
    let dict = table.dict.now in
    let listed = table.listed.now in
    let solutions = c.args.rows.rows in
    let terms = terms_of c.in_ok-terms.terms.items in
    let ranks = c.rank.new.codes in
    let ordered = c.order_pairs.new.ranks in
    let sorted = c.in_ok-sorted.sorted.items in
    let all = map (read_row (term_at dict)) solutions in
    let rows_of = λ (n : ℕ) (rs : List ℕ). rows_in (length listed) (length listed) n rs in
    let rows = rows_of (length solutions) ranks in
    let wide : length ranks ≡ c.in_ok-ranks.ranks.len = omega (arith, c.rank.auto.codes, ap length c.deref_mut.ensures.value, c.in_ok-ranks.ranks.ok.0) in
    let ranked = with_items c.in_ok-ranks.ranks ranks in
    let ranks_are : c.deref_mut-2.result.now ≡ ranks = c.deref_mut-2.ensures.value ∙ with_items_is c.in_ok-ranks.ranks ranks wide in
    let there : c.deref.result.now ≡ ordered = c.deref.ensures.value ∙ with_items_is ranked ordered (c.order_pairs.auto.ranks ∙ ap length ranks_are ∙ wide) in
    let by_pairs : IsPermutation rows (rows_of (length solutions) ordered) =
    subst (λ (n : ℕ). IsPermutation (rows_of n ranks) (rows_of n ordered)) c.len-count.ensures.value
    (subst (λ (rs : List ℕ). IsPermutation (rows_of c.len-count.result rs) (rows_of c.len-count.result ordered)) ranks_are c.in_ok-order_pairs.ensures.permutation) in
    let by_rows : IsPermutation (rows_of (length solutions) ordered) (ranks_of sorted) =
    subst (λ (n : ℕ). IsPermutation (rows_of n ordered) (ranks_of sorted)) c.len-count.ensures.value
    (subst (λ (rs : List ℕ). IsPermutation (rows_of c.len-count.result rs) (ranks_of sorted)) there c.in_ok-sorted.ensures.permutation) in
    let permutation = IsPermutation-trans rows (rows_of (length solutions) ordered) (ranks_of sorted) by_pairs by_rows in
    let by_ranks : map (ranked_row terms) (ranks_of sorted) ≡ sorted_list cells_cmp (map (ranked_row terms) rows) =
    sorted_by_ranks terms c.in_ok-terms.ensures.rising rows (ranks_of sorted) (Each-rows_in (IsRank terms) (length listed) (length solutions) ranks c.in_ok-terms.ensures.ranks) permutation c.in_ok-sorted.ensures.sorted in
    let cells_are = rows_of_ranks dict listed solutions c.requires.known terms c.deref_mut.result.now ranks (c.deref_mut.ensures.value ∙ c.in_ok-ranks.ensures.codes) c.in_ok-terms.ensures.cells in
    let in_order : map (ranked_row terms) (ranks_of sorted) ≡ sorted_rows listed all =
    by_ranks ∙ ap (sorted_list cells_cmp) cells_are in
    let kept_ranks : ranks_of c.kept-kept.result.now ≡ slice table.offset table.limit (ranks_of sorted) =
    ap ranks_of (c.kept-kept.ensures.value ∙ ap (slice table.offset table.limit) c.deref-2.ensures.value) ∙ sym (slice-map (λ (r : RankedRow). r.ranks.now) table.offset table.limit sorted) in
    let wide_row = λ (r : List ℕ). length r ≡ length listed in
    let wide_rows : Each wide_row (ranks_of sorted) = Each-IsSameBag wide_row rows (ranks_of sorted) permutation (widths terms listed rows all cells_are) in
    let packed : ranks_in c.in_ok-packed.packed ≡ slice table.offset table.limit (ranks_of sorted) =
    c.in_ok-packed.ensures.rows ∙ ap (map (fitted (length listed))) kept_ranks
    ∙ all_fitted (length listed) (slice table.offset table.limit (ranks_of sorted)) (Each-slice wide_row table.offset table.limit (ranks_of sorted) wide_rows) in
    let texts : terms_of c.deref-3.result.now ≡ terms = ap terms_of c.deref-3.ensures.value in
    let kept : map (ranked_row (terms_of c.deref-3.result.now)) (ranks_in c.in_ok-packed.packed) ≡ slice table.offset table.limit (sorted_rows listed all) =
    (λ i. map (ranked_row (texts i)) (packed i))
    ∙ sym (slice-map (ranked_row terms) table.offset table.limit (ranks_of sorted)) ∙ ap (slice table.offset table.limit) in_order in
    subst (λ (rs : List (List (Option Term))). IfOk c.to_json.result (λ blocks. joined_blocks blocks.items ≡ json (listed_names table.names.now listed) rs)) kept c.to_json.ensures.json
