use Rattle.std.proofs.Common.{◌∙◌, ℕ, List, All, IsPermutation, length, get_or, map, ap, sym, subst, arith}
use Rattle.std.proofs.lemmas.List.Sorted.{All-permutation}
use Rattle.algebra_model.specs.Renaming.{Each}
use Rattle.result_json.specs.Ranks.{ranked_cell, Entry, terms_of, numbers_of, IsEntry, IsRank, IsRankTable}
use Rattle.result_json.proofs.RankSteps.{entries_below, covered_sorted, cells_are, ranks_are}
use Rattle.result_json.proofs.ranking.rank.Goals as goal

pub rank_table-requires : goal.rank_table-requires
rank_table-requires g c =
    let dict = c.args.dict.now in
    let sorted = c.in_ok-order.order.items in
    let p : IsPermutation c.in_ok-terms.terms.items sorted = subst (λ (es : List Entry). IsPermutation es sorted) c.deref.ensures.value c.in_ok-order.ensures.permutation in
    let is : All (IsEntry dict) sorted = All-permutation (IsEntry dict) c.in_ok-terms.terms.items sorted p c.in_ok-terms.ensures.entries in
    let there : All (IsEntry dict) c.deref-2.result.now = subst (λ (es : List Entry). All (IsEntry dict) es) (sym c.deref-2.ensures.value) is in
    record { below = λ k d l. let b = entries_below dict c.deref-2.result.now there k d l in omega (arith, b, c.len.ensures.value) }

pub returns-clause-cells : goal.returns-clause-cells
returns-clause-cells g c =
    let dict = c.args.dict.now in
    let codes = c.args.codes.now in
    let sorted = c.in_ok-order.order.items in
    let table = c.in_ok-table.table.items in
    let p : IsPermutation c.in_ok-terms.terms.items sorted = subst (λ (es : List Entry). IsPermutation es sorted) c.deref.ensures.value c.in_ok-order.ensures.permutation in
    let is : All (IsEntry dict) sorted = All-permutation (IsEntry dict) c.in_ok-terms.terms.items sorted p c.in_ok-terms.ensures.entries in
    let ranks : IsRankTable (numbers_of sorted) table = subst (λ (es : List Entry). IsRankTable (numbers_of es) table) c.deref-2.ensures.value c.in_ok-table.ensures.ranks in
    let covered = covered_sorted (length dict) c.in_ok-terms.terms.items sorted codes p c.in_ok-terms.ensures.covered in
    ap (map (ranked_cell (terms_of sorted))) (c.put_ranks.ensures.ranks ∙ ap (λ (t : List ℕ). map (λ n. get_or t n 0) codes) c.deref-3.ensures.value)
    ∙ cells_are dict c.len.ensures.distinct sorted is table (c.in_ok-table.ensures.wide ∙ c.len.ensures.value) ranks codes covered

pub returns-clause-ranks : goal.returns-clause-ranks
returns-clause-ranks g c =
    let dict = c.args.dict.now in
    let codes = c.args.codes.now in
    let sorted = c.in_ok-order.order.items in
    let table = c.in_ok-table.table.items in
    let p : IsPermutation c.in_ok-terms.terms.items sorted = subst (λ (es : List Entry). IsPermutation es sorted) c.deref.ensures.value c.in_ok-order.ensures.permutation in
    let is : All (IsEntry dict) sorted = All-permutation (IsEntry dict) c.in_ok-terms.terms.items sorted p c.in_ok-terms.ensures.entries in
    let ranks : IsRankTable (numbers_of sorted) table = subst (λ (es : List Entry). IsRankTable (numbers_of es) table) c.deref-2.ensures.value c.in_ok-table.ensures.ranks in
    let covered = covered_sorted (length dict) c.in_ok-terms.terms.items sorted codes p c.in_ok-terms.ensures.covered in
    subst (Each (IsRank (terms_of sorted))) (sym (c.put_ranks.ensures.ranks ∙ ap (λ (t : List ℕ). map (λ n. get_or t n 0) codes) c.deref-3.ensures.value))
    (ranks_are dict c.len.ensures.distinct sorted is table (c.in_ok-table.ensures.wide ∙ c.len.ensures.value) ranks codes covered)
