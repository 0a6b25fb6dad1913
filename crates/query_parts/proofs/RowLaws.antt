-- The rows of a query over a dataset are the merged rows of the query for the parts.
use Rattle.std.proofs.Common.{◌≡◌, ℕ, Bool, true, false, List, [], ◌∷◌, ◌++◌, length, map, flat_map, Option, None, Some, IsPermutation, refl, sym, ap, ◌∙◌, subst, append-nil}
use Rattle.std.specs.Prelude.{unwrap_or}
use Rattle.std.specs.Option.{option_map}
use Rattle.std.proofs.lemmas.Bool.{and_parts}
use Rattle.std.proofs.lemmas.List.{map-append}
use Rattle.std.proofs.lemmas.List.Sorted.{IsPermutation-map}
use Rattle.rdf_core.specs.declared.term.Term.{Term}
use Rattle.rdf_core.specs.QuadParts.{QuadParts}
use Rattle.rdf_core.proofs.TermLaws.{term_eq, term_decides}
use Rattle.algebra_model.specs.Algebra.{Algebra, Project, is_within}
use Rattle.algebra_model.specs.Eval.{eval}
use Rattle.algebra_model.specs.Pieces.{joined}
use Rattle.algebra_model.specs.RowOrder.{cells, cells_cmp}
use Rattle.algebra_model.specs.Solution.{Solution, same_solution}
use Rattle.algebra_model.specs.Sorted.{slice, sorted_list}
use Rattle.algebra_model.proofs.BgpLaws.{solution_decides}
use Rattle.algebra_model.proofs.RepeatLaws.{without_repeats-IsPermutation}
use Rattle.algebra_model.proofs.RowOrderLaws.{cells_cmp_total, cells_equal}
use Rattle.algebra_model.proofs.SetLaws.{alike-map, without_repeats-alike}
use Rattle.algebra_model.proofs.SortedLaws.{sorted_of_bag}
use Rattle.sparql_tree.specs.QueryTree.{QueryTree}
use Rattle.sparql_algebra.specs.Names.{names_of}
use Rattle.sparql_algebra.specs.Translation.{distinct_where, projection, translate_group}
use Rattle.sparql_algebra.proofs.WithinLaws.{translated_within}
use Rattle.spq_core.specs.Outcome.{rows}
use Rattle.row_merge.specs.Merged.{IsEnough, Row, Table, kept, merged}
use Rattle.row_merge.proofs.NestLaws.{merges_nest}
use Rattle.query_split.proofs.OverlapLaws.{solutions_alike}
use Rattle.query_split.proofs.SplitLaws.{parts_have_all}
use Rattle.query_split.specs.ForParts.{for_parts}
use Rattle.query_parts.specs.Laws.{OverlappingPartsGiveRows, PartsGiveRows}
use Rattle.query_parts.proofs.WidthLaws.{wide}
use Rattle.query_parts.proofs.CellLaws.{cells-distinct, cells-project}

-- the rows of a query's group over a dataset, in no order, with their repeats
abbrev table_of : QueryTree → List QuadParts → Table
table_of q D = map (cells (projection q)) (eval (length (names_of q)) D None (translate_group (names_of q) q.group))

-- the rows of the query's expression
rows_are : (once : Bool) (vs : List ℕ) (w : ℕ) (D : List QuadParts) (A : Algebra)
    → map (cells vs) (eval w D None (distinct_where once (Project vs A))) ≡ kept once (map (cells vs) (eval w D None A))
rows_are true vs w D A = cells-distinct vs w (eval w D None A) (wide w D A None)
rows_are false vs w D A = cells-project vs (eval w D None A)

rows_of : (q : QueryTree) (D : List QuadParts) → rows q D ≡ slice (unwrap_or q.offset 0) q.limit (sorted_list cells_cmp (kept q.distinct (table_of q D)))
unfolding rows
rows_of q D =
    ap (λ l. slice (unwrap_or q.offset 0) q.limit (sorted_list cells_cmp l)) (rows_are q.distinct (projection q) (length (names_of q)) D (translate_group (names_of q) q.group))

within : (once : Bool) (vs : List ℕ) (w : ℕ) (A : Algebra) → is_within w (distinct_where once (Project vs A)) ≡ true → is_within w A ≡ true
within true vs w A h = (and_parts _ _ h).1
within false vs w A h = (and_parts _ _ h).1

kept_bag : (once : Bool) (xs ys : List Row) → IsPermutation xs ys → IsPermutation (kept once xs) (kept once ys)
kept_bag true xs ys h = without_repeats-IsPermutation (same_solution term_eq) (solution_decides term_eq term_decides) xs ys h
kept_bag false xs ys h = h

-- the table of each part in a group of its own
abbrev groups : QueryTree → List (List QuadParts) → List (List Table)
groups q [] = []
groups q (p ∷ parts) = (table_of q p ∷ []) ∷ groups q parts

tables : (q : QueryTree) (parts : List (List QuadParts)) → joined (joined (groups q parts)) ≡ map (cells (projection q)) (flat_map (λ p. eval (length (names_of q)) p None (translate_group (names_of q) q.group)) parts)
tables q [] = refl
tables q (p ∷ parts) =
    let E = λ (D : List QuadParts). eval (length (names_of q)) D None (translate_group (names_of q) q.group) in
    ap (λ l. table_of q p ++ l) (tables q parts) ∙ sym (map-append (cells (projection q)) (E p) (flat_map E parts))

-- the OFFSET of the query for the parts
abbrev offset_of_parts : Option ℕ → ℕ
offset_of_parts offset = unwrap_or (option_map (λ _. 0) offset) 0

no_rows_left_out : (offset : Option ℕ) → offset_of_parts offset ≡ 0
no_rows_left_out None = refl
no_rows_left_out (Some n) = refl

part_rows : (q : QueryTree) (limit : Option ℕ) (parts : List (List QuadParts)) → map (rows (for_parts limit q)) parts ≡ map (merged q.distinct 0 limit) (groups q parts)
part_rows q limit [] = refl
part_rows q limit (p ∷ parts) =
    λ i. (rows_of (for_parts limit q) p ∙ ap (λ o. slice o limit (sorted_list cells_cmp (kept q.distinct (table_of q p)))) (no_rows_left_out q.offset) ∙ ap (λ l. slice 0 limit (sorted_list cells_cmp (kept q.distinct l))) (sym (append-nil (table_of q p)))) i ∷ part_rows q limit parts i

-- the solutions of the query's group over each dataset, one after the other
abbrev solutions : QueryTree → List (List QuadParts) → List (Solution Term)
solutions q parts = flat_map (λ p. eval (length (names_of q)) p None (translate_group (names_of q) q.group)) parts

group_within : (q : QueryTree) → is_within (length (names_of q)) (translate_group (names_of q) q.group) ≡ true
group_within q = within q.distinct (projection q) (length (names_of q)) (translate_group (names_of q) q.group) (translated_within q)

-- the rows over the whole are the merged rows of the parts, if the same rows are kept of both
from_kept : (q : QueryTree) (limit : Option ℕ) → IsEnough limit (unwrap_or q.offset 0) q.limit → (D : List QuadParts) (parts : List (List QuadParts))
    → IsPermutation (kept q.distinct (table_of q D)) (kept q.distinct (map (cells (projection q)) (solutions q parts)))
    → rows q D ≡ merged q.distinct (unwrap_or q.offset 0) q.limit (map (rows (for_parts limit q)) parts)
from_kept q limit enough D parts bag =
    let o = unwrap_or q.offset 0 in
    let T = map (cells (projection q)) (solutions q parts) in
    rows_of q D
    ∙ ap (slice o q.limit) (sorted_of_bag cells_cmp cells_cmp_total cells_equal (kept q.distinct (table_of q D)) (kept q.distinct T) bag)
    ∙ ap (λ l. slice o q.limit (sorted_list cells_cmp (kept q.distinct l))) (sym (tables q parts))
    ∙ sym (merges_nest q.distinct o q.limit limit (groups q parts) enough)
    ∙ ap (merged q.distinct o q.limit) (sym (part_rows q limit parts))

pub parts_give_rows : PartsGiveRows
parts_give_rows split key q splittable limit enough D part parts are same =
    let w = length (names_of q) in
    let A = translate_group (names_of q) q.group in
    let S = solutions q (part ∷ parts) in
    let bag = IsPermutation-map (cells (projection q)) (eval w D None A) S (parts_have_all split key w A (group_within q) splittable D part parts are same) in
    from_kept q limit enough D (part ∷ parts) (kept_bag q.distinct (table_of q D) (map (cells (projection q)) S) bag)

pub overlapping_parts_give_rows : OverlappingPartsGiveRows
overlapping_parts_give_rows key q splittable once limit enough D part parts same =
    let w = length (names_of q) in
    let A = translate_group (names_of q) q.group in
    let S = solutions q (part ∷ parts) in
    let T = map (cells (projection q)) S in
    let alike = alike-map (cells (projection q)) (eval w D None A) S (solutions_alike w key A (group_within q) splittable D part parts same) in
    from_kept q limit enough D (part ∷ parts)
    (subst (λ b. IsPermutation (kept b (table_of q D)) (kept b T)) (sym once) (without_repeats-alike (same_solution term_eq) (solution_decides term_eq term_decides) (table_of q D) T alike))
