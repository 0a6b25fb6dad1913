-- In the solutions and the rows of a query each literal with a language tag has the right datatype.
use Rattle.std.proofs.Common.{ℕ, zero, suc, ◌+◌, Bool, true, false, List, [], ◌∷◌, length, get_or, take, map, filter, filter_map, replicate, Option, None, Some, is_some, if◌then◌else◌}
use Rattle.std.specs.Prelude.{unwrap_or}
use Rattle.std.specs.List.{cons_option, list_any}
use Rattle.std.specs.Option.{option_eq}
use Rattle.rdf_core.specs.declared.term.Term.{Term}
use Rattle.rdf_core.specs.declared.term.Term.TheVariants.{Blank, Iri, Literal}
use Rattle.rdf_core.specs.QuadParts.{QuadParts}
use Rattle.rdf_core.proofs.TermLaws.{term_eq}
use Rattle.nquads_core.specs.Lines.{lines}
use Rattle.algebra_model.specs.Algebra.{Algebra, GraphName, Pattern, Join, LeftJoin, Union, Minus, Graph, Filter, Extend, Project, Distinct, Table, each_graph, one_graph}
use Rattle.algebra_model.specs.Bgp.{Triple, every_map, is_in, occurring, occurs, terms}
use Rattle.algebra_model.specs.Call.{Function, call_value}
use Rattle.algebra_model.specs.Call as function
use Rattle.algebra_model.specs.Dataset.{graph, names, triple_of}
use Rattle.algebra_model.specs.Eval.{eval, in_graphs, named}
use Rattle.algebra_model.specs.Expression as expression
use Rattle.algebra_model.specs.Expression.{Expression, boolean_result, holds, truth_of, val, with_value, with_values}
use Rattle.algebra_model.specs.BooleanValue.{logical_and, logical_not, logical_or}
use Rattle.algebra_model.specs.Comparison.{compares}
use Rattle.algebra_model.specs.Operators.{join}
use Rattle.algebra_model.specs.Renaming.{Each, EachBound, EachOfTriple}
use Rattle.algebra_model.specs.RowOrder.{cells}
use Rattle.algebra_model.specs.Solution.{Solution, same_solution}
use Rattle.algebra_model.proofs.RangeLaws.{Each-append, Each-filter, Each-flat_map, Each-map, Each-without_repeats, OfOption, extend-bound, join-bound, left_join-bound, minus-bound, project-bound, set-bound, table-bound, unbound-bound}
use Rattle.sparql_tree.specs.QueryTree.{QueryTree}
use Rattle.sparql_algebra.specs.Names.{names_of}
use Rattle.sparql_algebra.specs.Translation.{projection, translate}
use Rattle.spq_core.specs.Outcome.{rows}
use Rattle.row_merge.specs.Merged.{Row}
use Rattle.result_merge.specs.Tags.{HasTagType}
use Rattle.query_split.proofs.OperatorSplits as each
use Rattle.query_parts.specs.Laws.{IsOfDocument, RowsAreTagged}
use Rattle.sparql_read.specs.Rejection.{IsValidQuery}
use Rattle.query_parts.proofs.MergeLaws.{Each-sorted}
use Rattle.query_parts.proofs.DocumentTags.{IsTaggedQuad, statements_tagged}
use Rattle.query_parts.proofs.PlanTags.{GivesTags, HasTaggedTerm, translated_gives}
use Rattle.query_parts.proofs.QueryTags.{IsTagged, derived_has_tags}

-- each term that the solution binds has the right datatype if it has a language tag
abbrev IsTaggedSolution : Solution Term → Type 0
IsTaggedSolution = EachBound IsTagged

with_term : (x : Option Term) (μ : Solution Term) → HasTagType x → IsTaggedSolution μ → IsTaggedSolution (x ∷ μ)
with_term None μ h k = k
with_term (Some t) μ h k = (h, k)

row_tagged : (r : Row) → Each HasTagType r → IsTaggedSolution r
row_tagged [] h = tt
row_tagged (x ∷ r) h = with_term x r h.0 (row_tagged r h.1)

-- ---- values of expressions

cell_tagged : (μ : Solution Term) (v : ℕ) → IsTaggedSolution μ → HasTagType (get_or μ v None)
cell_tagged [] v h = tt
cell_tagged (None ∷ μ) zero h = tt
cell_tagged (Some t ∷ μ) zero h = h.0
cell_tagged (None ∷ μ) (suc v) h = cell_tagged μ v h
cell_tagged (Some t ∷ μ) (suc v) h = cell_tagged μ v h.1

boolean_tagged : (b : Option Bool) → HasTagType (boolean_result b)
boolean_tagged None = tt
boolean_tagged (Some true) = tt
boolean_tagged (Some false) = tt

call_tagged : (f : Function) (t : Term) → HasTagType (call_value f t)
call_tagged function.str (Blank l) = tt
call_tagged function.str (Iri i) = tt
call_tagged function.str (Literal form type tag) = tt
call_tagged function.lang (Blank l) = tt
call_tagged function.lang (Iri i) = tt
call_tagged function.lang (Literal form type tag) = tt
call_tagged function.datatype (Blank l) = tt
call_tagged function.datatype (Iri i) = tt
call_tagged function.datatype (Literal form type tag) = tt
call_tagged function.is_iri (Blank l) = tt
call_tagged function.is_iri (Iri i) = tt
call_tagged function.is_iri (Literal form type tag) = tt
call_tagged function.is_blank (Blank l) = tt
call_tagged function.is_blank (Iri i) = tt
call_tagged function.is_blank (Literal form type tag) = tt
call_tagged function.is_literal (Blank l) = tt
call_tagged function.is_literal (Iri i) = tt
call_tagged function.is_literal (Literal form type tag) = tt

called_tagged : (f : Function) (t : Option Term) → HasTagType (with_value t (call_value f))
called_tagged f None = tt
called_tagged f (Some t) = call_tagged f t

value_tagged : (e : Expression) (μ : Solution Term) → HasTaggedTerm e → IsTaggedSolution μ → HasTagType (val e μ)
value_tagged (expression.variable v) μ h k = cell_tagged μ v k
value_tagged (expression.constant t) μ h k = h
value_tagged (expression.either a b) μ h k = boolean_tagged (logical_or (truth_of (val a μ)) (truth_of (val b μ)))
value_tagged (expression.both a b) μ h k = boolean_tagged (logical_and (truth_of (val a μ)) (truth_of (val b μ)))
value_tagged (expression.negation a) μ h k = boolean_tagged (logical_not (truth_of (val a μ)))
value_tagged (expression.comparison op a b) μ h k = boolean_tagged (with_values (val a μ) (val b μ) (compares op))
value_tagged (expression.call f a) μ h k = called_tagged f (val a μ)
value_tagged (expression.bound v) μ h k = boolean_tagged (Some (is_some (get_or μ v None)))
value_tagged (expression.same_term a b) μ h k = boolean_tagged (with_values (val a μ) (val b μ) (λ s t. Some (term_eq s t)))

bound_tagged : (t : Option Term) → HasTagType t → OfOption IsTagged t
bound_tagged None h = tt
bound_tagged (Some t) h = h

-- ---- maps of a basic graph pattern

module _ (ts : List Term) (tagged : Each IsTagged ts) where
  choices_tagged : (b : Bool) → Each HasTagType (if b then map Some ts else (None ∷ []))
  choices_tagged true = Each-map IsTagged HasTagType Some (λ t h. h) ts tagged
  choices_tagged false = (tt, tt)

  maps_tagged : (uses : ℕ → Bool) (n : ℕ) → Each IsTaggedSolution (every_map uses ts n)
  maps_tagged uses zero = (tt, tt)
  maps_tagged uses (suc n) =
      let rest = every_map (λ k. uses (suc k)) ts n in
      let ih = maps_tagged (λ k. uses (suc k)) n in
      Each-flat_map HasTagType IsTaggedSolution (λ x. map (λ μ. x ∷ μ) rest)
      (λ x h. Each-map IsTaggedSolution IsTaggedSolution (λ μ. x ∷ μ) (λ μ k. with_term x μ h k) rest ih)
      (if uses 0 then map Some ts else (None ∷ []))
      (choices_tagged (uses 0))

first_tagged : (w : ℕ) (μ : Solution Term) → IsTaggedSolution μ → IsTaggedSolution (take w μ)
first_tagged zero μ h = tt
first_tagged (suc w) [] h = tt
first_tagged (suc w) (None ∷ μ) h = first_tagged w μ h
first_tagged (suc w) (Some t ∷ μ) h = (h.0, first_tagged w μ h.1)

-- ---- solutions

names_tagged : (D : List QuadParts) → Each IsTaggedQuad D → Each IsTagged (filter_map (λ (q : QuadParts). q.g) D)
names_tagged [] h = tt
names_tagged (q ∷ D) h = one q.g h.0.3 (names_tagged D h.1)
  where
    one : (g : Option Term) → HasTagType g → Each IsTagged (filter_map (λ (q : QuadParts). q.g) D) → Each IsTagged (cons_option g (filter_map (λ (q : QuadParts). q.g) D))
    one None h k = k
    one (Some t) h k = (h, k)

module _ (w : ℕ) (D : List QuadParts) (tagged : Each IsTaggedQuad D) where
  graph_terms : (g : Option Term) → Each IsTagged (terms term_eq (graph D g))
  graph_terms g =
      let mine = λ (q : QuadParts). option_eq term_eq q.g g in
      let triples = Each-map IsTaggedQuad (EachOfTriple IsTagged) triple_of (λ q h. (h.0, h.1, h.2)) (filter mine D) (Each-filter IsTaggedQuad mine D tagged) in
      Each-without_repeats IsTagged term_eq (occurring (graph D g))
      (Each-flat_map (EachOfTriple IsTagged) IsTagged (λ (t : Triple Term). t.s ∷ t.p ∷ t.o ∷ []) (λ t h. (h.0, (h.1, (h.2, tt)))) (graph D g) triples)

  graphs_tagged : (i : GraphName) (P : Option Term → List (Solution Term)) → ((h : Option Term) → Each IsTaggedSolution (P h)) → Each IsTaggedSolution (in_graphs w D i P)
  graphs_tagged (each_graph v) P h =
      Each-flat_map IsTagged IsTaggedSolution (λ i. join term_eq (P (Some i)) (named w v i))
      (λ i k. join-bound IsTagged term_eq (P (Some i)) (named w v i) (h (Some i)) (set-bound IsTagged (replicate w None) v (Some i) k (unbound-bound IsTagged w), tt))
      (names D) (Each-without_repeats IsTagged term_eq (filter_map (λ (q : QuadParts). q.g) D) (names_tagged D tagged))
  graphs_tagged (one_graph i) P h = one (list_any (term_eq i) (names D))
    where
      one : (b : Bool) → Each IsTaggedSolution (if b then P (Some i) else [])
      one true = h (Some i)
      one false = tt

  solutions_tagged : (A : Algebra) (g : Option Term) → GivesTags A → Each IsTaggedSolution (eval w D g A)
  solutions_tagged (Pattern labels P) g h =
      let G = graph D g in
      let maps = every_map (occurs w P) (terms term_eq G) (w + labels) in
      Each-map IsTaggedSolution IsTaggedSolution (take w) (λ μ k. first_tagged w μ k) (filter (is_in term_eq w P G) maps)
      (Each-filter IsTaggedSolution (is_in term_eq w P G) maps (maps_tagged (terms term_eq G) (graph_terms g) (occurs w P) (w + labels)))
  solutions_tagged (Join A B) g h = join-bound IsTagged term_eq (eval w D g A) (eval w D g B) (solutions_tagged A g h.0) (solutions_tagged B g h.1)
  solutions_tagged (LeftJoin A B e) g h =
      left_join-bound IsTagged term_eq (holds e) (eval w D g A) (eval w D g B) (solutions_tagged A g h.0) (solutions_tagged B g h.1)
  solutions_tagged (Union A B) g h = Each-append IsTaggedSolution (eval w D g A) (eval w D g B) (solutions_tagged A g h.0) (solutions_tagged B g h.1)
  solutions_tagged (Minus A B) g h = minus-bound IsTagged term_eq (eval w D g A) (eval w D g B) (solutions_tagged A g h.0)
  solutions_tagged (Graph i A) g h = graphs_tagged i (λ k. eval w D k A) (λ k. solutions_tagged A k h)
  solutions_tagged (Filter e A) g h = Each-filter IsTaggedSolution (holds e) (eval w D g A) (solutions_tagged A g h)
  solutions_tagged (Extend v e A) g h =
      extend-bound IsTagged v (val e) (λ μ k. bound_tagged (val e μ) (value_tagged e μ h.0 k)) (eval w D g A) (solutions_tagged A g h.1)
  solutions_tagged (Project vs A) g h = project-bound IsTagged vs (eval w D g A) (solutions_tagged A g h)
  solutions_tagged (Distinct A) g h = Each-without_repeats IsTaggedSolution (same_solution term_eq) (eval w D g A) (solutions_tagged A g h)
  solutions_tagged (Table vs rows) g h = table-bound IsTagged w vs rows (each.Each-map row_tagged rows h)

-- ---- rows

cells_tagged : (vs : List ℕ) (μ : Solution Term) → IsTaggedSolution μ → Each HasTagType (cells vs μ)
cells_tagged [] μ h = tt
cells_tagged (v ∷ vs) μ h = (cell_tagged μ v h, cells_tagged vs μ h)

-- what is true of the row of each solution
pub Each-rows : (P : Row → Type 0) (q : QueryTree) (D : List QuadParts)
    → Each P (map (cells (projection q)) (eval (length (names_of q)) D None (translate q).algebra)) → Each P (rows q D)
unfolding rows
Each-rows P q D h = Each-sorted P (unwrap_or q.offset 0) q.limit (map (cells (projection q)) (eval (length (names_of q)) D None (translate q).algebra)) h

pub of_query : (text : List ℕ) (q : QueryTree) (D : List QuadParts) → IsValidQuery text q → IsOfDocument D → Each (Each HasTagType) (rows q D)
of_query text q D valid document =
    let vs = projection q in
    let A = (translate q).algebra in
    let w = length (names_of q) in
    let gives = translated_gives q (derived_has_tags text q valid.derives) in
    let tagged = statements_tagged (lines document.0) D document.1 in
    Each-rows (Each HasTagType) q D
    (Each-map IsTaggedSolution (Each HasTagType) (cells vs) (cells_tagged vs) (eval w D None A) (solutions_tagged w D tagged A None gives))

pub rows_are_tagged : RowsAreTagged
rows_are_tagged text q valid parts documents = Each-map IsOfDocument (Each (Each HasTagType)) (rows q) (λ D h. of_query text q D valid h) parts documents
