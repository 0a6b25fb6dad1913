-- Solutions in one named graph, and in one graph after another.
use Rattle.std.proofs.Common.{◌≡◌, ℕ, ◌+◌, ◌<◌, Bool, false, List, [], ◌∷◌, ◌++◌, length, map, take, set, replicate, flat_map, nat_eq, slice_get, None, Some, refl, sym, ap, ◌∙◌, subst, IsPermutation, append-nil, if◌then◌else◌}
use Rattle.std.specs.List.{list_any}
use Rattle.std.proofs.lemmas.List.{map-append}
use Rattle.std.proofs.lemmas.List.Concat.{flat_map-append}
use Rattle.std.proofs.lemmas.List.Sorted.{IsPermutation-sym, IsPermutation-append, IsPermutation-refl}
use Rattle.rdf_core.specs.declared.term.Term.{Term}
use Rattle.rdf_core.proofs.TermLaws.{term_eq, term_decides}
use Rattle.algebra_model.specs.Bag.{IsSameBag, without_repeats}
use Rattle.algebra_model.specs.Dataset.{names}
use Rattle.algebra_model.specs.Eval.{named}
use Rattle.algebra_model.specs.Operators.{join}
use Rattle.algebra_model.specs.Renaming.{Each}
use Rattle.algebra_model.specs.Solution.{Solution}
use Rattle.algebra_model.proofs.CongruenceLaws.{join-IsSameBag}
use Rattle.algebra_model.proofs.RangeLaws.{Each-append, join-bound}
use Rattle.algebra_model.proofs.ReadingLaws.{join-read}
use Rattle.dict_core.specs.Dict.{IsGrown, AreDistinct, term_at}
use Rattle.dict_core.specs.NumQuad.{AreBelow, quads_at}
use Rattle.dict_core.specs.declared.num_quad.NumQuad.{NumQuad}
use Rattle.quad_index.specs.Matching.{graph_names}
use Rattle.row_core.specs.RowList.{RowList}
use Rattle.algebra_model.specs.Algebra.{one_graph}
use Rattle.algebra_model.specs.Eval.{eval}
use Rattle.algebra_model.proofs.BagLaws.{IsPermutation-flat_map}
use Rattle.algebra_model.proofs.BgpLaws.{solution_decides}
use Rattle.algebra_model.specs.Solution.{same_solution}
use Rattle.sparql_algebra.specs.AlgebraOf.{algebra_of}
use Rattle.sparql_algebra.specs.declared.operator.Operator.{Operator}
use Rattle.sparql_eval.specs.Evaluated.{IsEvaluated}
use Rattle.sparql_eval.specs.TreeSolutions.{graph_solutions, tree_solutions}
use Rattle.sparql_eval.specs.GraphNumbers.{IsGraphNumber}
use Rattle.sparql_eval.proofs.ReadingLaws.{Known, read_by, equal_by_number, rows_kept, number_kept, set_known, set_read, evaluated}
use Rattle.sparql_eval.proofs.TableSteps.{row_begins}
use Rattle.sparql_eval.proofs.GraphSteps.{names_read}

-- ---- one more graph

module _ (terms now later : List Term) (once : AreDistinct later) (g : IsGrown terms now) (g' : IsGrown now later) (h : IsGrown terms later) (w v : ℕ) (P : Term → List (Solution Term)) where
  abbrev in_graph : Term → List (Solution Term)
  in_graph i = join term_eq (P i) (named w v i)

  name_known : (n : ℕ) → n < length terms → Known later (set (replicate w None) v (Some n))
  name_known n low = set_known later (replicate w None) v (Some n) (number_kept terms later h n low).0 (row_begins later w (replicate w None) refl).0

  name_read : (n : ℕ) → n < length terms → read_by later (set (replicate w None) v (Some n)) ∷ [] ≡ named w v (term_at terms n)
  name_read n low =
      ap (λ r. r ∷ [])
      (set_read later (replicate w None) v (Some n)
      ∙ (λ i. set ((row_begins later w (replicate w None) refl).1 i) v (Some ((number_kept terms later h n low).1 i))))

  pub each_more : (made made' : List (Solution ℕ)) (rows : RowList) (graphs : List ℕ) (k n : ℕ) → slice_get graphs k ≡ Some n → n < length terms
      → Each (Known now) made → IsSameBag (map (read_by now) made) (flat_map in_graph (map (term_at terms) (take k graphs)))
      → IsEvaluated now w (P (term_at terms n)) rows later → made' ≡ made ++ join nat_eq rows.rows (set (replicate w None) v (Some n) ∷ [])
      → Each (Known later) made' × IsSameBag (map (read_by later) made') (flat_map in_graph (map (term_at terms) (take (k + 1) graphs)))
  each_more made made' rows graphs k n at low known bag got e =
      let ν = set (replicate w None) v (Some n) in
      let kept = rows_kept now later g' made known in
      let J = join nat_eq rows.rows (ν ∷ []) in
      let νs : Each (Known later) (ν ∷ []) = (name_known n low, tt) in
      let read : map (read_by later) J ≡ join term_eq (map (read_by later) rows.rows) (named w v (term_at terms n)) =
      sym (join-read nat_eq term_eq (λ x. x < length later) (term_at later) (equal_by_number later once) rows.rows (ν ∷ []) got.known νs) ∙ ap (join term_eq (map (read_by later) rows.rows)) (name_read n low) in
      let here : IsSameBag (map (read_by later) J) (in_graph (term_at terms n)) =
      subst (λ l. IsSameBag l (in_graph (term_at terms n))) (sym read)
      (join-IsSameBag term_eq term_decides (map (read_by later) rows.rows) (P (term_at terms n)) (named w v (term_at terms n)) (named w v (term_at terms n)) got.bag (IsPermutation-refl (named w v (term_at terms n)))) in
      let before : IsSameBag (map (read_by later) made) (flat_map in_graph (map (term_at terms) (take k graphs))) = subst (λ l. IsSameBag l (flat_map in_graph (map (term_at terms) (take k graphs)))) (sym kept.1) bag in
      let left : map (read_by later) made' ≡ map (read_by later) made ++ map (read_by later) J = ap (map (read_by later)) e ∙ map-append (read_by later) made J in
      let right : flat_map in_graph (map (term_at terms) (take (k + 1) graphs)) ≡ flat_map in_graph (map (term_at terms) (take k graphs)) ++ in_graph (term_at terms n) =
      ap (λ l. flat_map in_graph (map (term_at terms) l)) (Rattle.row_core.proofs.TurnLaws.take_more_get graphs k n at)
      ∙ ap (flat_map in_graph) (map-append (term_at terms) (take k graphs) (n ∷ []))
      ∙ flat_map-append in_graph (map (term_at terms) (take k graphs)) (term_at terms n ∷ [])
      ∙ ap (λ l. flat_map in_graph (map (term_at terms) (take k graphs)) ++ l) (append-nil (in_graph (term_at terms n))) in (
        subst (Each (Known later)) (sym e) (Each-append (Known later) made J kept.0 (join-bound (λ x. x < length later) nat_eq rows.rows (ν ∷ []) got.known νs)),
        subst (λ l. IsSameBag l (flat_map in_graph (map (term_at terms) (take (k + 1) graphs)))) (sym left)
            (subst (IsSameBag (map (read_by later) made ++ map (read_by later) J)) (sym right)
            (IsPermutation-append (map (read_by later) made) (flat_map in_graph (map (term_at terms) (take k graphs))) (map (read_by later) J) (in_graph (term_at terms n)) before here)),
      )

-- ---- one graph, by its name

module _ (terms : List Term) (D : List NumQuad) (w : ℕ) (t : Term) (tree : Operator) where
  abbrev under : Bool → List (Solution Term)
  under b = if b then eval w (quads_at terms D) (Some t) (algebra_of tree) else []

  pub in_one : (n : ℕ) → IsGraphNumber terms D t n → tree_solutions terms D w (Some n) tree ≡ graph_solutions terms D w (one_graph t) tree
  in_one n h = ap (λ (u : Term). eval w (quads_at terms D) (Some u) (algebra_of tree)) h.2 ∙ sym (ap under h.0)

  pub no_graph : list_any (term_eq t) (names (quads_at terms D)) ≡ false → (made : RowList) → made.width ≡ w → made.rows ≡ [] → IsEvaluated terms w (graph_solutions terms D w (one_graph t) tree) made terms
  no_graph e made wide none = evaluated terms w _ made wide (subst (Each (Known terms)) (sym none) tt) (ap (map (read_by terms)) none ∙ sym (ap under e))

-- ---- each graph

module _ (terms : List Term) (once : AreDistinct terms) (index : List NumQuad) (below : AreBelow (length terms) index) (graphs : List ℕ) (are : IsPermutation (without_repeats nat_eq (graph_names index)) graphs) where
  -- the names of all graphs are the names of the dataset
  pub all_named : (F : Term → List (Solution Term)) → IsSameBag (flat_map F (map (term_at terms) graphs)) (flat_map F (names (quads_at terms index)))
  all_named F =
      IsPermutation-flat_map (same_solution term_eq) (solution_decides term_eq term_decides) F (map (term_at terms) graphs) (names (quads_at terms index))
      (IsPermutation-sym (names (quads_at terms index)) (map (term_at terms) graphs) (names_read terms once index below graphs are))
