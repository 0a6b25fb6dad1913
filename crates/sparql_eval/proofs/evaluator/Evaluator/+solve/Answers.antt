use Rattle.std.proofs.Common.{rules, ◌≡◌, ℕ, ◌<◌, Bool, false, not, ◌&&◌, List, [], ◌∷◌, ◌++◌, true, length, map, filter, flat_map, get_or, slice_get, nat_eq, nat_lt, replicate, set, None, Some, IfOk, refl, sym, ap, subst, ◌∙◌, arith}
use Rattle.std.specs.List.{list_all}
use Rattle.std.proofs.lemmas.Bool.{ltb-true}
use Rattle.std.proofs.lemmas.List.Sorted.{IsPermutation-refl}
use Rattle.std.proofs.lemmas.Option.{slice_get-get_or}
use Rattle.std.proofs.lemmas.Result.{IfOk-weaker}
use Rattle.rdf_core.specs.declared.term.Term.{Term}
use Rattle.rdf_core.proofs.TermLaws.{term_eq}
use Rattle.algebra_model.specs.Algebra as algebra
use Rattle.algebra_model.specs.Algebra.{Algebra, each_graph, is_name_below, is_within}
use Rattle.algebra_model.specs.Bag.{IsSameBag}
use Rattle.algebra_model.specs.Closed.{is_closed}
use Rattle.algebra_model.specs.Eval.{eval, named}
use Rattle.algebra_model.specs.Expression.{holds, val}
use Rattle.algebra_model.specs.Operators.{distinct, extend, join, left_join, minus, project, table}
use Rattle.algebra_model.specs.Renaming.{Each}
use Rattle.algebra_model.specs.Solution.{Solution}
use Rattle.dict_core.specs.Dict.{term_at}
use Rattle.dict_core.specs.NumQuad.{quads_at}
use Rattle.row_core.specs.RowList.{RowList}
use Rattle.expression_values.specs.ExpressionOf.{expression_of}
use Rattle.sparql_algebra.specs.AlgebraOf.{algebra_of, graph_name_of}
use Rattle.sparql_algebra.specs.declared.operator.GraphName.{GraphName}
use Rattle.sparql_algebra.specs.declared.operator.Operator.{Operator}
use Rattle.sparql_eval.specs.Computed.{TakesOnly}
use Rattle.sparql_eval.specs.Evaluated.{IsEvaluated, solutions_of}
use Rattle.sparql_eval.specs.Fitting.{IsEvaluatedWhere, fits}
use Rattle.sparql_eval.specs.Mentions.{may_bind, mentions}
use Rattle.sparql_eval.specs.Pairings.{paired}
use Rattle.sparql_eval.specs.Possible.{may_join, meets_some}
use Rattle.sparql_eval.specs.declared.equalities.Equality.{Equality}
use Rattle.sparql_eval.specs.TreeSolutions.{AreGraphs, Needed, NeededIn, graph_solutions, solutions_in, tree_solutions}
use Rattle.sparql_eval.proofs.NamedSteps.{all_named, each_more}
use Rattle.sparql_eval.proofs.ClosedSteps.{as_bag, closed_in, joined_in, joined_left, names_evaluated, no_graphs, none_in, some_graphs, takes_as_each, takes_closed, takes_then, takes_turned}
use Rattle.sparql_eval.proofs.FittingSteps.{where_all, where_any, where_any_ok, where_filtered, where_joined, where_right, where_whole}
use Rattle.sparql_eval.proofs.OutwardSteps.{apart_parts, extend_each, filter_each, graphs_kept, join_each, join_each_fitting, join_left_where, join_right_where, left_join_each, minus_each, takes_each_values, takes_pair, union_each}
use Rattle.sparql_eval.proofs.PossibleSteps.{after_possible, fits_may_join, meets_may_join, next_either, next_known, next_left, paired_drops, paired_keeps, possible_are, possible_suffice, where_possible}
use Rattle.sparql_eval.proofs.ReadingLaws.{Known, all_taken, grown_itself, grown_twice, read_by, rows_kept}
use Rattle.sparql_eval.proofs.EvaluateSteps.{active_kept, after_left, after_one, after_right, all_below, as_whole, index_kept, tree_kept, join_keeps, left_join_keeps, union_keeps, minus_keeps, extend_keeps, project_keeps, distinct_keeps}
use Rattle.sparql_eval.proofs.TreeSteps.{distinct_denotes, distinct_tree, extend_denotes, extend_tree, filter_denotes, filter_tree, graph_denotes, graph_tree, join_denotes, join_tree, left_join_denotes, left_join_tree, minus_denotes, minus_tree, project_denotes, project_tree, table_denotes, table_tree, union_denotes, union_tree}
use Rattle.sparql_eval.proofs.ComputedSteps.{all_graphs, takes_as, takes_both, takes_in_each, takes_nothing, takes_still, takes_values}
use Rattle.sparql_eval.proofs.TakingLaws.{takes_none}
use Rattle.sparql_eval.proofs.WithinSteps.{distinct_within, extend_below, extend_within, filter_within, graph_within, join_within, left_join_within, minus_within, project_within, union_within}
use Rattle.sparql_eval.proofs.evaluator.Evaluator.+solve.Goals as goal

-- ---- Pattern

pub solve-returns-in-Pattern-clause-needed : goal.solve-returns-in-Pattern-clause-needed
solve-returns-in-Pattern-clause-needed g t c =
    let s = c.args.self.now in
    takes_nothing (Needed c.args.dict s.index.now s.width c.args.active (algebra_of c.args.tree.now)) c.args.dict c.pattern_with.result c.pattern_with.ensures.same_dict

-- ---- Join

pub solve-solve_paired-requires-clause-index : goal.solve-solve_paired-requires-clause-index
solve-solve_paired-requires-clause-index g t c κs within = (index_kept c.args.dict c.in_ok-left-in-Join.dict c.in_ok-left-in-Join.ensures.evaluated.grown c.args.self.now.index.now c.requires.index).0

pub solve-solve_paired-requires-clause-active : goal.solve-solve_paired-requires-clause-active
solve-solve_paired-requires-clause-active g t c κs within = (active_kept c.args.dict c.in_ok-left-in-Join.dict c.in_ok-left-in-Join.ensures.evaluated.grown c.args.active c.requires.active).0

pub solve-returns-in_ok-left-in-Join-clause-evaluated : goal.solve-returns-in_ok-left-in-Join-clause-evaluated
solve-returns-in_ok-left-in-Join-clause-evaluated g t c =
    let s = c.args.self.now in
    let S : Operator → List (Solution Term) = λ tree. tree_solutions c.args.dict s.index.now s.width c.args.active tree in
    let h = c.in_ok-left-in-Join.ensures.evaluated in
    as_whole c.args.dict s.width c.solve_paired.result (join term_eq (S c.deref.result.now) (S c.deref-in-Join.result.now)) (S c.args.tree.now)
    (ap S c.in-Join.is ∙ join_tree c.args.dict s.index.now s.width c.args.active c.in-Join.left c.in-Join.right ∙ (λ i. join term_eq (S ((sym c.deref.ensures) i)) (S ((sym c.deref-in-Join.ensures) i))))
    (after_left c.args.dict c.in_ok-left-in-Join.dict s.width c.solve_paired.result (λ A B. join term_eq A B) (join_keeps) (S c.deref.result.now) (S c.deref-in-Join.result.now) (tree_solutions c.in_ok-left-in-Join.dict s.index.now s.width c.args.active c.deref-in-Join.result.now)
    (tree_kept c.args.dict c.in_ok-left-in-Join.dict h.grown s.index.now s.width c.args.active c.deref-in-Join.result.now c.requires.index c.requires.active)
    c.in_ok-left-in-Join.left h c.solve_paired.ensures.evaluated)

pub solve-returns-in_ok-left-in-Join-clause-needed : goal.solve-returns-in_ok-left-in-Join-clause-needed
solve-returns-in_ok-left-in-Join-clause-needed g t c =
    let s = c.args.self.now in
    let L = algebra_of c.deref.result.now in
    let R = algebra_of c.deref-in-Join.result.now in
    takes_both c.args.dict c.in_ok-left-in-Join.dict c.in_ok-left-in-Join.ensures.evaluated.grown s.index.now c.requires.index s.width c.args.active c.requires.active c.solve_paired.result
    L R (algebra_of c.args.tree.now) (algebra.Join L R) (ap algebra_of c.in-Join.is ∙ join_denotes c.in-Join.left c.in-Join.right ∙ (λ i. algebra.Join (algebra_of ((sym c.deref.ensures) i)) (algebra_of ((sym c.deref-in-Join.ensures) i)))) (λ x m. m)
    c.in_ok-left-in-Join.ensures.needed c.solve_paired.ensures.needed

-- ---- LeftJoin

pub solve-solve_paired-requires-in-LeftJoin-clause-index : goal.solve-solve_paired-requires-in-LeftJoin-clause-index
solve-solve_paired-requires-in-LeftJoin-clause-index g t c κs within = (index_kept c.args.dict c.in_ok-left-in-LeftJoin.dict c.in_ok-left-in-LeftJoin.ensures.evaluated.grown c.args.self.now.index.now c.requires.index).0

pub solve-solve_paired-requires-in-LeftJoin-clause-active : goal.solve-solve_paired-requires-in-LeftJoin-clause-active
solve-solve_paired-requires-in-LeftJoin-clause-active g t c κs within = (active_kept c.args.dict c.in_ok-left-in-LeftJoin.dict c.in_ok-left-in-LeftJoin.ensures.evaluated.grown c.args.active c.requires.active).0

pub solve-returns-in_ok-left-in-LeftJoin-clause-evaluated : goal.solve-returns-in_ok-left-in-LeftJoin-clause-evaluated
solve-returns-in_ok-left-in-LeftJoin-clause-evaluated g t c =
    let s = c.args.self.now in
    let S : Operator → List (Solution Term) = λ tree. tree_solutions c.args.dict s.index.now s.width c.args.active tree in
    let h = c.in_ok-left-in-LeftJoin.ensures.evaluated in
    as_whole c.args.dict s.width c.solve_paired-in-LeftJoin.result (left_join term_eq (holds (expression_of c.in-LeftJoin.condition)) (S c.deref-in-LeftJoin.result.now) (S c.deref-in-LeftJoin-2.result.now)) (S c.args.tree.now)
    (ap S c.in-LeftJoin.is ∙ left_join_tree c.args.dict s.index.now s.width c.args.active c.in-LeftJoin.left c.in-LeftJoin.right c.in-LeftJoin.condition ∙ (λ i. left_join term_eq (holds (expression_of c.in-LeftJoin.condition)) (S ((sym c.deref-in-LeftJoin.ensures) i)) (S ((sym c.deref-in-LeftJoin-2.ensures) i))))
    (after_left c.args.dict c.in_ok-left-in-LeftJoin.dict s.width c.solve_paired-in-LeftJoin.result (λ A B. left_join term_eq (holds (expression_of c.in-LeftJoin.condition)) A B) (left_join_keeps (holds (expression_of c.in-LeftJoin.condition))) (S c.deref-in-LeftJoin.result.now) (S c.deref-in-LeftJoin-2.result.now) (tree_solutions c.in_ok-left-in-LeftJoin.dict s.index.now s.width c.args.active c.deref-in-LeftJoin-2.result.now)
    (tree_kept c.args.dict c.in_ok-left-in-LeftJoin.dict h.grown s.index.now s.width c.args.active c.deref-in-LeftJoin-2.result.now c.requires.index c.requires.active)
    c.in_ok-left-in-LeftJoin.left h c.solve_paired-in-LeftJoin.ensures.evaluated)

pub solve-returns-in_ok-left-in-LeftJoin-clause-needed : goal.solve-returns-in_ok-left-in-LeftJoin-clause-needed
solve-returns-in_ok-left-in-LeftJoin-clause-needed g t c =
    let s = c.args.self.now in
    let L = algebra_of c.deref-in-LeftJoin.result.now in
    let R = algebra_of c.deref-in-LeftJoin-2.result.now in
    takes_both c.args.dict c.in_ok-left-in-LeftJoin.dict c.in_ok-left-in-LeftJoin.ensures.evaluated.grown s.index.now c.requires.index s.width c.args.active c.requires.active c.solve_paired-in-LeftJoin.result
    L R (algebra_of c.args.tree.now) (algebra.LeftJoin L R (expression_of c.in-LeftJoin.condition)) (ap algebra_of c.in-LeftJoin.is ∙ left_join_denotes c.in-LeftJoin.left c.in-LeftJoin.right c.in-LeftJoin.condition ∙ (λ i. algebra.LeftJoin (algebra_of ((sym c.deref-in-LeftJoin.ensures) i)) (algebra_of ((sym c.deref-in-LeftJoin-2.ensures) i)) (expression_of c.in-LeftJoin.condition))) (λ x m. m)
    c.in_ok-left-in-LeftJoin.ensures.needed c.solve_paired-in-LeftJoin.ensures.needed

-- ---- Union

pub solve-solve-requires-in-Union-2-clause-index : goal.solve-solve-requires-in-Union-2-clause-index
solve-solve-requires-in-Union-2-clause-index g t c κs within = (index_kept c.args.dict c.in_ok-left-in-Union.dict c.in_ok-left-in-Union.ensures.evaluated.grown c.args.self.now.index.now c.requires.index).0

pub solve-solve-requires-in-Union-2-clause-active : goal.solve-solve-requires-in-Union-2-clause-active
solve-solve-requires-in-Union-2-clause-active g t c κs within = (active_kept c.args.dict c.in_ok-left-in-Union.dict c.in_ok-left-in-Union.ensures.evaluated.grown c.args.active c.requires.active).0

pub solve-returns-in_ok-right-in-Union-clause-evaluated : goal.solve-returns-in_ok-right-in-Union-clause-evaluated
solve-returns-in_ok-right-in-Union-clause-evaluated g t c =
    let s = c.args.self.now in
    let S : Operator → List (Solution Term) = λ tree. tree_solutions c.args.dict s.index.now s.width c.args.active tree in
    let h = c.in_ok-left-in-Union.ensures.evaluated in
    as_whole c.args.dict s.width c.union_of.result ((S c.deref-in-Union.result.now) ++ (S c.deref-in-Union-2.result.now)) (S c.args.tree.now)
    (ap S c.in-Union.is ∙ union_tree c.args.dict s.index.now s.width c.args.active c.in-Union.left c.in-Union.right ∙ (λ i. (S ((sym c.deref-in-Union.ensures) i)) ++ (S ((sym c.deref-in-Union-2.ensures) i))))
    (after_left c.args.dict c.in_ok-left-in-Union.dict s.width c.union_of.result (λ A B. A ++ B) (union_keeps) (S c.deref-in-Union.result.now) (S c.deref-in-Union-2.result.now) (tree_solutions c.in_ok-left-in-Union.dict s.index.now s.width c.args.active c.deref-in-Union-2.result.now)
    (tree_kept c.args.dict c.in_ok-left-in-Union.dict h.grown s.index.now s.width c.args.active c.deref-in-Union-2.result.now c.requires.index c.requires.active)
    c.in_ok-left-in-Union.left h
    (after_right c.in_ok-left-in-Union.dict c.in_ok-right-in-Union.dict s.width c.union_of.result (λ A B. A ++ B) (union_keeps) (tree_solutions c.in_ok-left-in-Union.dict s.index.now s.width c.args.active c.deref-in-Union-2.result.now) c.in_ok-left-in-Union.left c.in_ok-right-in-Union.right h.wide h.known c.in_ok-right-in-Union.ensures.evaluated c.union_of.ensures.evaluated))

pub solve-returns-in_ok-right-in-Union-clause-needed : goal.solve-returns-in_ok-right-in-Union-clause-needed
solve-returns-in_ok-right-in-Union-clause-needed g t c =
    let s = c.args.self.now in
    let L = algebra_of c.deref-in-Union.result.now in
    let R = algebra_of c.deref-in-Union-2.result.now in
    takes_both c.args.dict c.in_ok-left-in-Union.dict c.in_ok-left-in-Union.ensures.evaluated.grown s.index.now c.requires.index s.width c.args.active c.requires.active c.union_of.result
    L R (algebra_of c.args.tree.now) (algebra.Union L R) (ap algebra_of c.in-Union.is ∙ union_denotes c.in-Union.left c.in-Union.right ∙ (λ i. algebra.Union (algebra_of ((sym c.deref-in-Union.ensures) i)) (algebra_of ((sym c.deref-in-Union-2.ensures) i)))) (λ x m. m)
    c.in_ok-left-in-Union.ensures.needed (takes_still (Needed c.in_ok-left-in-Union.dict s.index.now s.width c.args.active R) c.in_ok-left-in-Union.dict c.in_ok-right-in-Union.dict c.union_of.result c.in_ok-right-in-Union.ensures.needed c.union_of.ensures.same_dict)

-- ---- Minus

pub solve-solve_paired-requires-in-Minus-clause-index : goal.solve-solve_paired-requires-in-Minus-clause-index
solve-solve_paired-requires-in-Minus-clause-index g t c κs within = (index_kept c.args.dict c.in_ok-left-in-Minus.dict c.in_ok-left-in-Minus.ensures.evaluated.grown c.args.self.now.index.now c.requires.index).0

pub solve-solve_paired-requires-in-Minus-clause-active : goal.solve-solve_paired-requires-in-Minus-clause-active
solve-solve_paired-requires-in-Minus-clause-active g t c κs within = (active_kept c.args.dict c.in_ok-left-in-Minus.dict c.in_ok-left-in-Minus.ensures.evaluated.grown c.args.active c.requires.active).0

pub solve-returns-in_ok-left-in-Minus-clause-evaluated : goal.solve-returns-in_ok-left-in-Minus-clause-evaluated
solve-returns-in_ok-left-in-Minus-clause-evaluated g t c =
    let s = c.args.self.now in
    let S : Operator → List (Solution Term) = λ tree. tree_solutions c.args.dict s.index.now s.width c.args.active tree in
    let h = c.in_ok-left-in-Minus.ensures.evaluated in
    as_whole c.args.dict s.width c.solve_paired-in-Minus.result (minus term_eq (S c.deref-in-Minus.result.now) (S c.deref-in-Minus-2.result.now)) (S c.args.tree.now)
    (ap S c.in-Minus.is ∙ minus_tree c.args.dict s.index.now s.width c.args.active c.in-Minus.left c.in-Minus.right ∙ (λ i. minus term_eq (S ((sym c.deref-in-Minus.ensures) i)) (S ((sym c.deref-in-Minus-2.ensures) i))))
    (after_left c.args.dict c.in_ok-left-in-Minus.dict s.width c.solve_paired-in-Minus.result (λ A B. minus term_eq A B) (minus_keeps) (S c.deref-in-Minus.result.now) (S c.deref-in-Minus-2.result.now) (tree_solutions c.in_ok-left-in-Minus.dict s.index.now s.width c.args.active c.deref-in-Minus-2.result.now)
    (tree_kept c.args.dict c.in_ok-left-in-Minus.dict h.grown s.index.now s.width c.args.active c.deref-in-Minus-2.result.now c.requires.index c.requires.active)
    c.in_ok-left-in-Minus.left h c.solve_paired-in-Minus.ensures.evaluated)

pub solve-returns-in_ok-left-in-Minus-clause-needed : goal.solve-returns-in_ok-left-in-Minus-clause-needed
solve-returns-in_ok-left-in-Minus-clause-needed g t c =
    let s = c.args.self.now in
    let L = algebra_of c.deref-in-Minus.result.now in
    let R = algebra_of c.deref-in-Minus-2.result.now in
    takes_both c.args.dict c.in_ok-left-in-Minus.dict c.in_ok-left-in-Minus.ensures.evaluated.grown s.index.now c.requires.index s.width c.args.active c.requires.active c.solve_paired-in-Minus.result
    L R (algebra_of c.args.tree.now) (algebra.Minus L R) (ap algebra_of c.in-Minus.is ∙ minus_denotes c.in-Minus.left c.in-Minus.right ∙ (λ i. algebra.Minus (algebra_of ((sym c.deref-in-Minus.ensures) i)) (algebra_of ((sym c.deref-in-Minus-2.ensures) i)))) (λ x m. m)
    c.in_ok-left-in-Minus.ensures.needed c.solve_paired-in-Minus.ensures.needed

-- ---- Filter

pub solve-returns-in-Filter-clause-evaluated : goal.solve-returns-in-Filter-clause-evaluated
solve-returns-in-Filter-clause-evaluated g t c =
    let s = c.args.self.now in
    let S : Operator → List (Solution Term) = λ tree. tree_solutions c.args.dict s.index.now s.width c.args.active tree in
    let A = filter (holds (expression_of c.in-Filter.condition)) (S c.deref-in-Filter.result.now) in
    as_whole c.args.dict s.width c.solve_filter_where.result A (S c.args.tree.now)
    (ap S c.in-Filter.is ∙ filter_tree c.args.dict s.index.now s.width c.args.active c.in-Filter.condition c.in-Filter.inner ∙ (λ i. filter (holds (expression_of c.in-Filter.condition)) (S ((sym c.deref-in-Filter.ensures) i))))
    (IfOk-weaker c.solve_filter_where.result (λ x. IsEvaluatedWhere c.args.dict s.width (fits []) A x.0 x.1) (λ x. IsEvaluated c.args.dict s.width A x.0 x.1)
    (λ x h. where_all c.args.dict s.width A x.0 x.1 h) c.solve_filter_where.ensures.evaluated)

pub solve-returns-in-Filter-clause-needed : goal.solve-returns-in-Filter-clause-needed
solve-returns-in-Filter-clause-needed g t c =
    let s = c.args.self.now in
    takes_as c.args.dict s.index.now s.width c.args.active c.solve_filter_where.result (algebra_of c.args.tree.now) (algebra.Filter (expression_of c.in-Filter.condition) (algebra_of c.deref-in-Filter.result.now))
    (ap algebra_of c.in-Filter.is ∙ filter_denotes c.in-Filter.condition c.in-Filter.inner ∙ (λ i. algebra.Filter (expression_of c.in-Filter.condition) (algebra_of ((sym c.deref-in-Filter.ensures) i))))
    c.solve_filter_where.ensures.needed

-- ---- Extend

pub solve-returns-in_ok-rows-in-Extend-clause-evaluated : goal.solve-returns-in_ok-rows-in-Extend-clause-evaluated
solve-returns-in_ok-rows-in-Extend-clause-evaluated g t c =
    let s = c.args.self.now in
    let S : Operator → List (Solution Term) = λ tree. tree_solutions c.args.dict s.index.now s.width c.args.active tree in
    as_whole c.args.dict s.width c.extend.result (extend c.in-Extend.variable (val (expression_of c.in-Extend.expression)) (S c.deref-in-Extend.result.now)) (S c.args.tree.now)
    (ap S c.in-Extend.is ∙ extend_tree c.args.dict s.index.now s.width c.args.active c.in-Extend.variable c.in-Extend.expression c.in-Extend.inner ∙ (λ i. extend c.in-Extend.variable (val (expression_of c.in-Extend.expression)) (S ((sym c.deref-in-Extend.ensures) i))))
    (after_one c.args.dict c.in_ok-rows-in-Extend.dict s.width c.extend.result (extend c.in-Extend.variable (val (expression_of c.in-Extend.expression))) (extend_keeps c.in-Extend.variable (val (expression_of c.in-Extend.expression))) (S c.deref-in-Extend.result.now) c.in_ok-rows-in-Extend.rows c.in_ok-rows-in-Extend.ensures.evaluated c.extend.ensures.evaluated)

pub solve-returns-in_ok-rows-in-Extend-clause-needed : goal.solve-returns-in_ok-rows-in-Extend-clause-needed
solve-returns-in_ok-rows-in-Extend-clause-needed g t c =
    let s = c.args.self.now in
    takes_as c.args.dict s.index.now s.width c.args.active c.extend.result (algebra_of c.args.tree.now) (algebra.Extend c.in-Extend.variable (expression_of c.in-Extend.expression) (algebra_of c.deref-in-Extend.result.now))
    (ap algebra_of c.in-Extend.is ∙ extend_denotes c.in-Extend.variable c.in-Extend.expression c.in-Extend.inner ∙ (λ i. algebra.Extend c.in-Extend.variable (expression_of c.in-Extend.expression) (algebra_of ((sym c.deref-in-Extend.ensures) i))))
    (takes_values c.args.dict s.index.now s.width c.args.active c.extend.result c.in-Extend.variable (expression_of c.in-Extend.expression) (algebra_of c.deref-in-Extend.result.now)
    c.in_ok-rows-in-Extend.dict c.in_ok-rows-in-Extend.rows c.in_ok-rows-in-Extend.ensures.evaluated c.in_ok-rows-in-Extend.ensures.needed c.extend.ensures.needed)

-- ---- Project

pub solve-returns-in_ok-rows-in-Project-clause-evaluated : goal.solve-returns-in_ok-rows-in-Project-clause-evaluated
solve-returns-in_ok-rows-in-Project-clause-evaluated g t c =
    let s = c.args.self.now in
    let S : Operator → List (Solution Term) = λ tree. tree_solutions c.args.dict s.index.now s.width c.args.active tree in
    as_whole c.args.dict s.width c.project_of.result (project c.as_slice-in-Project.result.now (S c.deref-in-Project.result.now)) (S c.args.tree.now)
    (ap S c.in-Project.is ∙ project_tree c.args.dict s.index.now s.width c.args.active c.in-Project.variables c.in-Project.inner ∙ (λ i. project ((sym c.as_slice-in-Project.ensures.value) i) (S ((sym c.deref-in-Project.ensures) i))))
    (after_one c.args.dict c.in_ok-rows-in-Project.dict s.width c.project_of.result (project c.as_slice-in-Project.result.now) (project_keeps c.as_slice-in-Project.result.now) (S c.deref-in-Project.result.now) c.in_ok-rows-in-Project.rows c.in_ok-rows-in-Project.ensures.evaluated c.project_of.ensures.evaluated)

pub solve-returns-in_ok-rows-in-Project-clause-needed : goal.solve-returns-in_ok-rows-in-Project-clause-needed
solve-returns-in_ok-rows-in-Project-clause-needed g t c =
    let s = c.args.self.now in
    takes_as c.args.dict s.index.now s.width c.args.active c.project_of.result (algebra_of c.args.tree.now) (algebra.Project c.as_slice-in-Project.result.now (algebra_of c.deref-in-Project.result.now))
    (ap algebra_of c.in-Project.is ∙ project_denotes c.in-Project.variables c.in-Project.inner ∙ (λ i. algebra.Project ((sym c.as_slice-in-Project.ensures.value) i) (algebra_of ((sym c.deref-in-Project.ensures) i))))
    (takes_still (Needed c.args.dict s.index.now s.width c.args.active (algebra_of c.deref-in-Project.result.now)) c.args.dict c.in_ok-rows-in-Project.dict c.project_of.result c.in_ok-rows-in-Project.ensures.needed c.project_of.ensures.same_dict)

-- ---- Distinct

pub solve-returns-in_ok-rows-in-Distinct-clause-evaluated : goal.solve-returns-in_ok-rows-in-Distinct-clause-evaluated
solve-returns-in_ok-rows-in-Distinct-clause-evaluated g t c =
    let s = c.args.self.now in
    let S : Operator → List (Solution Term) = λ tree. tree_solutions c.args.dict s.index.now s.width c.args.active tree in
    as_whole c.args.dict s.width c.distinct.result (distinct term_eq (S c.deref-in-Distinct.result.now)) (S c.args.tree.now)
    (ap S c.in-Distinct.is ∙ distinct_tree c.args.dict s.index.now s.width c.args.active c.in-Distinct.inner ∙ (λ i. distinct term_eq (S ((sym c.deref-in-Distinct.ensures) i))))
    (after_one c.args.dict c.in_ok-rows-in-Distinct.dict s.width c.distinct.result (distinct term_eq) (distinct_keeps) (S c.deref-in-Distinct.result.now) c.in_ok-rows-in-Distinct.rows c.in_ok-rows-in-Distinct.ensures.evaluated c.distinct.ensures.evaluated)

pub solve-returns-in_ok-rows-in-Distinct-clause-needed : goal.solve-returns-in_ok-rows-in-Distinct-clause-needed
solve-returns-in_ok-rows-in-Distinct-clause-needed g t c =
    let s = c.args.self.now in
    takes_as c.args.dict s.index.now s.width c.args.active c.distinct.result (algebra_of c.args.tree.now) (algebra.Distinct (algebra_of c.deref-in-Distinct.result.now))
    (ap algebra_of c.in-Distinct.is ∙ distinct_denotes c.in-Distinct.inner ∙ (λ i. algebra.Distinct (algebra_of ((sym c.deref-in-Distinct.ensures) i))))
    (takes_still (Needed c.args.dict s.index.now s.width c.args.active (algebra_of c.deref-in-Distinct.result.now)) c.args.dict c.in_ok-rows-in-Distinct.dict c.distinct.result c.in_ok-rows-in-Distinct.ensures.needed c.distinct.ensures.same_dict)

-- ---- an operator over the rows of its inputs

pub solve_paired-pair-requires-clause-known_left : goal.solve_paired-pair-requires-clause-known_left
solve_paired-pair-requires-clause-known_left g t c κs within = (rows_kept c.args.dict c.in_ok-right.dict c.in_ok-right.ensures.evaluated.grown c.args.left.rows c.requires.known_left).0

pub solve_paired-returns-clause-evaluated : goal.solve_paired-returns-clause-evaluated
solve_paired-returns-clause-evaluated g t c =
    let s = c.args.self.now in
    let S : Operator → List (Solution Term) = λ tree. tree_solutions c.args.dict s.index.now s.width c.args.active tree in
    after_possible c.args.dict c.in_ok-right.dict s.width c.pair.result (paired c.args.pairing) (paired_keeps c.args.pairing) (paired_drops c.args.pairing) (S c.args.right.now) c.args.left c.in_ok-right.right c.requires.known_left c.in_ok-right.ensures.evaluated c.pair.ensures.evaluated

pub solve_paired-returns-clause-needed : goal.solve_paired-returns-clause-needed
solve_paired-returns-clause-needed g t c =
    let s = c.args.self.now in
    takes_still (Needed c.args.dict s.index.now s.width c.args.active (algebra_of c.args.right.now)) c.args.dict c.in_ok-right.dict c.pair.result c.in_ok-right.ensures.needed c.pair.ensures.same_dict

pub solve-union_of-requires-clause-known_left : goal.solve-union_of-requires-clause-known_left
solve-union_of-requires-clause-known_left g t c = (rows_kept c.in_ok-left-in-Union.dict c.in_ok-right-in-Union.dict c.in_ok-right-in-Union.ensures.evaluated.grown c.in_ok-left-in-Union.left.rows c.in_ok-left-in-Union.ensures.evaluated.known).0

-- ---- Table

pub solve-table-requires : goal.solve-table-requires
solve-table-requires g t c = record {
  below = all_below c.args.self.now.width c.as_slice-variables.result.now
      (subst (λ (vs : List ℕ). list_all (λ v. nat_lt v c.args.self.now.width) vs ≡ true) (sym c.as_slice-variables.ensures.value)
      (subst (λ (A : Algebra). is_within c.args.self.now.width A ≡ true) (ap algebra_of c.in-Table.is ∙ table_denotes c.in-Table.variables c.in-Table.rows) c.requires.within));
}

pub solve-returns-in-Table-clause-evaluated : goal.solve-returns-in-Table-clause-evaluated
solve-returns-in-Table-clause-evaluated g t c =
    let s = c.args.self.now in
    let S : Operator → List (Solution Term) = λ tree. tree_solutions c.args.dict s.index.now s.width c.args.active tree in
    let is : S c.args.tree.now ≡ table s.width c.as_slice-variables.result.now (map (λ row. row.items) c.as_slice-in-Table.result.now) =
    ap S c.in-Table.is ∙ table_tree c.args.dict s.index.now s.width c.args.active c.in-Table.variables c.in-Table.rows ∙ (λ i. table s.width ((sym c.as_slice-variables.ensures.value) i) (map (λ row. row.items) ((sym c.as_slice-in-Table.ensures.value) i))) in
    subst (λ (A : List (Solution Term)). IfOk c.table.result (λ r. IsEvaluated c.args.dict s.width A r.0 r.1)) (sym is) c.table.ensures.evaluated

pub solve-returns-in-Table-clause-needed : goal.solve-returns-in-Table-clause-needed
solve-returns-in-Table-clause-needed g t c =
    let s = c.args.self.now in
    takes_as c.args.dict s.index.now s.width c.args.active c.table.result (algebra_of c.args.tree.now) (algebra.Table c.as_slice-variables.result.now (map (λ row. row.items) c.as_slice-in-Table.result.now))
    (ap algebra_of c.in-Table.is ∙ table_denotes c.in-Table.variables c.in-Table.rows ∙ (λ i. algebra.Table ((sym c.as_slice-variables.ensures.value) i) (map (λ row. row.items) ((sym c.as_slice-in-Table.ensures.value) i)))) c.table.ensures.needed

-- ---- Graph

pub solve-returns-in-Graph-clause-evaluated : goal.solve-returns-in-Graph-clause-evaluated
solve-returns-in-Graph-clause-evaluated g t c =
    let s = c.args.self.now in
    let S : Operator → List (Solution Term) = λ tree. tree_solutions c.args.dict s.index.now s.width c.args.active tree in
    let is : S c.args.tree.now ≡ graph_solutions c.args.dict s.index.now s.width (graph_name_of c.in-Graph.name) c.deref-in-Graph.result.now =
    ap S c.in-Graph.is ∙ graph_tree c.args.dict s.index.now s.width c.args.active c.in-Graph.name c.in-Graph.inner ∙ ap (λ (tree : Operator). graph_solutions c.args.dict s.index.now s.width (graph_name_of c.in-Graph.name) tree) (sym c.deref-in-Graph.ensures) in
    subst (λ (A : List (Solution Term)). IfOk c.solve_graph.result (λ r. IsEvaluated c.args.dict s.width A r.0 r.1)) (sym is) c.solve_graph.ensures.evaluated

pub solve-returns-in-Graph-clause-needed : goal.solve-returns-in-Graph-clause-needed
solve-returns-in-Graph-clause-needed g t c =
    let s = c.args.self.now in
    takes_as c.args.dict s.index.now s.width c.args.active c.solve_graph.result (algebra_of c.args.tree.now) (algebra.Graph (graph_name_of c.in-Graph.name) (algebra_of c.deref-in-Graph.result.now))
    (ap algebra_of c.in-Graph.is ∙ graph_denotes c.in-Graph.name c.in-Graph.inner ∙ (λ i. algebra.Graph (graph_name_of c.in-Graph.name) (algebra_of ((sym c.deref-in-Graph.ensures) i)))) c.solve_graph.ensures.needed

pub solve_graph-solve_each-requires-clause-graphs : goal.solve_graph-solve_each-requires-clause-graphs
solve_graph-solve_each-requires-clause-graphs g t c κs within =
    all_graphs c.args.dict c.len-distinct.ensures.distinct c.args.self.now.index.now c.requires.index c.graphs.result.now c.graphs.ensures.names

pub solve_graph-returns-in-Variable-clause-evaluated : goal.solve_graph-returns-in-Variable-clause-evaluated
solve_graph-returns-in-Variable-clause-evaluated g t c =
    let s = c.args.self.now in
    let terms = c.args.dict in
    let v = c.in-Variable.variable in
    let F : Term → List (Solution Term) = λ i. join term_eq (eval s.width (quads_at terms s.index.now) (Some i) (algebra_of c.args.inner.now)) (named s.width v i) in
    subst (λ (n : GraphName). IfOk c.solve_each.result (λ r. IsEvaluated terms s.width (graph_solutions terms s.index.now s.width (graph_name_of n) c.args.inner.now) r.0 r.1)) (sym c.in-Variable.is)
    (as_bag terms s.width c.solve_each.result (flat_map F (map (term_at terms) c.graphs.result.now)) (graph_solutions terms s.index.now s.width (each_graph v) c.args.inner.now)
    (all_named terms c.len-distinct.ensures.distinct s.index.now c.requires.index c.graphs.result.now c.graphs.ensures.names F) c.solve_each.ensures.evaluated)

pub solve_graph-returns-in-Variable-clause-needed : goal.solve_graph-returns-in-Variable-clause-needed
solve_graph-returns-in-Variable-clause-needed g t c =
    let s = c.args.self.now in
    subst (λ (n : GraphName). IfOk c.solve_each.result (λ r. TakesOnly (NeededIn c.args.dict s.index.now s.width (graph_name_of n) (algebra_of c.args.inner.now)) c.args.dict r.1)) (sym c.in-Variable.is) c.solve_each.ensures.needed

-- ---- some graphs

pub solve_each-solve_paired-requires-clause-known_left : goal.solve_each-solve_paired-requires-clause-known_left
solve_each-solve_paired-requires-clause-known_left g t c κs within =
    let s = c.args.self.now in
    (names_evaluated c.args.dict s.width c.args.variable c.args.graphs.now (λ k n at. (c.requires.graphs.1 k n at).0) c.in_ok-names.names c.in_ok-names.ensures.width c.in_ok-names.ensures.rows).known

pub solve_each-returns-then-is_closed-clause-evaluated : goal.solve_each-returns-then-is_closed-clause-evaluated
solve_each-returns-then-is_closed-clause-evaluated g t c =
    let s = c.args.self.now in
    let terms = c.args.dict in
    let C = algebra_of c.args.inner.now in
    let A = flat_map (named s.width c.args.variable) (map (term_at terms) c.args.graphs.now) in
    let B = tree_solutions terms s.index.now s.width None c.args.inner.now in
    let names = names_evaluated terms s.width c.args.variable c.args.graphs.now (λ k n at. (c.requires.graphs.1 k n at).0) c.in_ok-names.names c.in_ok-names.ensures.width c.in_ok-names.ensures.rows in
    as_whole terms s.width c.solve_paired.result (join term_eq A B) (solutions_in terms s.index.now s.width c.args.variable c.args.graphs.now C)
    (closed_in s.width (quads_at terms s.index.now) c.args.variable (map (term_at terms) c.args.graphs.now) C (sym c.is_closed.ensures.value ∙ c.if-is_closed.true))
    (after_left terms terms s.width c.solve_paired.result (join term_eq) join_keeps A B B refl c.in_ok-names.names names c.solve_paired.ensures.evaluated)

pub solve_each-returns-then-is_closed-clause-needed : goal.solve_each-returns-then-is_closed-clause-needed
solve_each-returns-then-is_closed-clause-needed g t c =
    let s = c.args.self.now in
    takes_closed c.args.dict s.index.now s.width c.args.variable c.args.graphs.now c.requires.graphs c.solve_paired.result (algebra_of c.args.inner.now) (some_graphs c.args.graphs.now c.if-is_empty.ensures) (sym c.is_closed.ensures.value ∙ c.if-is_closed.true) c.solve_paired.ensures.needed

-- ---- no graph

pub solve_each-returns-then-is_empty-clause-evaluated : goal.solve_each-returns-then-is_empty-clause-evaluated
solve_each-returns-then-is_empty-clause-evaluated g t c =
    none_in c.args.dict c.args.self.now.index.now c.args.self.now.width c.args.variable c.args.graphs.now (no_graphs c.args.graphs.now c.if-is_empty.ensures) (algebra_of c.args.inner.now)
    c.new.result (ap (λ (r : RowList). r.width) c.new.ensures.empty) (ap (λ (r : RowList). r.rows) c.new.ensures.empty)

-- ---- a join with a closed tree

pub solve_each-solve_paired-requires-then-is_closed-2-clause-index : goal.solve_each-solve_paired-requires-then-is_closed-2-clause-index
solve_each-solve_paired-requires-then-is_closed-2-clause-index g t c κs within = (index_kept c.args.dict c.in_ok-rows.dict c.in_ok-rows.ensures.evaluated.grown c.args.self.now.index.now c.requires.index).0

pub solve_each-solve_paired-requires-then-is_closed-2-clause-within : goal.solve_each-solve_paired-requires-then-is_closed-2-clause-within
solve_each-solve_paired-requires-then-is_closed-2-clause-within g t c κs within =
    subst (λ (T : Operator). is_within c.args.self.now.width (algebra_of T) ≡ true) (sym c.deref-then-is_closed-2-2.ensures) (join_within c.args.self.now.width c.in-Join.left c.in-Join.right c.args.inner.now c.in-Join.is c.requires.within).1

pub solve_each-returns-then-is_closed-2-clause-evaluated : goal.solve_each-returns-then-is_closed-2-clause-evaluated
solve_each-returns-then-is_closed-2-clause-evaluated g t c =
    let s = c.args.self.now in
    let terms = c.args.dict in
    let v = c.args.variable in
    let graphs = c.args.graphs.now in
    let whole : Algebra → List (Solution Term) = λ A. solutions_in terms s.index.now s.width v graphs A in
    let L = algebra_of c.in-Join.left.value in
    let C = algebra_of c.in-Join.right.value in
    let closed : is_closed C ≡ true = ap (λ (T : Operator). is_closed (algebra_of T)) (sym c.deref.ensures) ∙ sym c.is_closed-in-Join.ensures.value ∙ c.if-is_closed-2.true in
    let h = c.in_ok-rows.ensures.evaluated in
    as_whole terms s.width c.solve_paired-then-is_closed-2.result (join term_eq (whole L) (tree_solutions terms s.index.now s.width None c.in-Join.right.value)) (whole (algebra_of c.args.inner.now))
    (ap (λ (T : Operator). whole (algebra_of T)) c.in-Join.is ∙ ap whole (join_denotes c.in-Join.left c.in-Join.right) ∙ joined_in s.width (quads_at terms s.index.now) v (map (term_at terms) graphs) L C closed)
    (after_left terms c.in_ok-rows.dict s.width c.solve_paired-then-is_closed-2.result (join term_eq) join_keeps (whole L) (tree_solutions terms s.index.now s.width None c.in-Join.right.value)
    (tree_solutions c.in_ok-rows.dict s.index.now s.width None c.deref-then-is_closed-2-2.result.now)
    (tree_kept terms c.in_ok-rows.dict h.grown s.index.now s.width None c.deref-then-is_closed-2-2.result.now c.requires.index (λ n e. cc) ∙ ap (tree_solutions terms s.index.now s.width None) c.deref-then-is_closed-2-2.ensures)
    c.in_ok-rows.rows (subst (λ (T : Operator). IsEvaluated terms s.width (whole (algebra_of T)) c.in_ok-rows.rows c.in_ok-rows.dict) c.deref-then-is_closed-2.ensures h) c.solve_paired-then-is_closed-2.ensures.evaluated)

pub solve_each-returns-then-is_closed-2-clause-needed : goal.solve_each-returns-then-is_closed-2-clause-needed
solve_each-returns-then-is_closed-2-clause-needed g t c =
    let s = c.args.self.now in
    let terms = c.args.dict in
    let v = c.args.variable in
    let L = algebra_of c.in-Join.left.value in
    let C = algebra_of c.in-Join.right.value in
    let closed : is_closed C ≡ true = ap (λ (T : Operator). is_closed (algebra_of T)) (sym c.deref.ensures) ∙ sym c.is_closed-in-Join.ensures.value ∙ c.if-is_closed-2.true in
    let is : algebra_of c.args.inner.now ≡ algebra.Join L C = ap algebra_of c.in-Join.is ∙ join_denotes c.in-Join.left c.in-Join.right in
    let some = some_graphs c.args.graphs.now c.if-is_empty.ensures in
    takes_as_each terms s.index.now s.width v c.solve_paired-then-is_closed-2.result (algebra_of c.args.inner.now) (algebra.Join L C) is
    (takes_then terms s.index.now s.width v c.args.graphs.now c.requires.graphs c.solve_paired-then-is_closed-2.result L C c.in_ok-rows.dict c.in_ok-rows.ensures.evaluated.grown c.requires.index some closed
    (subst (λ (T : Operator). TakesOnly (NeededIn terms s.index.now s.width (each_graph v) (algebra_of T)) terms c.in_ok-rows.dict) c.deref-then-is_closed-2.ensures c.in_ok-rows.ensures.needed)
    (subst (λ (T : Operator). IfOk c.solve_paired-then-is_closed-2.result (λ x. TakesOnly (Needed c.in_ok-rows.dict s.index.now s.width None (algebra_of T)) c.in_ok-rows.dict x.1)) c.deref-then-is_closed-2-2.ensures c.solve_paired-then-is_closed-2.ensures.needed))

pub solve_each-solve_paired-requires-then-is_closed-3-clause-index : goal.solve_each-solve_paired-requires-then-is_closed-3-clause-index
solve_each-solve_paired-requires-then-is_closed-3-clause-index g t c κs within = (index_kept c.args.dict c.in_ok-others.dict c.in_ok-others.ensures.evaluated.grown c.args.self.now.index.now c.requires.index).0

pub solve_each-solve_paired-requires-then-is_closed-3-clause-within : goal.solve_each-solve_paired-requires-then-is_closed-3-clause-within
solve_each-solve_paired-requires-then-is_closed-3-clause-within g t c κs within =
    subst (λ (T : Operator). is_within c.args.self.now.width (algebra_of T) ≡ true) (sym c.deref-then-is_closed-3-2.ensures) (join_within c.args.self.now.width c.in-Join.left c.in-Join.right c.args.inner.now c.in-Join.is c.requires.within).0

pub solve_each-returns-then-is_closed-3-clause-evaluated : goal.solve_each-returns-then-is_closed-3-clause-evaluated
solve_each-returns-then-is_closed-3-clause-evaluated g t c =
    let s = c.args.self.now in
    let terms = c.args.dict in
    let v = c.args.variable in
    let graphs = c.args.graphs.now in
    let whole : Algebra → List (Solution Term) = λ A. solutions_in terms s.index.now s.width v graphs A in
    let C = algebra_of c.in-Join.left.value in
    let R = algebra_of c.in-Join.right.value in
    let closed : is_closed C ≡ true = ap (λ (T : Operator). is_closed (algebra_of T)) (sym c.deref-in-Join.ensures) ∙ sym c.is_closed-in-Join-2.ensures.value ∙ c.if-is_closed-3.true in
    let h = c.in_ok-others.ensures.evaluated in
    let J = join term_eq (whole R) (tree_solutions terms s.index.now s.width None c.in-Join.left.value) in
    as_whole terms s.width c.solve_paired-then-is_closed-3.result (whole (algebra.Join C R)) (whole (algebra_of c.args.inner.now))
    (ap (λ (T : Operator). whole (algebra_of T)) c.in-Join.is ∙ ap whole (join_denotes c.in-Join.left c.in-Join.right))
    (as_bag terms s.width c.solve_paired-then-is_closed-3.result J (whole (algebra.Join C R))
    (joined_left s.width (quads_at terms s.index.now) v (map (term_at terms) graphs) C R closed)
    (after_left terms c.in_ok-others.dict s.width c.solve_paired-then-is_closed-3.result (join term_eq) join_keeps (whole R) (tree_solutions terms s.index.now s.width None c.in-Join.left.value)
    (tree_solutions c.in_ok-others.dict s.index.now s.width None c.deref-then-is_closed-3-2.result.now)
    (tree_kept terms c.in_ok-others.dict h.grown s.index.now s.width None c.deref-then-is_closed-3-2.result.now c.requires.index (λ n e. cc) ∙ ap (tree_solutions terms s.index.now s.width None) c.deref-then-is_closed-3-2.ensures)
    c.in_ok-others.others (subst (λ (T : Operator). IsEvaluated terms s.width (whole (algebra_of T)) c.in_ok-others.others c.in_ok-others.dict) c.deref-then-is_closed-3.ensures h) c.solve_paired-then-is_closed-3.ensures.evaluated))

pub solve_each-returns-then-is_closed-3-clause-needed : goal.solve_each-returns-then-is_closed-3-clause-needed
solve_each-returns-then-is_closed-3-clause-needed g t c =
    let s = c.args.self.now in
    let terms = c.args.dict in
    let v = c.args.variable in
    let C = algebra_of c.in-Join.left.value in
    let R = algebra_of c.in-Join.right.value in
    let closed : is_closed C ≡ true = ap (λ (T : Operator). is_closed (algebra_of T)) (sym c.deref-in-Join.ensures) ∙ sym c.is_closed-in-Join-2.ensures.value ∙ c.if-is_closed-3.true in
    let is : algebra_of c.args.inner.now ≡ algebra.Join C R = ap algebra_of c.in-Join.is ∙ join_denotes c.in-Join.left c.in-Join.right in
    let some = some_graphs c.args.graphs.now c.if-is_empty.ensures in
    takes_as_each terms s.index.now s.width v c.solve_paired-then-is_closed-3.result (algebra_of c.args.inner.now) (algebra.Join C R) is
    (takes_turned terms s.index.now s.width v c.solve_paired-then-is_closed-3.result R C
    (takes_then terms s.index.now s.width v c.args.graphs.now c.requires.graphs c.solve_paired-then-is_closed-3.result R C c.in_ok-others.dict c.in_ok-others.ensures.evaluated.grown c.requires.index some closed
    (subst (λ (T : Operator). TakesOnly (NeededIn terms s.index.now s.width (each_graph v) (algebra_of T)) terms c.in_ok-others.dict) c.deref-then-is_closed-3.ensures c.in_ok-others.ensures.needed)
    (subst (λ (T : Operator). IfOk c.solve_paired-then-is_closed-3.result (λ x. TakesOnly (Needed c.in_ok-others.dict s.index.now s.width None (algebra_of T)) c.in_ok-others.dict x.1)) c.deref-then-is_closed-3-2.ensures c.solve_paired-then-is_closed-3.ensures.needed)))

-- ---- one graph after another

pub solve_in_turn-solve-requires-clause-active : goal.solve_in_turn-solve-requires-clause-active
solve_in_turn-solve-requires-clause-active g t c κs within =
    let terms = c.args.dict in
    let graphs = c.args.graphs.now in
    let n = get_or graphs c.loop-i.i 0 in
    let at : slice_get graphs c.loop-i.i ≡ Some n = slice_get-get_or graphs c.loop-i.i 0 (omega arith) in
    let low = (c.requires.graphs.1 c.loop-i.i n at).0 in
    (active_kept terms c.loop-i.dict c.loop-i.invariant.grown (Some n) (λ m e. let p : n ≡ m = cc in subst (λ (x : ℕ). x < length terms) p low)).0

pub solve_in_turn-loop-i-init : goal.solve_in_turn-loop-i-init
solve_in_turn-loop-i-init g t c =
    let e = c.new-made.ensures.empty in
    let none = ap (λ (r : RowList). r.rows) e in
    record {
      width = ap (λ (r : RowList). r.width) e;
      grown = grown_itself c.args.dict;
      takes = takes_none (NeededIn c.args.dict c.args.self.now.index.now c.args.self.now.width (each_graph c.args.variable) (algebra_of c.args.inner.now)) c.args.dict;
      known = subst (Each (Known c.args.dict)) (sym none) tt;
      bag = subst (λ (l : List (Solution ℕ)). IsSameBag (map (read_by c.args.dict) l) []) (sym none) (IsPermutation-refl []);
    }

pub solve_in_turn-loop-i-preserved : goal.solve_in_turn-loop-i-preserved
solve_in_turn-loop-i-preserved g t c =
    let was = c.loop-i.invariant in
    let s = c.args.self.now in
    let terms = c.args.dict in
    let now = c.loop-i.dict in
    let later = c.in_ok-rows.grown in
    let h = c.in_ok-rows.ensures.evaluated in
    let tree = c.args.inner.now in
    let P : Term → List (Solution Term) = λ i. eval s.width (quads_at terms s.index.now) (Some i) (algebra_of tree) in
    let graphs = c.args.graphs.now in
    let n = get_or graphs c.loop-i.i 0 in
    let at : slice_get graphs c.loop-i.i ≡ Some n = slice_get-get_or graphs c.loop-i.i 0 (omega arith) in
    let is = c.requires.graphs.1 c.loop-i.i n at in
    let low = is.0 in
    let got = subst (λ (A : List (Solution Term)). IsEvaluated now s.width A c.in_ok-rows.rows later)
    (tree_kept terms now was.grown s.index.now s.width (Some n) tree c.requires.index (λ m e. let p : n ≡ m = cc in subst (λ (x : ℕ). x < length terms) p low)) h in
    let added = c.in_ok-add_graph.ensures.added ∙ ap (λ (v : ℕ). c.loop-i.made.rows ++ join nat_eq c.in_ok-rows.rows.rows (set (replicate v None) c.args.variable (Some n) ∷ [])) c.in_ok-rows.ensures.evaluated.wide in
    let grown = grown_twice terms now later was.grown h.grown in
    let more = each_more terms now later c.len-still_distinct.ensures.distinct was.grown h.grown grown s.width c.args.variable P
    c.loop-i.made.rows c.add_graph.new.made.rows c.in_ok-rows.rows graphs c.loop-i.i n at low was.known was.bag got added in
    record {
      width = c.in_ok-add_graph.ensures.width ∙ was.width;
      grown = grown;
      takes = takes_in_each terms s.index.now s.width (algebra_of tree) c.requires.index c.args.variable n is now later was.grown was.takes c.in_ok-rows.ensures.needed;
      known = more.0;
      bag = more.1;
    }

pub solve_in_turn-returns-clause-evaluated : goal.solve_in_turn-returns-clause-evaluated
solve_in_turn-returns-clause-evaluated g t c =
    let was = c.loop-i.invariant in
    let s = c.args.self.now in
    let terms = c.args.dict in
    let now = c.loop-i.dict in
    let graphs = c.args.graphs.now in
    let F : Term → List (Solution Term) = λ i. join term_eq (eval s.width (quads_at terms s.index.now) (Some i) (algebra_of c.args.inner.now)) (named s.width c.args.variable i) in
    record {
      grown = was.grown;
      wide = was.width;
      known = was.known;
      bag = subst (λ (l : List ℕ). IsSameBag (map (read_by now) c.loop-i.made.rows) (flat_map F (map (term_at terms) l))) (all_taken graphs c.loop-i.i (omega arith)) was.bag;
    }

pub solve_in_turn-returns-clause-needed : goal.solve_in_turn-returns-clause-needed
solve_in_turn-returns-clause-needed g t c = c.loop-i.invariant.takes

-- ---- what the calls require

pub solve-pattern_with-requires-clause-index : goal.solve-pattern_with-requires-clause-index
solve-pattern_with-requires-clause-index g t c κs within = c.requires.index

pub solve-pattern_with-requires-clause-active : goal.solve-pattern_with-requires-clause-active
solve-pattern_with-requires-clause-active g t c κs within = c.requires.active

pub solve-solve-requires-clause-index : goal.solve-solve-requires-clause-index
solve-solve-requires-clause-index g t c κs within = c.requires.index

pub solve-solve-requires-clause-active : goal.solve-solve-requires-clause-active
solve-solve-requires-clause-active g t c κs within = c.requires.active

pub solve-solve-requires-in-LeftJoin-clause-index : goal.solve-solve-requires-in-LeftJoin-clause-index
solve-solve-requires-in-LeftJoin-clause-index g t c κs within = c.requires.index

pub solve-solve-requires-in-LeftJoin-clause-active : goal.solve-solve-requires-in-LeftJoin-clause-active
solve-solve-requires-in-LeftJoin-clause-active g t c κs within = c.requires.active

pub solve-solve-requires-in-Union-clause-index : goal.solve-solve-requires-in-Union-clause-index
solve-solve-requires-in-Union-clause-index g t c κs within = c.requires.index

pub solve-solve-requires-in-Union-clause-active : goal.solve-solve-requires-in-Union-clause-active
solve-solve-requires-in-Union-clause-active g t c κs within = c.requires.active

pub solve-solve-requires-in-Minus-clause-index : goal.solve-solve-requires-in-Minus-clause-index
solve-solve-requires-in-Minus-clause-index g t c κs within = c.requires.index

pub solve-solve-requires-in-Minus-clause-active : goal.solve-solve-requires-in-Minus-clause-active
solve-solve-requires-in-Minus-clause-active g t c κs within = c.requires.active

pub solve-solve_filter_where-requires-clause-index : goal.solve-solve_filter_where-requires-clause-index
solve-solve_filter_where-requires-clause-index g t c κs within = c.requires.index

pub solve-solve_filter_where-requires-clause-active : goal.solve-solve_filter_where-requires-clause-active
solve-solve_filter_where-requires-clause-active g t c κs within = c.requires.active

pub solve-solve-requires-in-Extend-clause-index : goal.solve-solve-requires-in-Extend-clause-index
solve-solve-requires-in-Extend-clause-index g t c κs within = c.requires.index

pub solve-solve-requires-in-Extend-clause-active : goal.solve-solve-requires-in-Extend-clause-active
solve-solve-requires-in-Extend-clause-active g t c κs within = c.requires.active

pub solve-solve-requires-in-Project-clause-index : goal.solve-solve-requires-in-Project-clause-index
solve-solve-requires-in-Project-clause-index g t c κs within = c.requires.index

pub solve-solve-requires-in-Project-clause-active : goal.solve-solve-requires-in-Project-clause-active
solve-solve-requires-in-Project-clause-active g t c κs within = c.requires.active

pub solve-solve-requires-in-Distinct-clause-index : goal.solve-solve-requires-in-Distinct-clause-index
solve-solve-requires-in-Distinct-clause-index g t c κs within = c.requires.index

pub solve-solve-requires-in-Distinct-clause-active : goal.solve-solve-requires-in-Distinct-clause-active
solve-solve-requires-in-Distinct-clause-active g t c κs within = c.requires.active

pub solve-solve_graph-requires-clause-index : goal.solve-solve_graph-requires-clause-index
solve-solve_graph-requires-clause-index g t c κs within = c.requires.index

pub solve_paired-solve_to_join-requires-clause-index : goal.solve_paired-solve_to_join-requires-clause-index
solve_paired-solve_to_join-requires-clause-index g t c κs within = c.requires.index

pub solve_paired-solve_to_join-requires-clause-active : goal.solve_paired-solve_to_join-requires-clause-active
solve_paired-solve_to_join-requires-clause-active g t c κs within = c.requires.active

pub solve_paired-solve_to_join-requires-clause-within : goal.solve_paired-solve_to_join-requires-clause-within
solve_paired-solve_to_join-requires-clause-within g t c κs within = c.requires.within

pub solve_graph-solve-requires-clause-index : goal.solve_graph-solve-requires-clause-index
solve_graph-solve-requires-clause-index g t c κs within = c.requires.index

pub solve_graph-solve-requires-clause-within : goal.solve_graph-solve-requires-clause-within
solve_graph-solve-requires-clause-within g t c κs within = c.requires.within

pub solve_graph-solve_each-requires-clause-index : goal.solve_graph-solve_each-requires-clause-index
solve_graph-solve_each-requires-clause-index g t c κs within = c.requires.index

pub solve_in_turn-solve-requires-clause-index : goal.solve_in_turn-solve-requires-clause-index
solve_in_turn-solve-requires-clause-index g t c κs within = (index_kept c.args.dict c.loop-i.dict c.loop-i.invariant.grown c.args.self.now.index.now c.requires.index).0

pub solve_in_turn-solve-requires-clause-within : goal.solve_in_turn-solve-requires-clause-within
solve_in_turn-solve-requires-clause-within g t c κs within = c.requires.within

pub solve-solve-requires-clause-within : goal.solve-solve-requires-clause-within
solve-solve-requires-clause-within g t c κs within =
    subst (λ (T : Operator). is_within c.args.self.now.width (algebra_of T) ≡ true) (sym c.deref.ensures) (join_within c.args.self.now.width c.in-Join.left c.in-Join.right c.args.tree.now c.in-Join.is c.requires.within).0

pub solve-solve_paired-requires-clause-within : goal.solve-solve_paired-requires-clause-within
solve-solve_paired-requires-clause-within g t c κs within =
    subst (λ (T : Operator). is_within c.args.self.now.width (algebra_of T) ≡ true) (sym c.deref-in-Join.ensures) (join_within c.args.self.now.width c.in-Join.left c.in-Join.right c.args.tree.now c.in-Join.is c.requires.within).1

pub solve-solve_paired-requires-clause-same_width : goal.solve-solve_paired-requires-clause-same_width
solve-solve_paired-requires-clause-same_width g t c κs within = c.in_ok-left-in-Join.ensures.evaluated.wide

pub solve-solve_paired-requires-clause-known_left : goal.solve-solve_paired-requires-clause-known_left
solve-solve_paired-requires-clause-known_left g t c κs within = c.in_ok-left-in-Join.ensures.evaluated.known

pub solve-returns-in_ok-left-in-Join-clause-one_worker : goal.solve-returns-in_ok-left-in-Join-clause-one_worker
solve-returns-in_ok-left-in-Join-clause-one_worker g t c = c.solve_paired.ensures.one_worker

pub solve-solve-requires-in-LeftJoin-clause-within : goal.solve-solve-requires-in-LeftJoin-clause-within
solve-solve-requires-in-LeftJoin-clause-within g t c κs within =
    subst (λ (T : Operator). is_within c.args.self.now.width (algebra_of T) ≡ true) (sym c.deref-in-LeftJoin.ensures) (left_join_within c.args.self.now.width c.in-LeftJoin.left c.in-LeftJoin.right c.in-LeftJoin.condition c.args.tree.now c.in-LeftJoin.is c.requires.within).0

pub solve-solve_paired-requires-in-LeftJoin-clause-within : goal.solve-solve_paired-requires-in-LeftJoin-clause-within
solve-solve_paired-requires-in-LeftJoin-clause-within g t c κs within =
    subst (λ (T : Operator). is_within c.args.self.now.width (algebra_of T) ≡ true) (sym c.deref-in-LeftJoin-2.ensures) (left_join_within c.args.self.now.width c.in-LeftJoin.left c.in-LeftJoin.right c.in-LeftJoin.condition c.args.tree.now c.in-LeftJoin.is c.requires.within).1

pub solve-solve_paired-requires-in-LeftJoin-clause-same_width : goal.solve-solve_paired-requires-in-LeftJoin-clause-same_width
solve-solve_paired-requires-in-LeftJoin-clause-same_width g t c κs within = c.in_ok-left-in-LeftJoin.ensures.evaluated.wide

pub solve-solve_paired-requires-in-LeftJoin-clause-known_left : goal.solve-solve_paired-requires-in-LeftJoin-clause-known_left
solve-solve_paired-requires-in-LeftJoin-clause-known_left g t c κs within = c.in_ok-left-in-LeftJoin.ensures.evaluated.known

pub solve-returns-in_ok-left-in-LeftJoin-clause-one_worker : goal.solve-returns-in_ok-left-in-LeftJoin-clause-one_worker
solve-returns-in_ok-left-in-LeftJoin-clause-one_worker g t c = c.solve_paired-in-LeftJoin.ensures.one_worker

pub solve-solve-requires-in-Union-clause-within : goal.solve-solve-requires-in-Union-clause-within
solve-solve-requires-in-Union-clause-within g t c κs within =
    subst (λ (T : Operator). is_within c.args.self.now.width (algebra_of T) ≡ true) (sym c.deref-in-Union.ensures) (union_within c.args.self.now.width c.in-Union.left c.in-Union.right c.args.tree.now c.in-Union.is c.requires.within).0

pub solve-solve-requires-in-Union-2-clause-within : goal.solve-solve-requires-in-Union-2-clause-within
solve-solve-requires-in-Union-2-clause-within g t c κs within =
    subst (λ (T : Operator). is_within c.args.self.now.width (algebra_of T) ≡ true) (sym c.deref-in-Union-2.ensures) (union_within c.args.self.now.width c.in-Union.left c.in-Union.right c.args.tree.now c.in-Union.is c.requires.within).1

pub solve-returns-in_ok-right-in-Union-clause-one_worker : goal.solve-returns-in_ok-right-in-Union-clause-one_worker
solve-returns-in_ok-right-in-Union-clause-one_worker g t c = λ _. c.union_of.ensures.memory

pub solve-solve-requires-in-Minus-clause-within : goal.solve-solve-requires-in-Minus-clause-within
solve-solve-requires-in-Minus-clause-within g t c κs within =
    subst (λ (T : Operator). is_within c.args.self.now.width (algebra_of T) ≡ true) (sym c.deref-in-Minus.ensures) (minus_within c.args.self.now.width c.in-Minus.left c.in-Minus.right c.args.tree.now c.in-Minus.is c.requires.within).0

pub solve-solve_paired-requires-in-Minus-clause-within : goal.solve-solve_paired-requires-in-Minus-clause-within
solve-solve_paired-requires-in-Minus-clause-within g t c κs within =
    subst (λ (T : Operator). is_within c.args.self.now.width (algebra_of T) ≡ true) (sym c.deref-in-Minus-2.ensures) (minus_within c.args.self.now.width c.in-Minus.left c.in-Minus.right c.args.tree.now c.in-Minus.is c.requires.within).1

pub solve-solve_paired-requires-in-Minus-clause-same_width : goal.solve-solve_paired-requires-in-Minus-clause-same_width
solve-solve_paired-requires-in-Minus-clause-same_width g t c κs within = c.in_ok-left-in-Minus.ensures.evaluated.wide

pub solve-solve_paired-requires-in-Minus-clause-known_left : goal.solve-solve_paired-requires-in-Minus-clause-known_left
solve-solve_paired-requires-in-Minus-clause-known_left g t c κs within = c.in_ok-left-in-Minus.ensures.evaluated.known

pub solve-returns-in_ok-left-in-Minus-clause-one_worker : goal.solve-returns-in_ok-left-in-Minus-clause-one_worker
solve-returns-in_ok-left-in-Minus-clause-one_worker g t c = c.solve_paired-in-Minus.ensures.one_worker

pub solve-solve_filter_where-requires-clause-within : goal.solve-solve_filter_where-requires-clause-within
solve-solve_filter_where-requires-clause-within g t c κs within =
    subst (λ (T : Operator). is_within c.args.self.now.width (algebra_of T) ≡ true) (sym c.deref-in-Filter.ensures) (filter_within c.args.self.now.width c.in-Filter.condition c.in-Filter.inner c.args.tree.now c.in-Filter.is c.requires.within)

pub solve-returns-in-Filter-clause-one_worker : goal.solve-returns-in-Filter-clause-one_worker
solve-returns-in-Filter-clause-one_worker g t c = c.solve_filter_where.ensures.one_worker

pub solve-solve-requires-in-Extend-clause-within : goal.solve-solve-requires-in-Extend-clause-within
solve-solve-requires-in-Extend-clause-within g t c κs within =
    subst (λ (T : Operator). is_within c.args.self.now.width (algebra_of T) ≡ true) (sym c.deref-in-Extend.ensures) (extend_within c.args.self.now.width c.in-Extend.variable c.in-Extend.expression c.in-Extend.inner c.args.tree.now c.in-Extend.is c.requires.within)

pub solve-returns-in_ok-rows-in-Extend-clause-one_worker : goal.solve-returns-in_ok-rows-in-Extend-clause-one_worker
solve-returns-in_ok-rows-in-Extend-clause-one_worker g t c = c.extend.ensures.one_worker

pub solve-extend-requires-clause-known : goal.solve-extend-requires-clause-known
solve-extend-requires-clause-known g t c κs within = c.in_ok-rows-in-Extend.ensures.evaluated.known

pub solve-extend-requires-clause-variable : goal.solve-extend-requires-clause-variable
solve-extend-requires-clause-variable g t c κs within =
    subst (λ (w : ℕ). c.in-Extend.variable < w) (sym c.in_ok-rows-in-Extend.ensures.evaluated.wide) (extend_below c.args.self.now.width c.in-Extend.variable c.in-Extend.expression c.in-Extend.inner c.args.tree.now c.in-Extend.is c.requires.within)

pub solve-solve-requires-in-Project-clause-within : goal.solve-solve-requires-in-Project-clause-within
solve-solve-requires-in-Project-clause-within g t c κs within =
    subst (λ (T : Operator). is_within c.args.self.now.width (algebra_of T) ≡ true) (sym c.deref-in-Project.ensures) (project_within c.args.self.now.width c.in-Project.variables c.in-Project.inner c.args.tree.now c.in-Project.is c.requires.within)

pub solve-returns-in_ok-rows-in-Project-clause-one_worker : goal.solve-returns-in_ok-rows-in-Project-clause-one_worker
solve-returns-in_ok-rows-in-Project-clause-one_worker g t c = λ _. c.project_of.ensures.memory

pub solve-solve-requires-in-Distinct-clause-within : goal.solve-solve-requires-in-Distinct-clause-within
solve-solve-requires-in-Distinct-clause-within g t c κs within =
    subst (λ (T : Operator). is_within c.args.self.now.width (algebra_of T) ≡ true) (sym c.deref-in-Distinct.ensures) (distinct_within c.args.self.now.width c.in-Distinct.inner c.args.tree.now c.in-Distinct.is c.requires.within)

pub solve-returns-in_ok-rows-in-Distinct-clause-one_worker : goal.solve-returns-in_ok-rows-in-Distinct-clause-one_worker
solve-returns-in_ok-rows-in-Distinct-clause-one_worker g t c = λ _. c.distinct.ensures.memory

pub solve-solve_graph-requires-clause-within : goal.solve-solve_graph-requires-clause-within
solve-solve_graph-requires-clause-within g t c κs within =
    subst (λ (T : Operator). is_within c.args.self.now.width (algebra_of T) ≡ true) (sym c.deref-in-Graph.ensures) (graph_within c.args.self.now.width c.in-Graph.name c.in-Graph.inner c.args.tree.now c.in-Graph.is c.requires.within)

pub solve-returns-in-Graph-clause-one_worker : goal.solve-returns-in-Graph-clause-one_worker
solve-returns-in-Graph-clause-one_worker g t c = c.solve_graph.ensures.one_worker

pub solve-returns-in-Pattern-clause-one_worker : goal.solve-returns-in-Pattern-clause-one_worker
solve-returns-in-Pattern-clause-one_worker g t c = c.pattern_with.ensures.one_worker

pub solve_paired-pair-requires-clause-same_width : goal.solve_paired-pair-requires-clause-same_width
solve_paired-pair-requires-clause-same_width g t c κs within = c.requires.same_width ∙ sym c.in_ok-right.ensures.evaluated.wide

pub solve_paired-pair-requires-clause-known_right : goal.solve_paired-pair-requires-clause-known_right
solve_paired-pair-requires-clause-known_right g t c κs within = c.in_ok-right.ensures.evaluated.known

pub solve_paired-returns-clause-one_worker : goal.solve_paired-returns-clause-one_worker
solve_paired-returns-clause-one_worker g t c = c.pair.ensures.one_worker

pub solve-union_of-requires-clause-same_width : goal.solve-union_of-requires-clause-same_width
solve-union_of-requires-clause-same_width g t c = c.in_ok-left-in-Union.ensures.evaluated.wide ∙ sym c.in_ok-right-in-Union.ensures.evaluated.wide

pub solve-union_of-requires-clause-known_right : goal.solve-union_of-requires-clause-known_right
solve-union_of-requires-clause-known_right g t c = c.in_ok-right-in-Union.ensures.evaluated.known

pub solve-returns-in-Table-clause-one_worker : goal.solve-returns-in-Table-clause-one_worker
solve-returns-in-Table-clause-one_worker g t c = λ _. c.table.ensures.memory

-- ---- solutions that fit

pub solve_filter_where-solve_where-requires-clause-index : goal.solve_filter_where-solve_where-requires-clause-index
solve_filter_where-solve_where-requires-clause-index g t c κs within = c.requires.index

pub solve_filter_where-solve_where-requires-clause-active : goal.solve_filter_where-solve_where-requires-clause-active
solve_filter_where-solve_where-requires-clause-active g t c κs within = c.requires.active

pub solve_filter_where-solve_where-requires-clause-within : goal.solve_filter_where-solve_where-requires-clause-within
solve_filter_where-solve_where-requires-clause-within g t c κs within = c.requires.within

pub solve_filter_where-filter_with-requires-clause-known : goal.solve_filter_where-filter_with-requires-clause-known
solve_filter_where-filter_with-requires-clause-known g t c κs within = c.in_ok-rows.ensures.evaluated.known

pub solve_filter_where-returns-clause-evaluated : goal.solve_filter_where-returns-clause-evaluated
solve_filter_where-returns-clause-evaluated g t c =
    let s = c.args.self.now in
    let S : Operator → List (Solution Term) = λ tree. tree_solutions c.args.dict s.index.now s.width c.args.active tree in
    where_filtered c.args.dict c.in_ok-rows.dict s.width c.filter_with.result (expression_of c.args.condition.now) c.args.pairs.now c.as_slice.result.now
    (subst (λ (l : List Equality). (ρ : Solution Term) → holds (expression_of c.args.condition.now) ρ ≡ true → fits c.args.pairs.now ρ ≡ true → fits l ρ ≡ true) (sym c.as_slice.ensures.value) c.in_ok-all.ensures.required)
    (S c.args.inner.now) c.in_ok-rows.rows c.in_ok-rows.ensures.evaluated c.filter_with.ensures.evaluated

pub solve_filter_where-returns-clause-needed : goal.solve_filter_where-returns-clause-needed
solve_filter_where-returns-clause-needed g t c =
    let s = c.args.self.now in
    takes_still (Needed c.args.dict s.index.now s.width c.args.active (algebra_of c.args.inner.now)) c.args.dict c.in_ok-rows.dict c.filter_with.result c.in_ok-rows.ensures.needed c.filter_with.ensures.same_dict

pub solve_filter_where-returns-clause-one_worker : goal.solve_filter_where-returns-clause-one_worker
solve_filter_where-returns-clause-one_worker g t c = c.filter_with.ensures.one_worker

pub solve_where-solve_where-requires-clause-index : goal.solve_where-solve_where-requires-clause-index
solve_where-solve_where-requires-clause-index g t c κs within = c.requires.index

pub solve_where-solve_where-requires-clause-active : goal.solve_where-solve_where-requires-clause-active
solve_where-solve_where-requires-clause-active g t c κs within = c.requires.active

pub solve_where-solve_where-requires-clause-within : goal.solve_where-solve_where-requires-clause-within
solve_where-solve_where-requires-clause-within g t c κs within =
    subst (λ (T : Operator). is_within c.args.self.now.width (algebra_of T) ≡ true) (sym c.deref.ensures) (join_within c.args.self.now.width c.in-Join.left c.in-Join.right c.args.tree.now c.in-Join.is c.requires.within).0

pub solve_where-solve_join_where-requires-clause-index : goal.solve_where-solve_join_where-requires-clause-index
solve_where-solve_join_where-requires-clause-index g t c κs within = (index_kept c.args.dict c.in_ok-left-in-Join.dict c.in_ok-left-in-Join.ensures.evaluated.grown c.args.self.now.index.now c.requires.index).0

pub solve_where-solve_join_where-requires-clause-active : goal.solve_where-solve_join_where-requires-clause-active
solve_where-solve_join_where-requires-clause-active g t c κs within = (active_kept c.args.dict c.in_ok-left-in-Join.dict c.in_ok-left-in-Join.ensures.evaluated.grown c.args.active c.requires.active).0

pub solve_where-solve_join_where-requires-clause-same_width : goal.solve_where-solve_join_where-requires-clause-same_width
solve_where-solve_join_where-requires-clause-same_width g t c κs within = c.in_ok-left-in-Join.ensures.evaluated.wide

pub solve_where-solve_join_where-requires-clause-known_left : goal.solve_where-solve_join_where-requires-clause-known_left
solve_where-solve_join_where-requires-clause-known_left g t c κs within = c.in_ok-left-in-Join.ensures.evaluated.known

pub solve_where-solve_join_where-requires-clause-within : goal.solve_where-solve_join_where-requires-clause-within
solve_where-solve_join_where-requires-clause-within g t c κs within =
    subst (λ (T : Operator). is_within c.args.self.now.width (algebra_of T) ≡ true) (sym c.deref-in-Join.ensures) (join_within c.args.self.now.width c.in-Join.left c.in-Join.right c.args.tree.now c.in-Join.is c.requires.within).1

pub solve_where-solve_filter_where-requires-clause-index : goal.solve_where-solve_filter_where-requires-clause-index
solve_where-solve_filter_where-requires-clause-index g t c κs within = c.requires.index

pub solve_where-solve_filter_where-requires-clause-active : goal.solve_where-solve_filter_where-requires-clause-active
solve_where-solve_filter_where-requires-clause-active g t c κs within = c.requires.active

pub solve_where-solve_filter_where-requires-clause-within : goal.solve_where-solve_filter_where-requires-clause-within
solve_where-solve_filter_where-requires-clause-within g t c κs within =
    subst (λ (T : Operator). is_within c.args.self.now.width (algebra_of T) ≡ true) (sym c.deref-in-Filter.ensures) (filter_within c.args.self.now.width c.in-Filter.condition c.in-Filter.inner c.args.tree.now c.in-Filter.is c.requires.within)

pub solve_where-solve-requires-clause-index : goal.solve_where-solve-requires-clause-index
solve_where-solve-requires-clause-index g t c κs within = c.requires.index

pub solve_where-solve-requires-clause-active : goal.solve_where-solve-requires-clause-active
solve_where-solve-requires-clause-active g t c κs within = c.requires.active

pub solve_where-solve-requires-clause-within : goal.solve_where-solve-requires-clause-within
solve_where-solve-requires-clause-within g t c κs within = c.requires.within

pub solve_where-returns-in_ok-left-in-Join-clause-evaluated : goal.solve_where-returns-in_ok-left-in-Join-clause-evaluated
solve_where-returns-in_ok-left-in-Join-clause-evaluated g t c =
    let s = c.args.self.now in
    let S : Operator → List (Solution Term) = λ tree. tree_solutions c.args.dict s.index.now s.width c.args.active tree in
    let h = c.in_ok-left-in-Join.ensures.evaluated in
    where_whole c.args.pairs.now c.args.dict s.width c.solve_join_where.result (join term_eq (S c.deref.result.now) (S c.deref-in-Join.result.now)) (S c.args.tree.now)
    (ap S c.in-Join.is ∙ join_tree c.args.dict s.index.now s.width c.args.active c.in-Join.left c.in-Join.right ∙ (λ i. join term_eq (S ((sym c.deref.ensures) i)) (S ((sym c.deref-in-Join.ensures) i))))
    (where_joined c.args.pairs.now c.args.dict c.in_ok-left-in-Join.dict s.width c.solve_join_where.result (S c.deref.result.now) (S c.deref-in-Join.result.now) (tree_solutions c.in_ok-left-in-Join.dict s.index.now s.width c.args.active c.deref-in-Join.result.now) c.in_ok-left-in-Join.left
    (tree_kept c.args.dict c.in_ok-left-in-Join.dict h.grown s.index.now s.width c.args.active c.deref-in-Join.result.now c.requires.index c.requires.active)
    h c.solve_join_where.ensures.evaluated)

pub solve_where-returns-in_ok-left-in-Join-clause-needed : goal.solve_where-returns-in_ok-left-in-Join-clause-needed
solve_where-returns-in_ok-left-in-Join-clause-needed g t c =
    let s = c.args.self.now in
    let L = algebra_of c.deref.result.now in
    let R = algebra_of c.deref-in-Join.result.now in
    takes_both c.args.dict c.in_ok-left-in-Join.dict c.in_ok-left-in-Join.ensures.evaluated.grown s.index.now c.requires.index s.width c.args.active c.requires.active c.solve_join_where.result
    L R (algebra_of c.args.tree.now) (algebra.Join L R) (ap algebra_of c.in-Join.is ∙ join_denotes c.in-Join.left c.in-Join.right ∙ (λ i. algebra.Join (algebra_of ((sym c.deref.ensures) i)) (algebra_of ((sym c.deref-in-Join.ensures) i)))) (λ x m. m)
    c.in_ok-left-in-Join.ensures.needed c.solve_join_where.ensures.needed

pub solve_where-returns-in_ok-left-in-Join-clause-one_worker : goal.solve_where-returns-in_ok-left-in-Join-clause-one_worker
solve_where-returns-in_ok-left-in-Join-clause-one_worker g t c = c.solve_join_where.ensures.one_worker

pub solve_where-returns-in-Filter-clause-evaluated : goal.solve_where-returns-in-Filter-clause-evaluated
solve_where-returns-in-Filter-clause-evaluated g t c =
    let s = c.args.self.now in
    let S : Operator → List (Solution Term) = λ tree. tree_solutions c.args.dict s.index.now s.width c.args.active tree in
    where_whole c.args.pairs.now c.args.dict s.width c.solve_filter_where.result (filter (holds (expression_of c.in-Filter.condition)) (S c.deref-in-Filter.result.now)) (S c.args.tree.now)
    (ap S c.in-Filter.is ∙ filter_tree c.args.dict s.index.now s.width c.args.active c.in-Filter.condition c.in-Filter.inner ∙ (λ i. filter (holds (expression_of c.in-Filter.condition)) (S ((sym c.deref-in-Filter.ensures) i))))
    c.solve_filter_where.ensures.evaluated

pub solve_where-returns-in-Filter-clause-needed : goal.solve_where-returns-in-Filter-clause-needed
solve_where-returns-in-Filter-clause-needed g t c =
    let s = c.args.self.now in
    takes_as c.args.dict s.index.now s.width c.args.active c.solve_filter_where.result (algebra_of c.args.tree.now) (algebra.Filter (expression_of c.in-Filter.condition) (algebra_of c.deref-in-Filter.result.now))
    (ap algebra_of c.in-Filter.is ∙ filter_denotes c.in-Filter.condition c.in-Filter.inner ∙ (λ i. algebra.Filter (expression_of c.in-Filter.condition) (algebra_of ((sym c.deref-in-Filter.ensures) i))))
    c.solve_filter_where.ensures.needed

pub solve_where-returns-in-Filter-clause-one_worker : goal.solve_where-returns-in-Filter-clause-one_worker
solve_where-returns-in-Filter-clause-one_worker g t c = c.solve_filter_where.ensures.one_worker

pub solve_where-returns-in_default-clause-evaluated : goal.solve_where-returns-in_default-clause-evaluated
solve_where-returns-in_default-clause-evaluated g t c =
    let s = c.args.self.now in
    where_any_ok c.args.pairs.now c.args.dict s.width c.solve.result (tree_solutions c.args.dict s.index.now s.width c.args.active c.args.tree.now) c.solve.ensures.evaluated

pub solve_where-returns-in_default-clause-needed : goal.solve_where-returns-in_default-clause-needed
solve_where-returns-in_default-clause-needed g t c = c.solve.ensures.needed

pub solve_where-returns-in_default-clause-one_worker : goal.solve_where-returns-in_default-clause-one_worker
solve_where-returns-in_default-clause-one_worker g t c = c.solve.ensures.one_worker

pub solve_join_where-solve_right_where-requires-clause-index : goal.solve_join_where-solve_right_where-requires-clause-index
solve_join_where-solve_right_where-requires-clause-index g t c κs within = c.requires.index

pub solve_join_where-solve_right_where-requires-clause-active : goal.solve_join_where-solve_right_where-requires-clause-active
solve_join_where-solve_right_where-requires-clause-active g t c κs within = c.requires.active

pub solve_join_where-solve_right_where-requires-clause-within : goal.solve_join_where-solve_right_where-requires-clause-within
solve_join_where-solve_right_where-requires-clause-within g t c κs within = c.requires.within

pub solve_join_where-join_where-requires-clause-same_width : goal.solve_join_where-join_where-requires-clause-same_width
solve_join_where-join_where-requires-clause-same_width g t c κs within = c.requires.same_width ∙ sym c.in_ok-right.ensures.evaluated.wide

pub solve_join_where-join_where-requires-clause-known_left : goal.solve_join_where-join_where-requires-clause-known_left
solve_join_where-join_where-requires-clause-known_left g t c κs within = (rows_kept c.args.dict c.in_ok-right.dict c.in_ok-right.ensures.evaluated.grown c.args.left.rows c.requires.known_left).0

pub solve_join_where-join_where-requires-clause-known_right : goal.solve_join_where-join_where-requires-clause-known_right
solve_join_where-join_where-requires-clause-known_right g t c κs within = c.in_ok-right.ensures.evaluated.known

pub solve_join_where-returns-clause-evaluated : goal.solve_join_where-returns-clause-evaluated
solve_join_where-returns-clause-evaluated g t c =
    let s = c.args.self.now in
    let S : Operator → List (Solution Term) = λ tree. tree_solutions c.args.dict s.index.now s.width c.args.active tree in
    where_possible c.args.pairs.now c.args.dict c.in_ok-right.dict s.width c.join_where.result (S c.args.right.now) c.args.left c.in_ok-right.right c.requires.known_left c.in_ok-right.ensures.evaluated c.join_where.ensures.evaluated

pub solve_join_where-returns-clause-needed : goal.solve_join_where-returns-clause-needed
solve_join_where-returns-clause-needed g t c =
    let s = c.args.self.now in
    takes_still (Needed c.args.dict s.index.now s.width c.args.active (algebra_of c.args.right.now)) c.args.dict c.in_ok-right.dict c.join_where.result c.in_ok-right.ensures.needed c.join_where.ensures.same_dict

pub solve_join_where-returns-clause-one_worker : goal.solve_join_where-returns-clause-one_worker
solve_join_where-returns-clause-one_worker g t c = c.join_where.ensures.one_worker

pub solve_paired-solve_to_join-requires-clause-known_others : goal.solve_paired-solve_to_join-requires-clause-known_others
solve_paired-solve_to_join-requires-clause-known_others g t c κs within = c.requires.known_left

pub solve_join_where-solve_right_where-requires-clause-known_others : goal.solve_join_where-solve_right_where-requires-clause-known_others
solve_join_where-solve_right_where-requires-clause-known_others g t c κs within = c.requires.known_left

-- ---- a tree that is joined with rows

pub solve_to_join-solve_possible-requires-clause-index : goal.solve_to_join-solve_possible-requires-clause-index
solve_to_join-solve_possible-requires-clause-index g t c κs within = c.requires.index

pub solve_to_join-solve_possible-requires-clause-known_others : goal.solve_to_join-solve_possible-requires-clause-known_others
solve_to_join-solve_possible-requires-clause-known_others g t c κs within = c.requires.known_others

pub solve_to_join-solve_possible-requires-clause-within : goal.solve_to_join-solve_possible-requires-clause-within
solve_to_join-solve_possible-requires-clause-within g t c κs within =
    subst (λ (T : Operator). is_within c.args.self.now.width (algebra_of T) ≡ true) (sym c.deref.ensures) (graph_within c.args.self.now.width c.in-Graph.name c.in-Graph.inner c.args.tree.now c.in-Graph.is c.requires.within)

pub solve_to_join-solve_to_join-requires-clause-index : goal.solve_to_join-solve_to_join-requires-clause-index
solve_to_join-solve_to_join-requires-clause-index g t c κs within = c.requires.index

pub solve_to_join-solve_to_join-requires-clause-active : goal.solve_to_join-solve_to_join-requires-clause-active
solve_to_join-solve_to_join-requires-clause-active g t c κs within = c.requires.active

pub solve_to_join-solve_to_join-requires-clause-known_others : goal.solve_to_join-solve_to_join-requires-clause-known_others
solve_to_join-solve_to_join-requires-clause-known_others g t c κs within = c.requires.known_others

pub solve_to_join-solve_to_join-requires-clause-within : goal.solve_to_join-solve_to_join-requires-clause-within
solve_to_join-solve_to_join-requires-clause-within g t c κs within =
    subst (λ (T : Operator). is_within c.args.self.now.width (algebra_of T) ≡ true) (sym c.deref-in-Join.ensures) (join_within c.args.self.now.width c.in-Join.left c.in-Join.right c.args.tree.now c.in-Join.is c.requires.within).0

pub solve_to_join-solve-requires-clause-index : goal.solve_to_join-solve-requires-clause-index
solve_to_join-solve-requires-clause-index g t c κs within = c.requires.index

pub solve_to_join-solve-requires-clause-active : goal.solve_to_join-solve-requires-clause-active
solve_to_join-solve-requires-clause-active g t c κs within = c.requires.active

pub solve_to_join-solve-requires-clause-within : goal.solve_to_join-solve-requires-clause-within
solve_to_join-solve-requires-clause-within g t c κs within = c.requires.within

pub solve_to_join-solve_to_join-requires-in-Join-clause-index : goal.solve_to_join-solve_to_join-requires-in-Join-clause-index
solve_to_join-solve_to_join-requires-in-Join-clause-index g t c κs within = (index_kept c.args.dict c.in_ok-rows-in-Join.dict c.in_ok-rows-in-Join.ensures.evaluated.grown c.args.self.now.index.now c.requires.index).0

pub solve_to_join-solve_to_join-requires-in-Join-clause-active : goal.solve_to_join-solve_to_join-requires-in-Join-clause-active
solve_to_join-solve_to_join-requires-in-Join-clause-active g t c κs within = (active_kept c.args.dict c.in_ok-rows-in-Join.dict c.in_ok-rows-in-Join.ensures.evaluated.grown c.args.active c.requires.active).0

pub solve_to_join-solve_to_join-requires-in-Join-clause-known_others : goal.solve_to_join-solve_to_join-requires-in-Join-clause-known_others
solve_to_join-solve_to_join-requires-in-Join-clause-known_others g t c κs within =
    let h = c.in_ok-rows-in-Join.ensures.evaluated in
    next_known c.in_ok-rows-in-Join.dict c.in_ok-rows-in-Join.rows c.args.others.now c.rows_to_join-next.result.now c.rows_to_join-next.ensures.either h.known
    (rows_kept c.args.dict c.in_ok-rows-in-Join.dict h.grown c.args.others.now.rows c.requires.known_others).0

pub solve_to_join-solve_to_join-requires-in-Join-clause-within : goal.solve_to_join-solve_to_join-requires-in-Join-clause-within
solve_to_join-solve_to_join-requires-in-Join-clause-within g t c κs within =
    subst (λ (T : Operator). is_within c.args.self.now.width (algebra_of T) ≡ true) (sym c.deref-in-Join-3.ensures) (join_within c.args.self.now.width c.in-Join.left c.in-Join.right c.args.tree.now c.in-Join.is c.requires.within).1

pub solve_to_join-join_of-requires-clause-same_width : goal.solve_to_join-join_of-requires-clause-same_width
solve_to_join-join_of-requires-clause-same_width g t c κs within = c.in_ok-rows-in-Join.ensures.evaluated.wide ∙ sym c.in_ok-right-in-Join.ensures.evaluated.wide

pub solve_to_join-join_of-requires-clause-known_left : goal.solve_to_join-join_of-requires-clause-known_left
solve_to_join-join_of-requires-clause-known_left g t c κs within =
    (rows_kept c.in_ok-rows-in-Join.dict c.in_ok-right-in-Join.dict c.in_ok-right-in-Join.ensures.evaluated.grown c.in_ok-rows-in-Join.rows.rows c.in_ok-rows-in-Join.ensures.evaluated.known).0

pub solve_to_join-join_of-requires-clause-known_right : goal.solve_to_join-join_of-requires-clause-known_right
solve_to_join-join_of-requires-clause-known_right g t c κs within = c.in_ok-right-in-Join.ensures.evaluated.known

pub solve_to_join-returns-in_ok-right-in-Join-clause-evaluated : goal.solve_to_join-returns-in_ok-right-in-Join-clause-evaluated
solve_to_join-returns-in_ok-right-in-Join-clause-evaluated g t c =
    let s = c.args.self.now in
    let terms = c.args.dict in
    let S : Operator → List (Solution Term) = λ tree. tree_solutions terms s.index.now s.width c.args.active tree in
    let now = c.in_ok-rows-in-Join.dict in
    let rows = c.in_ok-rows-in-Join.rows in
    let h = c.in_ok-rows-in-Join.ensures.evaluated in
    let R = c.deref-in-Join-3.result.now in
    let B = tree_solutions now s.index.now s.width c.args.active R in
    let J = join term_eq (solutions_of now rows) B in
    next_left [] terms now s.width c.join_of.result (solutions_of terms c.args.others.now) (S c.deref-in-Join.result.now) (S R) B (S c.args.tree.now) rows
    (tree_kept terms now h.grown s.index.now s.width c.args.active R c.requires.index c.requires.active)
    (ap S c.in-Join.is ∙ join_tree terms s.index.now s.width c.args.active c.in-Join.left c.in-Join.right ∙ (λ i. join term_eq (S ((sym c.deref-in-Join.ensures) i)) (S ((sym c.deref-in-Join-3.ensures) i))))
    h (subst (λ (X : List (Solution Term)). IfOk c.join_of.result (λ x. IsEvaluatedWhere now rows.width (may_join [] X) J x.0 x.1)) (rows_kept terms now h.grown c.args.others.now.rows c.requires.known_others).1
    (next_either now rows c.args.others.now c.rows_to_join-next.result.now c.rows_to_join-next.ensures.either h.known c.in_ok-right-in-Join.dict s.width c.join_of.result B c.in_ok-right-in-Join.right c.in_ok-right-in-Join.ensures.evaluated c.join_of.ensures.evaluated))

pub solve_to_join-returns-in_ok-right-in-Join-clause-needed : goal.solve_to_join-returns-in_ok-right-in-Join-clause-needed
solve_to_join-returns-in_ok-right-in-Join-clause-needed g t c =
    let s = c.args.self.now in
    let now = c.in_ok-rows-in-Join.dict in
    let L = algebra_of c.deref-in-Join.result.now in
    let R = algebra_of c.deref-in-Join-3.result.now in
    takes_both c.args.dict now c.in_ok-rows-in-Join.ensures.evaluated.grown s.index.now c.requires.index s.width c.args.active c.requires.active c.join_of.result
    L R (algebra_of c.args.tree.now) (algebra.Join L R) (ap algebra_of c.in-Join.is ∙ join_denotes c.in-Join.left c.in-Join.right ∙ (λ i. algebra.Join (algebra_of ((sym c.deref-in-Join.ensures) i)) (algebra_of ((sym c.deref-in-Join-3.ensures) i)))) (λ x m. m)
    c.in_ok-rows-in-Join.ensures.needed
    (takes_still (Needed now s.index.now s.width c.args.active R) now c.in_ok-right-in-Join.dict c.join_of.result c.in_ok-right-in-Join.ensures.needed c.join_of.ensures.same_dict)

pub solve_to_join-returns-in_ok-right-in-Join-clause-one_worker : goal.solve_to_join-returns-in_ok-right-in-Join-clause-one_worker
solve_to_join-returns-in_ok-right-in-Join-clause-one_worker g t c = c.join_of.ensures.one_worker

pub solve_to_join-returns-in-Graph-clause-evaluated : goal.solve_to_join-returns-in-Graph-clause-evaluated
solve_to_join-returns-in-Graph-clause-evaluated g t c =
    let s = c.args.self.now in
    let terms = c.args.dict in
    let S : Operator → List (Solution Term) = λ tree. tree_solutions terms s.index.now s.width c.args.active tree in
    let O = solutions_of terms c.args.others.now in
    let A = graph_solutions terms s.index.now s.width (graph_name_of c.in-Graph.name) c.deref.result.now in
    meets_may_join terms s.width c.solve_possible.result [] O A (S c.args.tree.now)
    (ap S c.in-Graph.is ∙ graph_tree terms s.index.now s.width c.args.active c.in-Graph.name c.in-Graph.inner ∙ ap (λ (tree : Operator). graph_solutions terms s.index.now s.width (graph_name_of c.in-Graph.name) tree) (sym c.deref.ensures))
    c.solve_possible.ensures.evaluated

pub solve_to_join-returns-in-Graph-clause-needed : goal.solve_to_join-returns-in-Graph-clause-needed
solve_to_join-returns-in-Graph-clause-needed g t c =
    let s = c.args.self.now in
    takes_as c.args.dict s.index.now s.width c.args.active c.solve_possible.result (algebra_of c.args.tree.now) (algebra.Graph (graph_name_of c.in-Graph.name) (algebra_of c.deref.result.now))
    (ap algebra_of c.in-Graph.is ∙ graph_denotes c.in-Graph.name c.in-Graph.inner ∙ (λ i. algebra.Graph (graph_name_of c.in-Graph.name) (algebra_of ((sym c.deref.ensures) i)))) c.solve_possible.ensures.needed

pub solve_to_join-returns-in-Graph-clause-one_worker : goal.solve_to_join-returns-in-Graph-clause-one_worker
solve_to_join-returns-in-Graph-clause-one_worker g t c = c.solve_possible.ensures.one_worker

pub solve_to_join-returns-in_default-clause-evaluated : goal.solve_to_join-returns-in_default-clause-evaluated
solve_to_join-returns-in_default-clause-evaluated g t c =
    let s = c.args.self.now in
    let terms = c.args.dict in
    let S : Operator → List (Solution Term) = λ tree. tree_solutions terms s.index.now s.width c.args.active tree in
    let O = solutions_of terms c.args.others.now in
    let A = S c.args.tree.now in
    fits_may_join terms s.width c.solve.result [] O A A refl (where_any_ok [] terms s.width c.solve.result A c.solve.ensures.evaluated)

pub solve_to_join-returns-in_default-clause-needed : goal.solve_to_join-returns-in_default-clause-needed
solve_to_join-returns-in_default-clause-needed g t c = c.solve.ensures.needed

pub solve_to_join-returns-in_default-clause-one_worker : goal.solve_to_join-returns-in_default-clause-one_worker
solve_to_join-returns-in_default-clause-one_worker g t c = c.solve.ensures.one_worker

pub solve_possible-solve_each-requires-clause-index : goal.solve_possible-solve_each-requires-clause-index
solve_possible-solve_each-requires-clause-index g t c κs within = c.requires.index

pub solve_possible-solve_each-requires-clause-within : goal.solve_possible-solve_each-requires-clause-within
solve_possible-solve_each-requires-clause-within g t c κs within = c.requires.within

pub solve_possible-solve_each-requires-clause-graphs : goal.solve_possible-solve_each-requires-clause-graphs
solve_possible-solve_each-requires-clause-graphs g t c κs within =
    subst (λ (l : List ℕ). AreGraphs c.args.dict c.args.self.now.index.now l) (sym c.as_slice.ensures.value)
    (possible_are c.args.dict c.len-distinct.ensures.distinct c.args.self.now.index.now c.requires.index c.args.others.now.rows c.in-Variable.variable c.in-Some.found.items
    (c.graphs-graphs.result.now, (c.graphs-graphs.ensures.names, rw c.in-Some.is at c.in_ok-found.ensures.possible)))

pub solve_possible-solve_graph-requires-clause-index : goal.solve_possible-solve_graph-requires-clause-index
solve_possible-solve_graph-requires-clause-index g t c κs within = c.requires.index

pub solve_possible-solve_graph-requires-clause-name : goal.solve_possible-solve_graph-requires-clause-name
solve_possible-solve_graph-requires-clause-name g t c κs within = c.requires.name

pub solve_possible-solve_graph-requires-clause-within : goal.solve_possible-solve_graph-requires-clause-within
solve_possible-solve_graph-requires-clause-within g t c κs within = c.requires.within

pub solve_possible-returns-in-Some-clause-evaluated : goal.solve_possible-returns-in-Some-clause-evaluated
solve_possible-returns-in-Some-clause-evaluated g t c =
    let s = c.args.self.now in
    let terms = c.args.dict in
    let v = c.in-Variable.variable in
    let below = ltb-true v s.width (subst (λ (n : GraphName). is_name_below s.width (graph_name_of n) ≡ true) c.in-Variable.is c.requires.name) in
    subst (λ (n : GraphName). IfOk c.solve_each.result (λ r. IsEvaluatedWhere terms s.width (meets_some term_eq (solutions_of terms c.args.others.now)) (graph_solutions terms s.index.now s.width (graph_name_of n) c.args.inner.now) r.0 r.1)) (sym c.in-Variable.is)
    (possible_suffice terms c.len-distinct.ensures.distinct s.index.now c.requires.index s.width v below c.args.inner.now c.args.others.now c.requires.known_others c.solve_each.result c.in-Some.found.items
    (c.graphs-graphs.result.now, (c.graphs-graphs.ensures.names, rw c.in-Some.is at c.in_ok-found.ensures.possible))
    (subst (λ (l : List ℕ). IfOk c.solve_each.result (λ r. IsEvaluated terms s.width (solutions_in terms s.index.now s.width v l (algebra_of c.args.inner.now)) r.0 r.1)) c.as_slice.ensures.value c.solve_each.ensures.evaluated))

pub solve_possible-returns-in-Some-clause-needed : goal.solve_possible-returns-in-Some-clause-needed
solve_possible-returns-in-Some-clause-needed g t c =
    let s = c.args.self.now in
    subst (λ (n : GraphName). IfOk c.solve_each.result (λ r. TakesOnly (NeededIn c.args.dict s.index.now s.width (graph_name_of n) (algebra_of c.args.inner.now)) c.args.dict r.1)) (sym c.in-Variable.is) c.solve_each.ensures.needed

pub solve_possible-returns-in-Some-clause-one_worker : goal.solve_possible-returns-in-Some-clause-one_worker
solve_possible-returns-in-Some-clause-one_worker g t c = c.solve_each.ensures.one_worker

pub solve_possible-returns-clause-evaluated : goal.solve_possible-returns-clause-evaluated
solve_possible-returns-clause-evaluated g t c =
    let s = c.args.self.now in
    let m : Solution Term → Bool = meets_some term_eq (solutions_of c.args.dict c.args.others.now) in
    let A = graph_solutions c.args.dict s.index.now s.width (graph_name_of c.args.name.now) c.args.inner.now in
    IfOk-weaker c.solve_graph.result (λ x. IsEvaluated c.args.dict s.width A x.0 x.1) (λ x. IsEvaluatedWhere c.args.dict s.width m A x.0 x.1)
    (λ x h. where_any c.args.dict s.width m A x.0 x.1 h) c.solve_graph.ensures.evaluated

pub solve_possible-returns-clause-needed : goal.solve_possible-returns-clause-needed
solve_possible-returns-clause-needed g t c = c.solve_graph.ensures.needed

pub solve_possible-returns-clause-one_worker : goal.solve_possible-returns-clause-one_worker
solve_possible-returns-clause-one_worker g t c = c.solve_graph.ensures.one_worker

-- ---- the right side of a join of which only some solutions are needed

pub solve_right_where-solve_possible-requires-clause-index : goal.solve_right_where-solve_possible-requires-clause-index
solve_right_where-solve_possible-requires-clause-index g t c κs within = c.requires.index

pub solve_right_where-solve_possible-requires-clause-known_others : goal.solve_right_where-solve_possible-requires-clause-known_others
solve_right_where-solve_possible-requires-clause-known_others g t c κs within = c.requires.known_others

pub solve_right_where-solve_possible-requires-clause-within : goal.solve_right_where-solve_possible-requires-clause-within
solve_right_where-solve_possible-requires-clause-within g t c κs within =
    subst (λ (T : Operator). is_within c.args.self.now.width (algebra_of T) ≡ true) (sym c.deref.ensures) (graph_within c.args.self.now.width c.in-Graph.name c.in-Graph.inner c.args.tree.now c.in-Graph.is c.requires.within)

pub solve_right_where-solve_where-requires-clause-index : goal.solve_right_where-solve_where-requires-clause-index
solve_right_where-solve_where-requires-clause-index g t c κs within = c.requires.index

pub solve_right_where-solve_where-requires-clause-active : goal.solve_right_where-solve_where-requires-clause-active
solve_right_where-solve_where-requires-clause-active g t c κs within = c.requires.active

pub solve_right_where-solve_where-requires-clause-within : goal.solve_right_where-solve_where-requires-clause-within
solve_right_where-solve_where-requires-clause-within g t c κs within = c.requires.within

pub solve_right_where-returns-in-Graph-clause-evaluated : goal.solve_right_where-returns-in-Graph-clause-evaluated
solve_right_where-returns-in-Graph-clause-evaluated g t c =
    let s = c.args.self.now in
    let terms = c.args.dict in
    let S : Operator → List (Solution Term) = λ tree. tree_solutions terms s.index.now s.width c.args.active tree in
    let O = solutions_of terms c.args.others.now in
    let A = graph_solutions terms s.index.now s.width (graph_name_of c.in-Graph.name) c.deref.result.now in
    meets_may_join terms s.width c.solve_possible.result c.args.pairs.now O A (S c.args.tree.now)
    (ap S c.in-Graph.is ∙ graph_tree terms s.index.now s.width c.args.active c.in-Graph.name c.in-Graph.inner ∙ ap (λ (tree : Operator). graph_solutions terms s.index.now s.width (graph_name_of c.in-Graph.name) tree) (sym c.deref.ensures))
    c.solve_possible.ensures.evaluated

pub solve_right_where-returns-in-Graph-clause-needed : goal.solve_right_where-returns-in-Graph-clause-needed
solve_right_where-returns-in-Graph-clause-needed g t c =
    let s = c.args.self.now in
    takes_as c.args.dict s.index.now s.width c.args.active c.solve_possible.result (algebra_of c.args.tree.now) (algebra.Graph (graph_name_of c.in-Graph.name) (algebra_of c.deref.result.now))
    (ap algebra_of c.in-Graph.is ∙ graph_denotes c.in-Graph.name c.in-Graph.inner ∙ (λ i. algebra.Graph (graph_name_of c.in-Graph.name) (algebra_of ((sym c.deref.ensures) i)))) c.solve_possible.ensures.needed

pub solve_right_where-returns-in-Graph-clause-one_worker : goal.solve_right_where-returns-in-Graph-clause-one_worker
solve_right_where-returns-in-Graph-clause-one_worker g t c = c.solve_possible.ensures.one_worker

pub solve_right_where-returns-in_default-clause-evaluated : goal.solve_right_where-returns-in_default-clause-evaluated
solve_right_where-returns-in_default-clause-evaluated g t c =
    let s = c.args.self.now in
    let terms = c.args.dict in
    let S : Operator → List (Solution Term) = λ tree. tree_solutions terms s.index.now s.width c.args.active tree in
    let O = solutions_of terms c.args.others.now in
    let A = S c.args.tree.now in
    fits_may_join terms s.width c.solve_where.result c.args.pairs.now O A A refl c.solve_where.ensures.evaluated

pub solve_right_where-returns-in_default-clause-needed : goal.solve_right_where-returns-in_default-clause-needed
solve_right_where-returns-in_default-clause-needed g t c = c.solve_where.ensures.needed

pub solve_right_where-returns-in_default-clause-one_worker : goal.solve_right_where-returns-in_default-clause-one_worker
solve_right_where-returns-in_default-clause-one_worker g t c = c.solve_where.ensures.one_worker

-- ---- operators after the names of the graphs

pub solve_each_filter-filter_with-requires-clause-known : goal.solve_each_filter-filter_with-requires-clause-known
solve_each_filter-filter_with-requires-clause-known g t c κs within = c.in_ok-solved.ensures.evaluated.known

pub solve_each_filter-returns-clause-evaluated : goal.solve_each_filter-returns-clause-evaluated
solve_each_filter-returns-clause-evaluated g t c =
    let s = c.args.self.now in
    filter_each c.args.dict s.index.now s.width c.args.variable c.args.graphs.now c.filter_with.result (expression_of c.args.condition.now) (algebra_of c.args.inner.now) c.requires.not_mentioned c.as_slice.result.now
    (subst (λ (l : List Equality). (ρ : Solution Term) → holds (expression_of c.args.condition.now) ρ ≡ true → fits [] ρ ≡ true → fits l ρ ≡ true) (sym c.as_slice.ensures.value) c.in_ok-pairs.ensures.required)
    c.in_ok-solved.dict c.in_ok-solved.solved c.in_ok-solved.ensures.evaluated c.filter_with.ensures.evaluated

pub solve_each_filter-returns-clause-needed : goal.solve_each_filter-returns-clause-needed
solve_each_filter-returns-clause-needed g t c =
    let s = c.args.self.now in
    takes_still (NeededIn c.args.dict s.index.now s.width (each_graph c.args.variable) (algebra_of c.args.inner.now)) c.args.dict c.in_ok-solved.dict c.filter_with.result c.in_ok-solved.ensures.needed c.filter_with.ensures.same_dict

pub solve_each_filter-returns-clause-one_worker : goal.solve_each_filter-returns-clause-one_worker
solve_each_filter-returns-clause-one_worker g t c = c.filter_with.ensures.one_worker

pub solve_outward-union_of-requires-clause-known_left : goal.solve_outward-union_of-requires-clause-known_left
solve_outward-union_of-requires-clause-known_left g t c = (rows_kept c.in_ok-rows.dict c.in_ok-more.dict c.in_ok-more.ensures.evaluated.grown c.in_ok-rows.rows.rows c.in_ok-rows.ensures.evaluated.known).0

pub solve_outward-union_of-requires-clause-same_width : goal.solve_outward-union_of-requires-clause-same_width
solve_outward-union_of-requires-clause-same_width g t c = c.in_ok-rows.ensures.evaluated.wide ∙ sym c.in_ok-more.ensures.evaluated.wide

pub solve_outward-union_of-requires-clause-known_right : goal.solve_outward-union_of-requires-clause-known_right
solve_outward-union_of-requires-clause-known_right g t c = c.in_ok-more.ensures.evaluated.known

-- ---- Union, LeftJoin and Minus after the names

pub solve_outward-solve_each-requires-in-Union-clause-index : goal.solve_outward-solve_each-requires-in-Union-clause-index
solve_outward-solve_each-requires-in-Union-clause-index g t c κs within = (index_kept c.args.dict c.in_ok-rows.dict c.in_ok-rows.ensures.evaluated.grown c.args.self.now.index.now c.requires.index).0

pub solve_outward-solve_each-requires-in-Union-clause-graphs : goal.solve_outward-solve_each-requires-in-Union-clause-graphs
solve_outward-solve_each-requires-in-Union-clause-graphs g t c κs within =
    graphs_kept c.args.dict c.in_ok-rows.dict c.in_ok-rows.ensures.evaluated.grown c.args.self.now.index.now c.requires.index c.args.graphs.now c.requires.graphs

pub solve_outward-returns-in-Union-clause-evaluated : goal.solve_outward-returns-in-Union-clause-evaluated
solve_outward-returns-in-Union-clause-evaluated g t c =
    let s = c.args.self.now in
    let terms = c.args.dict in
    let v = c.args.variable in
    let graphs = c.args.graphs.now in
    let whole : Algebra → List (Solution Term) = λ A. solutions_in terms s.index.now s.width v graphs A in
    let L = algebra_of c.deref.result.now in
    let R = algebra_of c.deref-in-Union.result.now in
    let is : algebra_of c.args.inner.now ≡ algebra.Union L R =
    ap algebra_of c.in-Union.is ∙ union_denotes c.in-Union.left c.in-Union.right ∙ (λ i. algebra.Union (algebra_of ((sym c.deref.ensures) i)) (algebra_of ((sym c.deref-in-Union.ensures) i))) in
    as_whole terms s.width c.union_of.result (whole (algebra.Union L R)) (whole (algebra_of c.args.inner.now)) (ap whole is)
    (union_each terms c.in_ok-rows.dict s.index.now c.requires.index s.width v graphs c.requires.graphs c.union_of.result L R c.in_ok-rows.rows c.in_ok-rows.ensures.evaluated
    (after_right c.in_ok-rows.dict c.in_ok-more.dict s.width c.union_of.result (λ A B. A ++ B) union_keeps (solutions_in c.in_ok-rows.dict s.index.now s.width v graphs R) c.in_ok-rows.rows c.in_ok-more.more c.in_ok-rows.ensures.evaluated.wide c.in_ok-rows.ensures.evaluated.known c.in_ok-more.ensures.evaluated c.union_of.ensures.evaluated))

pub solve_outward-returns-in-Union-clause-needed : goal.solve_outward-returns-in-Union-clause-needed
solve_outward-returns-in-Union-clause-needed g t c =
    let s = c.args.self.now in
    let terms = c.args.dict in
    let v = c.args.variable in
    let graphs = c.args.graphs.now in
    let whole : Algebra → List (Solution Term) = λ A. solutions_in terms s.index.now s.width v graphs A in
    let L = algebra_of c.deref.result.now in
    let R = algebra_of c.deref-in-Union.result.now in
    let is : algebra_of c.args.inner.now ≡ algebra.Union L R =
    ap algebra_of c.in-Union.is ∙ union_denotes c.in-Union.left c.in-Union.right ∙ (λ i. algebra.Union (algebra_of ((sym c.deref.ensures) i)) (algebra_of ((sym c.deref-in-Union.ensures) i))) in
    takes_as_each terms s.index.now s.width v c.union_of.result (algebra_of c.args.inner.now) (algebra.Union L R) is
    (takes_pair terms c.in_ok-rows.dict s.index.now c.requires.index s.width v graphs c.requires.graphs c.union_of.result L R c.in_ok-rows.ensures.evaluated.grown c.in_ok-rows.ensures.needed
    (takes_still (NeededIn c.in_ok-rows.dict s.index.now s.width (each_graph v) R) c.in_ok-rows.dict c.in_ok-more.dict c.union_of.result c.in_ok-more.ensures.needed c.union_of.ensures.same_dict))

pub solve_outward-returns-in-Union-clause-one_worker : goal.solve_outward-returns-in-Union-clause-one_worker
solve_outward-returns-in-Union-clause-one_worker g t c = λ _. c.union_of.ensures.memory

pub solve_outward-solve_paired-requires-clause-index : goal.solve_outward-solve_paired-requires-clause-index
solve_outward-solve_paired-requires-clause-index g t c κs within = (index_kept c.args.dict c.in_ok-rows-2.dict c.in_ok-rows-2.ensures.evaluated.grown c.args.self.now.index.now c.requires.index).0

pub solve_outward-solve_paired-requires-clause-within : goal.solve_outward-solve_paired-requires-clause-within
solve_outward-solve_paired-requires-clause-within g t c κs within =
    subst (λ (T : Operator). is_within c.args.self.now.width (algebra_of T) ≡ true) (sym c.deref-then-not-may_mention-2.ensures) (left_join_within c.args.self.now.width c.in-LeftJoin.left c.in-LeftJoin.right c.in-LeftJoin.condition c.args.inner.now c.in-LeftJoin.is c.requires.within).1

pub solve_outward-returns-then-not-may_mention-clause-evaluated : goal.solve_outward-returns-then-not-may_mention-clause-evaluated
solve_outward-returns-then-not-may_mention-clause-evaluated g t c =
    let s = c.args.self.now in
    let terms = c.args.dict in
    let v = c.args.variable in
    let graphs = c.args.graphs.now in
    let now = c.in_ok-rows-2.dict in
    let rows = c.in_ok-rows-2.rows in
    let L = algebra_of c.in-LeftJoin.left.value in
    let C = algebra_of c.in-LeftJoin.right.value in
    let e = expression_of c.in-LeftJoin.condition in
    let apart = apart_parts (is_closed C) (may_bind s.width C v) (ap (λ (T : Operator). is_closed (algebra_of T) && not (may_bind s.width (algebra_of T) v)) (sym c.deref-in-LeftJoin.ensures) ∙ sym c.is_apart.ensures.value ∙ c.if-is_apart.true) in
    let none : mentions e v ≡ false = c.may_mention.ensures.not_mentioned c.if-not-may_mention.true in
    let whole : Algebra → List (Solution Term) = λ A. solutions_in terms s.index.now s.width v graphs A in
    as_whole terms s.width c.solve_paired.result (whole (algebra.LeftJoin L C e)) (whole (algebra_of c.args.inner.now))
    (ap (λ (T : Operator). whole (algebra_of T)) c.in-LeftJoin.is ∙ ap whole (left_join_denotes c.in-LeftJoin.left c.in-LeftJoin.right c.in-LeftJoin.condition))
    (left_join_each terms s.index.now s.width v graphs c.solve_paired.result c.requires.index c.requires.variable L c.in-LeftJoin.right.value apart.0 apart.1 now rows
    (subst (λ (T : Operator). IsEvaluated terms s.width (whole (algebra_of T)) rows now) c.deref-then-not-may_mention.ensures c.in_ok-rows-2.ensures.evaluated) e none
    (subst (λ (T : Operator). IfOk c.solve_paired.result (λ x. IsEvaluated now rows.width (left_join term_eq (holds e) (solutions_of now rows) (tree_solutions now s.index.now s.width None T)) x.0 x.1)) c.deref-then-not-may_mention-2.ensures c.solve_paired.ensures.evaluated))

pub solve_outward-returns-then-not-may_mention-clause-needed : goal.solve_outward-returns-then-not-may_mention-clause-needed
solve_outward-returns-then-not-may_mention-clause-needed g t c =
    let s = c.args.self.now in
    let terms = c.args.dict in
    let v = c.args.variable in
    let graphs = c.args.graphs.now in
    let now = c.in_ok-rows-2.dict in
    let rows = c.in_ok-rows-2.rows in
    let L = algebra_of c.in-LeftJoin.left.value in
    let C = algebra_of c.in-LeftJoin.right.value in
    let e = expression_of c.in-LeftJoin.condition in
    let apart = apart_parts (is_closed C) (may_bind s.width C v) (ap (λ (T : Operator). is_closed (algebra_of T) && not (may_bind s.width (algebra_of T) v)) (sym c.deref-in-LeftJoin.ensures) ∙ sym c.is_apart.ensures.value ∙ c.if-is_apart.true) in
    takes_as_each terms s.index.now s.width v c.solve_paired.result (algebra_of c.args.inner.now) (algebra.LeftJoin L C e) (ap algebra_of c.in-LeftJoin.is ∙ left_join_denotes c.in-LeftJoin.left c.in-LeftJoin.right c.in-LeftJoin.condition)
    (takes_then terms s.index.now s.width v graphs c.requires.graphs c.solve_paired.result L C now c.in_ok-rows-2.ensures.evaluated.grown c.requires.index c.requires.some apart.0
    (subst (λ (T : Operator). TakesOnly (NeededIn terms s.index.now s.width (each_graph v) (algebra_of T)) terms now) c.deref-then-not-may_mention.ensures c.in_ok-rows-2.ensures.needed)
    (subst (λ (T : Operator). IfOk c.solve_paired.result (λ x. TakesOnly (Needed now s.index.now s.width None (algebra_of T)) now x.1)) c.deref-then-not-may_mention-2.ensures c.solve_paired.ensures.needed))

pub solve_outward-returns-then-not-may_mention-clause-one_worker : goal.solve_outward-returns-then-not-may_mention-clause-one_worker
solve_outward-returns-then-not-may_mention-clause-one_worker g t c = c.solve_paired.ensures.one_worker

pub solve_outward-solve_paired-requires-then-is_apart-2-clause-index : goal.solve_outward-solve_paired-requires-then-is_apart-2-clause-index
solve_outward-solve_paired-requires-then-is_apart-2-clause-index g t c κs within = (index_kept c.args.dict c.in_ok-rows-3.dict c.in_ok-rows-3.ensures.evaluated.grown c.args.self.now.index.now c.requires.index).0

pub solve_outward-solve_paired-requires-then-is_apart-2-clause-within : goal.solve_outward-solve_paired-requires-then-is_apart-2-clause-within
solve_outward-solve_paired-requires-then-is_apart-2-clause-within g t c κs within =
    subst (λ (T : Operator). is_within c.args.self.now.width (algebra_of T) ≡ true) (sym c.deref-then-is_apart-2-2.ensures) (minus_within c.args.self.now.width c.in-Minus.left c.in-Minus.right c.args.inner.now c.in-Minus.is c.requires.within).1

pub solve_outward-returns-then-is_apart-2-clause-evaluated : goal.solve_outward-returns-then-is_apart-2-clause-evaluated
solve_outward-returns-then-is_apart-2-clause-evaluated g t c =
    let s = c.args.self.now in
    let terms = c.args.dict in
    let v = c.args.variable in
    let graphs = c.args.graphs.now in
    let now = c.in_ok-rows-3.dict in
    let rows = c.in_ok-rows-3.rows in
    let L = algebra_of c.in-Minus.left.value in
    let C = algebra_of c.in-Minus.right.value in
    let apart = apart_parts (is_closed C) (may_bind s.width C v) (ap (λ (T : Operator). is_closed (algebra_of T) && not (may_bind s.width (algebra_of T) v)) (sym c.deref-in-Minus.ensures) ∙ sym c.is_apart-in-Minus.ensures.value ∙ c.if-is_apart-2.true) in
    let whole : Algebra → List (Solution Term) = λ A. solutions_in terms s.index.now s.width v graphs A in
    as_whole terms s.width c.solve_paired-then-is_apart-2.result (whole (algebra.Minus L C)) (whole (algebra_of c.args.inner.now))
    (ap (λ (T : Operator). whole (algebra_of T)) c.in-Minus.is ∙ ap whole (minus_denotes c.in-Minus.left c.in-Minus.right))
    (minus_each terms s.index.now s.width v graphs c.solve_paired-then-is_apart-2.result c.requires.index c.requires.variable L c.in-Minus.right.value apart.0 apart.1 now rows
    (subst (λ (T : Operator). IsEvaluated terms s.width (whole (algebra_of T)) rows now) c.deref-then-is_apart-2.ensures c.in_ok-rows-3.ensures.evaluated)
    (subst (λ (T : Operator). IfOk c.solve_paired-then-is_apart-2.result (λ x. IsEvaluated now rows.width (minus term_eq (solutions_of now rows) (tree_solutions now s.index.now s.width None T)) x.0 x.1)) c.deref-then-is_apart-2-2.ensures c.solve_paired-then-is_apart-2.ensures.evaluated))

pub solve_outward-returns-then-is_apart-2-clause-needed : goal.solve_outward-returns-then-is_apart-2-clause-needed
solve_outward-returns-then-is_apart-2-clause-needed g t c =
    let s = c.args.self.now in
    let terms = c.args.dict in
    let v = c.args.variable in
    let graphs = c.args.graphs.now in
    let now = c.in_ok-rows-3.dict in
    let rows = c.in_ok-rows-3.rows in
    let L = algebra_of c.in-Minus.left.value in
    let C = algebra_of c.in-Minus.right.value in
    let apart = apart_parts (is_closed C) (may_bind s.width C v) (ap (λ (T : Operator). is_closed (algebra_of T) && not (may_bind s.width (algebra_of T) v)) (sym c.deref-in-Minus.ensures) ∙ sym c.is_apart-in-Minus.ensures.value ∙ c.if-is_apart-2.true) in
    takes_as_each terms s.index.now s.width v c.solve_paired-then-is_apart-2.result (algebra_of c.args.inner.now) (algebra.Minus L C) (ap algebra_of c.in-Minus.is ∙ minus_denotes c.in-Minus.left c.in-Minus.right)
    (takes_then terms s.index.now s.width v graphs c.requires.graphs c.solve_paired-then-is_apart-2.result L C now c.in_ok-rows-3.ensures.evaluated.grown c.requires.index c.requires.some apart.0
    (subst (λ (T : Operator). TakesOnly (NeededIn terms s.index.now s.width (each_graph v) (algebra_of T)) terms now) c.deref-then-is_apart-2.ensures c.in_ok-rows-3.ensures.needed)
    (subst (λ (T : Operator). IfOk c.solve_paired-then-is_apart-2.result (λ x. TakesOnly (Needed now s.index.now s.width None (algebra_of T)) now x.1)) c.deref-then-is_apart-2-2.ensures c.solve_paired-then-is_apart-2.ensures.needed))

pub solve_outward-returns-then-is_apart-2-clause-one_worker : goal.solve_outward-returns-then-is_apart-2-clause-one_worker
solve_outward-returns-then-is_apart-2-clause-one_worker g t c = c.solve_paired-then-is_apart-2.ensures.one_worker

-- ---- Filter and Extend after the names

pub solve_expression_outward-returns-then-not-may_mention-clause-needed : goal.solve_expression_outward-returns-then-not-may_mention-clause-needed
solve_expression_outward-returns-then-not-may_mention-clause-needed g t c =
    let s = c.args.self.now in
    let e = expression_of c.in-Filter.condition in
    takes_as_each c.args.dict s.index.now s.width c.args.variable c.solve_each_filter.result (algebra_of c.args.inner.now) (algebra.Filter e (algebra_of c.deref-then-not-may_mention.result.now))
    (ap algebra_of c.in-Filter.is ∙ filter_denotes c.in-Filter.condition c.in-Filter.below ∙ (λ i. algebra.Filter e (algebra_of ((sym c.deref-then-not-may_mention.ensures) i))))
    c.solve_each_filter.ensures.needed

pub solve_expression_outward-returns-then-not-may_mention-2-clause-needed : goal.solve_expression_outward-returns-then-not-may_mention-2-clause-needed
solve_expression_outward-returns-then-not-may_mention-2-clause-needed g t c =
    let s = c.args.self.now in
    let e = expression_of c.in-Extend.expression in
    let A = algebra_of c.deref-then-not-may_mention-2.result.now in
    takes_as_each c.args.dict s.index.now s.width c.args.variable c.extend.result (algebra_of c.args.inner.now) (algebra.Extend c.in-Extend.bound e A)
    (ap algebra_of c.in-Extend.is ∙ extend_denotes c.in-Extend.bound c.in-Extend.expression c.in-Extend.below ∙ (λ i. algebra.Extend c.in-Extend.bound e (algebra_of ((sym c.deref-then-not-may_mention-2.ensures) i))))
    (takes_each_values c.args.dict s.index.now s.width c.args.variable c.in-Extend.bound e (c.may_mention-then-moves.ensures.not_mentioned c.if-not-may_mention-2.true) A c.args.graphs.now c.requires.graphs c.extend.result
    c.in_ok-rows.dict c.in_ok-rows.rows c.in_ok-rows.ensures.evaluated c.in_ok-rows.ensures.needed c.extend.ensures.needed)

pub solve_expression_outward-returns-then-not-may_mention-2-clause-evaluated : goal.solve_expression_outward-returns-then-not-may_mention-2-clause-evaluated
solve_expression_outward-returns-then-not-may_mention-2-clause-evaluated g t c =
    let s = c.args.self.now in
    let e = expression_of c.in-Extend.expression in
    let A = algebra_of c.deref-then-not-may_mention-2.result.now in
    let another : nat_eq c.in-Extend.bound c.args.variable ≡ false = search rules in
    let whole : Algebra → List (Solution Term) = λ A. solutions_in c.args.dict s.index.now s.width c.args.variable c.args.graphs.now A in
    as_whole c.args.dict s.width c.extend.result (whole (algebra.Extend c.in-Extend.bound e A)) (whole (algebra_of c.args.inner.now))
    (ap whole (ap algebra_of c.in-Extend.is ∙ extend_denotes c.in-Extend.bound c.in-Extend.expression c.in-Extend.below ∙ (λ i. algebra.Extend c.in-Extend.bound e (algebra_of ((sym c.deref-then-not-may_mention-2.ensures) i)))))
    (extend_each c.args.dict s.index.now s.width c.args.variable c.args.graphs.now c.extend.result c.in-Extend.bound another e A (c.may_mention-then-moves.ensures.not_mentioned c.if-not-may_mention-2.true)
    c.in_ok-rows.dict c.in_ok-rows.rows c.in_ok-rows.ensures.evaluated c.extend.ensures.evaluated)

pub solve_expression_outward-returns-then-not-may_mention-2-clause-one_worker : goal.solve_expression_outward-returns-then-not-may_mention-2-clause-one_worker
solve_expression_outward-returns-then-not-may_mention-2-clause-one_worker g t c = c.extend.ensures.one_worker

pub solve_expression_outward-extend-requires-clause-known : goal.solve_expression_outward-extend-requires-clause-known
solve_expression_outward-extend-requires-clause-known g t c κs within = c.in_ok-rows.ensures.evaluated.known

pub solve_expression_outward-extend-requires-clause-variable : goal.solve_expression_outward-extend-requires-clause-variable
solve_expression_outward-extend-requires-clause-variable g t c κs within =
    subst (λ (w : ℕ). c.in-Extend.bound < w) (sym c.in_ok-rows.ensures.evaluated.wide) (extend_below c.args.self.now.width c.in-Extend.bound c.in-Extend.expression c.in-Extend.below c.args.inner.now c.in-Extend.is c.requires.within)

-- ---- equalities after the names

pub solve_each_where-solve_join_where-requires-clause-index : goal.solve_each_where-solve_join_where-requires-clause-index
solve_each_where-solve_join_where-requires-clause-index g t c κs within = (index_kept c.args.dict c.in_ok-rows.dict c.in_ok-rows.ensures.evaluated.grown c.args.self.now.index.now c.requires.index).0

pub solve_each_where-solve_join_where-requires-clause-within : goal.solve_each_where-solve_join_where-requires-clause-within
solve_each_where-solve_join_where-requires-clause-within g t c κs within =
    subst (λ (T : Operator). is_within c.args.self.now.width (algebra_of T) ≡ true) (sym c.deref-then-is_closed-2.ensures) (join_within c.args.self.now.width c.in-Join.left c.in-Join.right c.args.inner.now c.in-Join.is c.requires.within).1

pub solve_each_where-returns-then-is_closed-clause-evaluated : goal.solve_each_where-returns-then-is_closed-clause-evaluated
solve_each_where-returns-then-is_closed-clause-evaluated g t c =
    let s = c.args.self.now in
    let terms = c.args.dict in
    let v = c.args.variable in
    let graphs = c.args.graphs.now in
    let p = c.args.pairs.now in
    let now = c.in_ok-rows.dict in
    let rows = c.in_ok-rows.rows in
    let A = algebra_of c.in-Join.left.value in
    let tree = c.in-Join.right.value in
    let closed : is_closed (algebra_of tree) ≡ true = ap (λ (T : Operator). is_closed (algebra_of T)) (sym c.deref.ensures) ∙ sym c.is_closed.ensures.value ∙ c.if-is_closed.true in
    let whole : Algebra → List (Solution Term) = λ A. solutions_in terms s.index.now s.width v graphs A in
    where_whole p terms s.width c.solve_join_where.result (whole (algebra.Join (algebra_of c.in-Join.left.value) (algebra_of c.in-Join.right.value))) (whole (algebra_of c.args.inner.now))
    (ap (λ (T : Operator). whole (algebra_of T)) c.in-Join.is ∙ ap whole (join_denotes c.in-Join.left c.in-Join.right))
    (join_right_where terms s.index.now c.requires.index s.width v graphs c.solve_join_where.result p A tree closed now rows
    (subst (λ (T : Operator). IsEvaluatedWhere terms s.width (fits p) (whole (algebra_of T)) rows now) c.deref-then-is_closed.ensures c.in_ok-rows.ensures.evaluated)
    (subst (λ (T : Operator). IfOk c.solve_join_where.result (λ x. IsEvaluatedWhere now rows.width (fits p) (join term_eq (solutions_of now rows) (tree_solutions now s.index.now s.width None T)) x.0 x.1)) c.deref-then-is_closed-2.ensures c.solve_join_where.ensures.evaluated))

pub solve_each_where-returns-then-is_closed-clause-needed : goal.solve_each_where-returns-then-is_closed-clause-needed
solve_each_where-returns-then-is_closed-clause-needed g t c =
    let s = c.args.self.now in
    let terms = c.args.dict in
    let v = c.args.variable in
    let now = c.in_ok-rows.dict in
    let A = algebra_of c.in-Join.left.value in
    let C = algebra_of c.in-Join.right.value in
    let closed : is_closed C ≡ true = ap (λ (T : Operator). is_closed (algebra_of T)) (sym c.deref.ensures) ∙ sym c.is_closed.ensures.value ∙ c.if-is_closed.true in
    takes_as_each terms s.index.now s.width v c.solve_join_where.result (algebra_of c.args.inner.now) (algebra.Join (algebra_of c.in-Join.left.value) (algebra_of c.in-Join.right.value)) (ap algebra_of c.in-Join.is ∙ join_denotes c.in-Join.left c.in-Join.right)
    (takes_then terms s.index.now s.width v c.args.graphs.now c.requires.graphs c.solve_join_where.result A C now c.in_ok-rows.ensures.evaluated.grown c.requires.index c.requires.some closed
    (subst (λ (T : Operator). TakesOnly (NeededIn terms s.index.now s.width (each_graph v) (algebra_of T)) terms now) c.deref-then-is_closed.ensures c.in_ok-rows.ensures.needed)
    (subst (λ (T : Operator). IfOk c.solve_join_where.result (λ x. TakesOnly (Needed now s.index.now s.width None (algebra_of T)) now x.1)) c.deref-then-is_closed-2.ensures c.solve_join_where.ensures.needed))

pub solve_each_where-solve_join_where-requires-then-is_closed-2-clause-index : goal.solve_each_where-solve_join_where-requires-then-is_closed-2-clause-index
solve_each_where-solve_join_where-requires-then-is_closed-2-clause-index g t c κs within = (index_kept c.args.dict c.in_ok-others.dict c.in_ok-others.ensures.evaluated.grown c.args.self.now.index.now c.requires.index).0

pub solve_each_where-solve_join_where-requires-then-is_closed-2-clause-within : goal.solve_each_where-solve_join_where-requires-then-is_closed-2-clause-within
solve_each_where-solve_join_where-requires-then-is_closed-2-clause-within g t c κs within =
    subst (λ (T : Operator). is_within c.args.self.now.width (algebra_of T) ≡ true) (sym c.deref-then-is_closed-2-3.ensures) (join_within c.args.self.now.width c.in-Join.left c.in-Join.right c.args.inner.now c.in-Join.is c.requires.within).0

pub solve_each_where-returns-then-is_closed-2-clause-evaluated : goal.solve_each_where-returns-then-is_closed-2-clause-evaluated
solve_each_where-returns-then-is_closed-2-clause-evaluated g t c =
    let s = c.args.self.now in
    let terms = c.args.dict in
    let v = c.args.variable in
    let graphs = c.args.graphs.now in
    let p = c.args.pairs.now in
    let now = c.in_ok-others.dict in
    let rows = c.in_ok-others.others in
    let A = algebra_of c.in-Join.right.value in
    let tree = c.in-Join.left.value in
    let closed : is_closed (algebra_of tree) ≡ true = ap (λ (T : Operator). is_closed (algebra_of T)) (sym c.deref-in-Join.ensures) ∙ sym c.is_closed-in-Join.ensures.value ∙ c.if-is_closed-2.true in
    let whole : Algebra → List (Solution Term) = λ A. solutions_in terms s.index.now s.width v graphs A in
    where_whole p terms s.width c.solve_join_where-then-is_closed-2.result (whole (algebra.Join (algebra_of c.in-Join.left.value) (algebra_of c.in-Join.right.value))) (whole (algebra_of c.args.inner.now))
    (ap (λ (T : Operator). whole (algebra_of T)) c.in-Join.is ∙ ap whole (join_denotes c.in-Join.left c.in-Join.right))
    (join_left_where terms s.index.now c.requires.index s.width v graphs c.solve_join_where-then-is_closed-2.result p A tree closed now rows
    (subst (λ (T : Operator). IsEvaluatedWhere terms s.width (fits p) (whole (algebra_of T)) rows now) c.deref-then-is_closed-2-2.ensures c.in_ok-others.ensures.evaluated)
    (subst (λ (T : Operator). IfOk c.solve_join_where-then-is_closed-2.result (λ x. IsEvaluatedWhere now rows.width (fits p) (join term_eq (solutions_of now rows) (tree_solutions now s.index.now s.width None T)) x.0 x.1)) c.deref-then-is_closed-2-3.ensures c.solve_join_where-then-is_closed-2.ensures.evaluated))

pub solve_each_where-returns-then-is_closed-2-clause-needed : goal.solve_each_where-returns-then-is_closed-2-clause-needed
solve_each_where-returns-then-is_closed-2-clause-needed g t c =
    let s = c.args.self.now in
    let terms = c.args.dict in
    let v = c.args.variable in
    let now = c.in_ok-others.dict in
    let A = algebra_of c.in-Join.right.value in
    let C = algebra_of c.in-Join.left.value in
    let closed : is_closed C ≡ true = ap (λ (T : Operator). is_closed (algebra_of T)) (sym c.deref-in-Join.ensures) ∙ sym c.is_closed-in-Join.ensures.value ∙ c.if-is_closed-2.true in
    takes_as_each terms s.index.now s.width v c.solve_join_where-then-is_closed-2.result (algebra_of c.args.inner.now) (algebra.Join (algebra_of c.in-Join.left.value) (algebra_of c.in-Join.right.value)) (ap algebra_of c.in-Join.is ∙ join_denotes c.in-Join.left c.in-Join.right)
    (takes_turned terms s.index.now s.width v c.solve_join_where-then-is_closed-2.result A C (takes_then terms s.index.now s.width v c.args.graphs.now c.requires.graphs c.solve_join_where-then-is_closed-2.result A C now c.in_ok-others.ensures.evaluated.grown c.requires.index c.requires.some closed
    (subst (λ (T : Operator). TakesOnly (NeededIn terms s.index.now s.width (each_graph v) (algebra_of T)) terms now) c.deref-then-is_closed-2-2.ensures c.in_ok-others.ensures.needed)
    (subst (λ (T : Operator). IfOk c.solve_join_where-then-is_closed-2.result (λ x. TakesOnly (Needed now s.index.now s.width None (algebra_of T)) now x.1)) c.deref-then-is_closed-2-3.ensures c.solve_join_where-then-is_closed-2.ensures.needed)))

pub solve_each_where-returns-clause-evaluated : goal.solve_each_where-returns-clause-evaluated
solve_each_where-returns-clause-evaluated g t c =
    let s = c.args.self.now in
    where_any_ok c.args.pairs.now c.args.dict s.width c.solve_each.result (solutions_in c.args.dict s.index.now s.width c.args.variable c.args.graphs.now (algebra_of c.args.inner.now)) c.solve_each.ensures.evaluated

-- ---- a join of the rows of all graphs

pub solve_outward-join_of-requires-clause-known_left : goal.solve_outward-join_of-requires-clause-known_left
solve_outward-join_of-requires-clause-known_left g t c κs within = (rows_kept c.in_ok-rows-4.dict c.in_ok-others.dict c.in_ok-others.ensures.evaluated.grown c.in_ok-rows-4.rows.rows c.in_ok-rows-4.ensures.evaluated.known).0

pub solve_outward-join_of-requires-clause-same_width : goal.solve_outward-join_of-requires-clause-same_width
solve_outward-join_of-requires-clause-same_width g t c κs within = c.in_ok-rows-4.ensures.evaluated.wide ∙ sym c.in_ok-others.ensures.evaluated.wide

pub solve_outward-join_of-requires-clause-known_right : goal.solve_outward-join_of-requires-clause-known_right
solve_outward-join_of-requires-clause-known_right g t c κs within = c.in_ok-others.ensures.evaluated.known

pub solve_outward-solve_each-requires-then-is_partly_closed-2-clause-index : goal.solve_outward-solve_each-requires-then-is_partly_closed-2-clause-index
solve_outward-solve_each-requires-then-is_partly_closed-2-clause-index g t c κs within = (index_kept c.args.dict c.in_ok-rows-4.dict c.in_ok-rows-4.ensures.evaluated.grown c.args.self.now.index.now c.requires.index).0

pub solve_outward-solve_each-requires-then-is_partly_closed-2-clause-graphs : goal.solve_outward-solve_each-requires-then-is_partly_closed-2-clause-graphs
solve_outward-solve_each-requires-then-is_partly_closed-2-clause-graphs g t c κs within =
    graphs_kept c.args.dict c.in_ok-rows-4.dict c.in_ok-rows-4.ensures.evaluated.grown c.args.self.now.index.now c.requires.index c.args.graphs.now c.requires.graphs

pub solve_outward-solve_each-requires-then-is_partly_closed-2-clause-within : goal.solve_outward-solve_each-requires-then-is_partly_closed-2-clause-within
solve_outward-solve_each-requires-then-is_partly_closed-2-clause-within g t c κs within =
    subst (λ (T : Operator). is_within c.args.self.now.width (algebra_of T) ≡ true) (sym c.deref-then-is_partly_closed-2.ensures) (join_within c.args.self.now.width c.in-Join.left c.in-Join.right c.args.inner.now c.in-Join.is c.requires.within).1

pub solve_outward-returns-then-is_partly_closed-clause-evaluated : goal.solve_outward-returns-then-is_partly_closed-clause-evaluated
solve_outward-returns-then-is_partly_closed-clause-evaluated g t c =
    let s = c.args.self.now in
    let terms = c.args.dict in
    let v = c.args.variable in
    let graphs = c.args.graphs.now in
    let whole : Algebra → List (Solution Term) = λ A. solutions_in terms s.index.now s.width v graphs A in
    let L = algebra_of c.deref-then-is_partly_closed.result.now in
    let R = algebra_of c.deref-then-is_partly_closed-2.result.now in
    let is : algebra_of c.args.inner.now ≡ algebra.Join L R =
    ap algebra_of c.in-Join.is ∙ join_denotes c.in-Join.left c.in-Join.right ∙ (λ i. algebra.Join (algebra_of ((sym c.deref-then-is_partly_closed.ensures) i)) (algebra_of ((sym c.deref-then-is_partly_closed-2.ensures) i))) in
    as_whole terms s.width c.join_of.result (whole (algebra.Join L R)) (whole (algebra_of c.args.inner.now)) (ap whole is)
    (join_each terms c.in_ok-rows-4.dict s.index.now c.requires.index s.width v graphs c.requires.graphs c.join_of.result L R c.requires.variable c.in_ok-rows-4.rows c.in_ok-rows-4.ensures.evaluated
    (after_right c.in_ok-rows-4.dict c.in_ok-others.dict s.width c.join_of.result (join term_eq) join_keeps (solutions_in c.in_ok-rows-4.dict s.index.now s.width v graphs R) c.in_ok-rows-4.rows c.in_ok-others.others c.in_ok-rows-4.ensures.evaluated.wide c.in_ok-rows-4.ensures.evaluated.known c.in_ok-others.ensures.evaluated c.join_of.ensures.evaluated))

pub solve_outward-returns-then-is_partly_closed-clause-needed : goal.solve_outward-returns-then-is_partly_closed-clause-needed
solve_outward-returns-then-is_partly_closed-clause-needed g t c =
    let s = c.args.self.now in
    let terms = c.args.dict in
    let v = c.args.variable in
    let graphs = c.args.graphs.now in
    let L = algebra_of c.deref-then-is_partly_closed.result.now in
    let R = algebra_of c.deref-then-is_partly_closed-2.result.now in
    let is : algebra_of c.args.inner.now ≡ algebra.Join L R =
    ap algebra_of c.in-Join.is ∙ join_denotes c.in-Join.left c.in-Join.right ∙ (λ i. algebra.Join (algebra_of ((sym c.deref-then-is_partly_closed.ensures) i)) (algebra_of ((sym c.deref-then-is_partly_closed-2.ensures) i))) in
    takes_as_each terms s.index.now s.width v c.join_of.result (algebra_of c.args.inner.now) (algebra.Join L R) is
    (takes_pair terms c.in_ok-rows-4.dict s.index.now c.requires.index s.width v graphs c.requires.graphs c.join_of.result L R c.in_ok-rows-4.ensures.evaluated.grown c.in_ok-rows-4.ensures.needed
    (takes_still (NeededIn c.in_ok-rows-4.dict s.index.now s.width (each_graph v) R) c.in_ok-rows-4.dict c.in_ok-others.dict c.join_of.result c.in_ok-others.ensures.needed c.join_of.ensures.same_dict))

pub solve_outward-returns-then-is_partly_closed-clause-one_worker : goal.solve_outward-returns-then-is_partly_closed-clause-one_worker
solve_outward-returns-then-is_partly_closed-clause-one_worker g t c = c.join_of.ensures.one_worker

-- ---- the same, of which only the rows that fit are needed

pub solve_each_where-solve_each_where-requires-then-is_partly_closed-2-clause-index : goal.solve_each_where-solve_each_where-requires-then-is_partly_closed-2-clause-index
solve_each_where-solve_each_where-requires-then-is_partly_closed-2-clause-index g t c κs within = (index_kept c.args.dict c.in_ok-rows-2.dict c.in_ok-rows-2.ensures.evaluated.grown c.args.self.now.index.now c.requires.index).0

pub solve_each_where-solve_each_where-requires-then-is_partly_closed-2-clause-graphs : goal.solve_each_where-solve_each_where-requires-then-is_partly_closed-2-clause-graphs
solve_each_where-solve_each_where-requires-then-is_partly_closed-2-clause-graphs g t c κs within =
    graphs_kept c.args.dict c.in_ok-rows-2.dict c.in_ok-rows-2.ensures.evaluated.grown c.args.self.now.index.now c.requires.index c.args.graphs.now c.requires.graphs

pub solve_each_where-solve_each_where-requires-then-is_partly_closed-2-clause-within : goal.solve_each_where-solve_each_where-requires-then-is_partly_closed-2-clause-within
solve_each_where-solve_each_where-requires-then-is_partly_closed-2-clause-within g t c κs within =
    subst (λ (T : Operator). is_within c.args.self.now.width (algebra_of T) ≡ true) (sym c.deref-then-is_partly_closed-2.ensures) (join_within c.args.self.now.width c.in-Join.left c.in-Join.right c.args.inner.now c.in-Join.is c.requires.within).1

pub solve_each_where-join_where-requires-clause-same_width : goal.solve_each_where-join_where-requires-clause-same_width
solve_each_where-join_where-requires-clause-same_width g t c κs within = c.in_ok-rows-2.ensures.evaluated.wide ∙ sym c.in_ok-others-2.ensures.evaluated.wide

pub solve_each_where-join_where-requires-clause-known_left : goal.solve_each_where-join_where-requires-clause-known_left
solve_each_where-join_where-requires-clause-known_left g t c κs within = (rows_kept c.in_ok-rows-2.dict c.in_ok-others-2.dict c.in_ok-others-2.ensures.evaluated.grown c.in_ok-rows-2.rows.rows c.in_ok-rows-2.ensures.evaluated.known).0

pub solve_each_where-join_where-requires-clause-known_right : goal.solve_each_where-join_where-requires-clause-known_right
solve_each_where-join_where-requires-clause-known_right g t c κs within = c.in_ok-others-2.ensures.evaluated.known

pub solve_each_where-returns-then-is_partly_closed-clause-evaluated : goal.solve_each_where-returns-then-is_partly_closed-clause-evaluated
solve_each_where-returns-then-is_partly_closed-clause-evaluated g t c =
    let s = c.args.self.now in
    let terms = c.args.dict in
    let now = c.in_ok-rows-2.dict in
    let v = c.args.variable in
    let graphs = c.args.graphs.now in
    let p = c.args.pairs.now in
    let rows = c.in_ok-rows-2.rows in
    let whole : Algebra → List (Solution Term) = λ A. solutions_in terms s.index.now s.width v graphs A in
    let L = algebra_of c.deref-then-is_partly_closed.result.now in
    let R = algebra_of c.deref-then-is_partly_closed-2.result.now in
    let is : algebra_of c.args.inner.now ≡ algebra.Join L R =
    ap algebra_of c.in-Join.is ∙ join_denotes c.in-Join.left c.in-Join.right ∙ (λ i. algebra.Join (algebra_of ((sym c.deref-then-is_partly_closed.ensures) i)) (algebra_of ((sym c.deref-then-is_partly_closed-2.ensures) i))) in
    where_whole p terms s.width c.join_where.result (whole (algebra.Join L R)) (whole (algebra_of c.args.inner.now)) (ap whole is)
    (join_each_fitting terms now s.index.now c.requires.index s.width v graphs c.requires.graphs c.join_where.result L R c.requires.variable p rows c.in_ok-rows-2.ensures.evaluated
    (where_right p now c.in_ok-others-2.dict s.width c.join_where.result (solutions_in now s.index.now s.width v graphs R) rows c.in_ok-others-2.others c.in_ok-rows-2.ensures.evaluated.known c.in_ok-others-2.ensures.evaluated c.join_where.ensures.evaluated))

pub solve_each_where-returns-then-is_partly_closed-clause-needed : goal.solve_each_where-returns-then-is_partly_closed-clause-needed
solve_each_where-returns-then-is_partly_closed-clause-needed g t c =
    let s = c.args.self.now in
    let terms = c.args.dict in
    let now = c.in_ok-rows-2.dict in
    let v = c.args.variable in
    let graphs = c.args.graphs.now in
    let L = algebra_of c.deref-then-is_partly_closed.result.now in
    let R = algebra_of c.deref-then-is_partly_closed-2.result.now in
    let is : algebra_of c.args.inner.now ≡ algebra.Join L R =
    ap algebra_of c.in-Join.is ∙ join_denotes c.in-Join.left c.in-Join.right ∙ (λ i. algebra.Join (algebra_of ((sym c.deref-then-is_partly_closed.ensures) i)) (algebra_of ((sym c.deref-then-is_partly_closed-2.ensures) i))) in
    takes_as_each terms s.index.now s.width v c.join_where.result (algebra_of c.args.inner.now) (algebra.Join L R) is
    (takes_pair terms now s.index.now c.requires.index s.width v graphs c.requires.graphs c.join_where.result L R c.in_ok-rows-2.ensures.evaluated.grown c.in_ok-rows-2.ensures.needed
    (takes_still (NeededIn now s.index.now s.width (each_graph v) R) now c.in_ok-others-2.dict c.join_where.result c.in_ok-others-2.ensures.needed c.join_where.ensures.same_dict))

pub solve_each_where-returns-then-is_partly_closed-clause-one_worker : goal.solve_each_where-returns-then-is_partly_closed-clause-one_worker
solve_each_where-returns-then-is_partly_closed-clause-one_worker g t c = c.join_where.ensures.one_worker
