use Rattle.std.proofs.Common.{◌≡◌, ℕ, true, Bool, List, map, length, nat_eq, nat_lt, take, sym, ◌∙◌, subst}
use Rattle.algebra_model.specs.Bag.{IsSameBag}
use Rattle.algebra_model.specs.Expression.{holds}
use Rattle.algebra_model.specs.Operators.{left_join}
use Rattle.algebra_model.specs.Renaming.{Each}
use Rattle.algebra_model.specs.Solution.{Solution}
use Rattle.expression_values.specs.ExpressionOf.{expression_of}
use Rattle.row_join.specs.Numbers.{all_pass}
use Rattle.sparql_eval.specs.KeyedRows.{with_keys}
use Rattle.sparql_eval.proofs.JoinSteps.{left_joined, rows_pass}
use Rattle.sparql_eval.proofs.KeySteps.{each_of_all, keyed_known, left_join_keyed}
use Rattle.sparql_eval.proofs.ReadingLaws.{read_by}
use Rattle.sparql_eval.proofs.keyed_joins.left_joined_by_keys.Goals as goal

pub left_join-requires-clause-left_known : goal.left_join-requires-clause-left_known
left_join-requires-clause-left_known g c κs within =
    let terms = c.args.dict.now in
    let vs : List ℕ = map (λ key. key.left.variable) c.args.keys.now in
    let L = c.args.left.now.rows in
    subst (λ (R : List (Solution ℕ)). all_pass (λ n. nat_lt n (length terms)) R ≡ true) (sym c.in_ok-left.ensures.left) (rows_pass terms (map (with_keys terms vs) L) (keyed_known terms vs L c.requires.known_left))

pub left_join-requires-clause-right_known : goal.left_join-requires-clause-right_known
left_join-requires-clause-right_known g c κs within =
    let terms = c.args.dict.now in
    let vs : List ℕ = map (λ key. key.right.variable) c.args.keys.now in
    let R = c.args.right.now.rows in
    subst (λ (S : List (Solution ℕ)). all_pass (λ n. nat_lt n (length terms)) S ≡ true) (sym c.in_ok-left.ensures.right) (rows_pass terms (map (with_keys terms vs) R) (keyed_known terms vs R c.requires.known_right))

pub returns-clause-evaluated : goal.returns-clause-evaluated
returns-clause-evaluated g c =
    let terms = c.args.dict.now in
    let e = expression_of c.args.tested.now.condition.now in
    let pairs = c.args.keys.now in
    let L = c.args.left.now.rows in
    let R = c.args.right.now.rows in
    let w = c.width-width.result in
    let wideL : Each (λ (μ : Solution ℕ). length μ ≡ w) L =
    each_of_all (λ (μ : Solution ℕ). length μ ≡ w) L (λ k d low. c.width-width.ensures.wide k d low ∙ sym c.width-width.ensures.value) in
    let wideR : Each (λ (μ : Solution ℕ). length μ ≡ w) R =
    each_of_all (λ (μ : Solution ℕ). length μ ≡ w) R (λ k d low. c.width-same_width.ensures.wide k d low ∙ sym c.requires.same_width ∙ sym c.width-width.ensures.value) in
    let first : Solution ℕ → Bool = λ μ. holds e (read_by terms (take w μ)) in
    let bag = left_join_keyed terms c.len-distinct.ensures.distinct (holds e) pairs c.requires.required w R c.requires.known_right wideR L c.requires.known_left wideL c.in_ok-rows.rows.rows
    (subst (λ (B : List (Solution ℕ)). IsSameBag c.in_ok-rows.rows.rows B) (λ i. left_join nat_eq first (c.in_ok-left.ensures.left i) (c.in_ok-left.ensures.right i)) c.in_ok-rows.ensures.rows) in
    left_joined terms c.len-distinct.ensures.distinct c.args.left.now c.args.right.now c.in_ok-made.made c.requires.known_left c.requires.known_right
    (c.in_ok-made.ensures.width ∙ c.width-width.ensures.value) e
    (subst (λ (m : List (Solution ℕ)). IsSameBag m (left_join nat_eq (λ μ. holds e (read_by terms μ)) L R)) (sym c.in_ok-made.ensures.rows) bag)
