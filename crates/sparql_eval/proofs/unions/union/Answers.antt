use Rattle.std.proofs.Common.{ℕ, List, ◌++◌, ap, ◌∙◌}
use Rattle.algebra_model.specs.Solution.{Solution}
use Rattle.row_core.specs.RowList.{RowList}
use Rattle.sparql_eval.proofs.UnionSteps.{united}
use Rattle.sparql_eval.proofs.unions.union.Goals as goal

pub returns-clause-evaluated : goal.returns-clause-evaluated
returns-clause-evaluated c =
    let left = c.args.left.now in
    let right = c.args.right.now in
    let empty = c.new-made.ensures.empty in
    united c.args.dict left.width left right c.add_rows-2.new.made
    (c.in_ok-add_rows-2.ensures.width ∙ c.in_ok-add_rows.ensures.width ∙ ap (λ (r : RowList). r.width) empty ∙ c.width.ensures.value)
    c.requires.known_left c.requires.known_right
    (c.in_ok-add_rows-2.ensures.added ∙ ap (λ (l : List (Solution ℕ)). l ++ right.rows) (c.in_ok-add_rows.ensures.added ∙ ap (λ (r : RowList). r.rows ++ left.rows) empty))
