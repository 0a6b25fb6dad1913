use Rattle.std.proofs.Common.{◌≡◌, ℕ, ◌<◌, ◌++◌, Bool, List, Option, length, take, drop, ap, sym, ◌∙◌, arith, if◌then◌else◌}
use Rattle.std.proofs.lemmas.Result.{IfOk-weaker}
use Rattle.algebra_model.specs.Solution.{merge}
use Rattle.row_core.specs.Cells.{cells_of}
use Rattle.row_core.specs.RowList.{padded}
use Rattle.row_core.proofs.MergeSteps.{length-merged, padded-same}
use Rattle.row_core.proofs.rows.copies.add_merge.Goals as goal

pub returns-clause-merged : goal.returns-clause-merged
returns-clause-merged c =
    let w = c.args.width in
    let left = cells_of c.args.left.now in
    let right = cells_of c.args.right.now in
    let held = cells_of c.args.cells.now in
    let new = cells_of c.push_merge.new.self in
    let row = merge (take w (drop c.args.i left)) (take w (drop c.args.j right)) in
    let long : length row ≡ w = length-merged w c.args.i c.args.j left right c.requires.left_inside c.requires.right_inside in
    let some : 0 < length row = omega arith in
    IfOk-weaker c.push_merge.result
    (λ (met : Bool). new ≡ (if met then held ++ row else held))
    (λ (met : Bool). new ≡ (if met then held ++ padded row else held))
    (λ met e. e ∙ ap (λ (r : List (Option ℕ)). if met then held ++ r else held) (sym (padded-same row some)))
    c.push_merge.ensures.merged
