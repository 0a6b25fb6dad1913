use Rattle.std.proofs.Common.{[], get_or, ◌∙◌, arith}
use Rattle.row_join.specs.Row.{row_of}
use Rattle.row_join.proofs.ShareLaws.{shared_with}
use Rattle.row_join.proofs.right_side.RightSide.shares.Goals as goal

pub returns : goal.returns
returns c =
    let right = c.args.self.now in
    record {
      value = c.shares.ensures.value
          ∙ shared_with (row_of c.args.row) (get_or right.bound.rows 0 []) right.rows.now.rows (λ v low. right.covers v (omega arith));
    }
