use Rattle.std.proofs.Common.{sym, ◌∙◌}
use Rattle.row_join.specs.Row.{row_of}
use Rattle.row_join.specs.Tried.{places_of}
use Rattle.row_join.proofs.PairLaws.{tried-apart}
use Rattle.row_join.proofs.ShareLaws.{unshared_apart}
use Rattle.row_join.proofs.minus_operator.stays.Goals as goal

pub returns-then-not-shares : goal.returns-then-not-shares
returns-then-not-shares c = record {
  value = sym (unshared_apart (row_of c.args.row) c.args.right.now.rows.now.rows (sym c.shares.ensures.value ∙ c.if-not-shares.true));
}

pub returns : goal.returns
returns c =
    let right = c.args.right.now in
    record {
      value = c.is_apart.ensures.value ∙ tried-apart right.key.items (row_of c.args.row) right.rows.now.rows (places_of c.in_ok-tried.tried) c.in_ok-tried.ensures.tried;
    }
