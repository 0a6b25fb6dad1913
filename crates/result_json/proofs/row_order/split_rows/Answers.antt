use Rattle.std.proofs.Common.{◌≡◌, ◌∙◌, suc, ◌+◌, ◌-◌, arith}
use Rattle.result_json.proofs.RowSteps.{split_more}
use Rattle.result_json.proofs.row_order.split_rows.Goals as goal

pub loop-turn-preserved : goal.loop-turn-preserved
loop-turn-preserved c =
    let n = c.args.count - (c.loop-turn._turn + 1) in
    let k : c.args.count - c.loop-turn._turn ≡ suc n = omega arith in
    split_more c.args.width n c.loop-turn.rest.now c.following-rest.result.now c.loop-turn.made.items c.push.new.self.items c.ranked_row.result _ (c.args.count - c.loop-turn._turn) k c.in_ok-push.ensures.items
    (c.ranked_row.ensures.ranks ∙ c.first_row.ensures.value) c.following-rest.ensures.value c.loop-turn.invariant
