use Rattle.result_json.proofs.PackLaws.{put_more}
use Rattle.result_json.proofs.packed_rows.put_ranks.Goals as goal

pub loop-cell-preserved : goal.loop-cell-preserved
loop-cell-preserved c =
    put_more c.args.cells.now c.loop-cell.cell-index c.args.ranks.now.items c.loop-cell.ranks.items c.push.new.self.items c.rank_in.result c.loop-cell-test.true c.loop-cell.invariant c.in_ok-push.ensures.items c.rank_in.ensures.value
