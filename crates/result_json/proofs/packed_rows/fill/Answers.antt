use Rattle.result_json.proofs.PackLaws.{fill_more}
use Rattle.result_json.proofs.packed_rows.fill.Goals as goal

pub loop-place-preserved : goal.loop-place-preserved
loop-place-preserved c =
    fill_more c.loop-place.place c.args.row.now.ranks.now c.loop-place.cells.items c.push.new.self.items c.rank.result c.loop-place.invariant c.in_ok-push.ensures.items c.rank.ensures.value
