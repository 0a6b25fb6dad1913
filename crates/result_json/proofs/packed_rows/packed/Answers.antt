use Rattle.std.proofs.Common.{◌∙◌, arith, sym}
use Rattle.result_json.proofs.PackLaws.{cells_wide, pack_more}
use Rattle.result_json.proofs.packed_rows.packed.Goals as goal

pub push-requires : goal.push-requires
push-requires c =
    record { wide = cells_wide c.args.width c.row-item.result.ranks.now c.as_slice.result.now (c.as_slice.ensures.value ∙ c.in_ok-fill.ensures.cells) ∙ sym c.loop-row.invariant.width }

pub loop-row-preserved : goal.loop-row-preserved
loop-row-preserved c =
    record {
      width = c.push.ensures.width ∙ c.loop-row.invariant.width;
      rows = pack_more c.args.width c.loop-row.row-index c.args.rows.now c.row-item.result c.loop-row.made.rows c.push.new.self.rows c.as_slice.result.now (omega arith) c.row-item.is
          (c.as_slice.ensures.value ∙ c.in_ok-fill.ensures.cells) c.in_ok-push.ensures.added c.loop-row.invariant.rows;
    }
