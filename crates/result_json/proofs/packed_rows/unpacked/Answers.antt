use Rattle.std.proofs.Common.{◌∙◌, Some, ap, sym}
use Rattle.result_json.proofs.PackLaws.{unpack_more}
use Rattle.result_json.proofs.packed_rows.unpacked.Goals as goal

pub loop-i-preserved : goal.loop-i-preserved
loop-i-preserved c =
    unpack_more c.args.from c.loop-i.i c.args.rows.now.rows c.as_slice.result.now c.loop-i.made.items c.put_ranks.new.ranks.items c.loop-i.auto.i
    (c.in_ok-read.ensures.found ∙ ap Some (sym c.as_slice.ensures.value)) c.loop-i.invariant c.in_ok-put_ranks.ensures.ranks
