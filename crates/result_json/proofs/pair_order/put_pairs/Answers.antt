use Rattle.std.proofs.Common.{arith}
use Rattle.result_json.proofs.PairLaws.{put_more}
use Rattle.result_json.proofs.pair_order.put_pairs.Goals as goal

pub loop-i-preserved : goal.loop-i-preserved
loop-i-preserved c = put_more c.loop-i.i c.loop-i.ranks c.args.keys.now (omega (arith, c.requires.within)) (omega arith) c.loop-i.invariant
