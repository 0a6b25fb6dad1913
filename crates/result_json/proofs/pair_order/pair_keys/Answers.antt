use Rattle.std.proofs.Common.{arith}
use Rattle.result_json.proofs.PairLaws.{read_more}
use Rattle.result_json.proofs.pair_order.pair_keys.Goals as goal

pub loop-i-preserved : goal.loop-i-preserved
loop-i-preserved c =
    read_more c.loop-i.i _ _ c.in-Some.key c.args.ranks.now c.loop-i.keys.items c.push.new.self.items (omega (arith, c.requires.within)) c.in-Some.ensures.pair c.in_ok-push.ensures.items c.loop-i.invariant
