use Rattle.std.proofs.Common.{◌∙◌, ap, get_or, set, ℕ}
use Rattle.result_json.proofs.SliceLaws.{upto-more}
use Rattle.result_json.proofs.ranking.put_ranks.Goals as goal

pub loop-code-preserved : goal.loop-code-preserved
loop-code-preserved c =
    let rank = λ (n : ℕ). get_or c.args.table.now n 0 in
    ap (λ (v : ℕ). set c.loop-code.codes c.loop-code.code-index v) c.rank_of.ensures.value ∙ upto-more rank c.loop-code.code-index c.args.codes.now c.loop-code.codes _ c.loop-code-test.true c.loop-code.invariant
