use Rattle.std.proofs.Common.{arith}
use Rattle.nquads_scan.proofs.RewritingSteps.{run_then}
use Rattle.nquads_scan.proofs.rewriting.cut_run.Goals as goal

pub returns : goal.returns
returns c =
    run_then c.args.text.now c.as_bytes-bytes.result.now c.search-end.result c.range.result.now c.range_from.result.now c.as_bytes-bytes.ensures.value c.utf8.text (omega arith) (omega arith)
    (c.is_sign.ensures c.if-not-is_sign.false) c.search-end.ensures.passed c.range.ensures.value c.range_from.ensures.value
