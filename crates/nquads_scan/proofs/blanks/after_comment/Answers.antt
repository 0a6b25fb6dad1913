use Rattle.nquads_scan.proofs.BlankSteps.{comment_only, comment_then}
use Rattle.nquads_scan.proofs.blanks.after_comment.Goals as goal

pub returns-in-Some : goal.returns-in-Some
returns-in-Some c =
    comment_then c.args.text.now c.as_bytes-bytes.result.now c.in-Some.end c.range_from.result.now c.as_bytes-bytes.ensures.value c.if-bytes-ne35.false c.in-Some.ensures c.range_from.ensures.value

pub returns-in-None : goal.returns-in-None
returns-in-None c = comment_only c.args.text.now c.as_bytes-bytes.result.now c.as_bytes-bytes.ensures.value c.if-bytes-ne35.false c.in-None.ensures
