use Rattle.nquads_scan.proofs.PlainLineSteps.{skipped_more, skipped_none}
use Rattle.nquads_scan.proofs.plain_lines.skip_plain_lines.Goals as goal

pub loop-rest-init : goal.loop-rest-init
loop-rest-init c = skipped_none c.in-Ok.utf8.now c.args.text.now c.in-Ok.ensures.0 c.in-Ok.ensures.1

pub loop-rest-preserved : goal.loop-rest-preserved
loop-rest-preserved c =
    skipped_more c.loop-rest.count c.loop-rest.rest.now c.in-Some.after.now c.args.text.now c.loop-rest.invariant c.in-Some.ensures.line c.in-Some.ensures.utf8 c.in-Some.ensures.shorter
