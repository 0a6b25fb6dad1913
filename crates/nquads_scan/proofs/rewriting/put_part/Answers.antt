use Rattle.std.proofs.Common.{◌++◌, ap, ◌∙◌}
use Rattle.nquads_scan.proofs.RewritingSteps.{put_escape, put_run}
use Rattle.nquads_scan.proofs.rewriting.put_part.Goals as goal

pub returns-then-as_bytes-eq92-clause-put : goal.returns-then-as_bytes-eq92-clause-put
returns-then-as_bytes-eq92-clause-put c =
    put_escape c.args.text.now c.args.out.now.items c.put_char.new.out.items c.in-Some.c c.in-Some.rest.now c.utf8.text c.in-Some.ensures c.in_ok-put_char.ensures.ok

pub returns-clause-put : goal.returns-clause-put
returns-clause-put c =
    put_run c.args.text.now c.args.out.now.items c.extend_from_slice.new.self.items c.in-Some-cut_run.run'.now c.in-Some-cut_run.rest.now c.utf8.text c.in-Some-cut_run.ensures
    (c.in_ok-extend_from_slice.ensures.items ∙ ap (λ l. c.args.out.now.items ++ l) c.as_bytes-2.ensures.value)
