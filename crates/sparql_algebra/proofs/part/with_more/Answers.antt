use Rattle.std.proofs.Common.{ap, map, ◌∙◌}
use Rattle.std.proofs.lemmas.List.{map-append}
use Rattle.sparql_algebra.proofs.ListSteps.{next_element}
use Rattle.sparql_algebra.proofs.part.with_more.Goals as goal

pub loop-triple-preserved : goal.loop-triple-preserved
loop-triple-preserved c =
    next_element c.args.more.now c.loop-triple.triple-index c.triple-item.result (map (λ t. t.now) c.loop-triple.all.items) _ _ c.loop-triple-test.true c.triple-item.is
    (ap (map (λ t. t.now)) c.in_ok-push.ensures.items ∙ map-append (λ t. t.now) c.loop-triple.all.items _) c.loop-triple.invariant
