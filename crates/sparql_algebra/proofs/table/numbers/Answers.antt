use Rattle.std.proofs.Common.{[], ◌∷◌, ◌++◌, ap, ◌∙◌}
use Rattle.sparql_algebra.specs.Names.{number_of}
use Rattle.sparql_algebra.proofs.ListSteps.{next_image}
use Rattle.sparql_algebra.proofs.table.numbers.Goals as goal

pub loop-name-preserved : goal.loop-name-preserved
loop-name-preserved c =
    next_image (number_of c.args.names.now) c.args.list.now c.loop-name.name-index c.name-item.result c.loop-name.numbers.items _ _ c.loop-name-test.true c.name-item.is
    (c.in_ok-push.ensures.items ∙ ap (λ n. c.loop-name.numbers.items ++ n ∷ []) c.number.ensures.number) c.loop-name.invariant
