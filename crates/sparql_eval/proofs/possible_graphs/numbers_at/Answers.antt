use Rattle.std.proofs.Common.{[], get_or, sym, ◌∙◌, arith}
use Rattle.std.proofs.lemmas.Option.{slice_get-get_or}
use Rattle.sparql_eval.proofs.PossibleSteps.{numbers_more}
use Rattle.sparql_eval.proofs.possible_graphs.numbers_at.Goals as goal

pub loop-i-preserved : goal.loop-i-preserved
loop-i-preserved c =
    let rows = c.args.rows.now.rows in
    let i = c.loop-i.i in
    rw c.in_ok-push.ensures.items
    (numbers_more rows c.args.variable i c.in-Some.number (get_or rows i []) c.loop-i.numbers.items (slice_get-get_or rows i [] (omega arith))
    (sym c.get.ensures.value ∙ c.in-Some.is) c.loop-i.invariant)
