use Rattle.std.proofs.Common.{get_or, arith}
use Rattle.std.proofs.lemmas.Bool.{OnTrue_at}
use Rattle.std.proofs.lemmas.Option.{slice_get-get_or}
use Rattle.sparql_eval.proofs.SeparatedSteps.{unfit}
use Rattle.sparql_eval.proofs.separated_rows.have_different_keys.Goals as goal

pub returns-then-are_apart : goal.returns-then-are_apart
returns-then-are_apart c =
    let keys = c.args.keys.now in
    let i = c.loop-i.i in
    record {
      unfit = λ compatible. unfit c.args.dict.now c.len-distinct.ensures.distinct keys i (get_or keys i _) (slice_get-get_or keys i _ (omega arith)) c.args.row.now c.args.other.now c.requires.known_row c.requires.known_other
          c.number_at-one.result c.number_at-another.result c.number_at-one.ensures.value c.number_at-another.ensures.value (OnTrue_at c.if-are_apart.true c.are_apart.ensures.apart) compatible;
    }
