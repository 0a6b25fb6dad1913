use Rattle.std.proofs.Common.{[], get_or, ◌∙◌, sym, arith}
use Rattle.std.proofs.lemmas.Bool.{OnTrue_from}
use Rattle.std.proofs.lemmas.Option.{slice_get-get_or}
use Rattle.sparql_eval.proofs.UnitSteps.{unit_open, unit_rows}
use Rattle.sparql_eval.proofs.joins.binds_nothing.Goals as goal

pub returns-then-len-eq1 : goal.returns-then-len-eq1
returns-then-len-eq1 c =
    let rows = c.args.rows.now.rows in
    let row = get_or rows 0 [] in
    let first = slice_get-get_or rows 0 [] (omega arith) in
    record {
      unit = OnTrue_from c.first_is_open.result _ (λ yes. unit_rows rows c.args.width row (omega arith) first
          (c.first_is_open.ensures.wide ∙ c.requires.width) (sym c.first_is_open.ensures.value ∙ yes));
      seen = λ is. c.first_is_open.ensures.value ∙ unit_open rows c.args.width row is first;
    }
