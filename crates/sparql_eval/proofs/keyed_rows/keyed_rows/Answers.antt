use Rattle.std.proofs.Common.{◌++◌, ◌∷◌, [], sym, ◌∙◌, ap, Some}
use Rattle.sparql_eval.specs.KeyedRows.{with_keys}
use Rattle.sparql_eval.proofs.ProjectSteps.{map-take}
use Rattle.sparql_eval.proofs.ReadingLaws.{rows_known_at}
use Rattle.sparql_eval.proofs.keyed_rows.keyed_rows.Goals as goal

pub add_keys-requires : goal.add_keys-requires
add_keys-requires c = record { known = rows_known_at c.args.dict.now c.args.rows.now.rows c.requires.known c.loop-i.i c.as_slice-row.result.now (c.in_ok-read.ensures.found ∙ ap Some (sym c.as_slice-row.ensures.value)) }

pub loop-i-preserved : goal.loop-i-preserved
loop-i-preserved c =
    let was = c.loop-i.invariant in
    let row = c.as_slice-row.result.now in
    let keyed = c.as_slice.ensures.value ∙ c.in_ok-add_keys.ensures.keyed in
    record {
      width = c.in_ok-push.ensures.width ∙ was.width;
      rows = c.in_ok-push.ensures.added ∙ (λ k. was.rows k ++ keyed k ∷ []) ∙ sym (map-take (with_keys c.args.dict.now c.args.variables.now) c.args.rows.now.rows c.loop-i.i row (c.in_ok-read.ensures.found ∙ ap Some (sym c.as_slice-row.ensures.value)));
    }
