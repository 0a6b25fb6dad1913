use Rattle.std.proofs.Common.{◌++◌, ◌∷◌, [], take, sym, ◌∙◌, ap, Some}
use Rattle.sparql_eval.proofs.ProjectSteps.{map-take}
use Rattle.sparql_eval.proofs.keyed_rows.first_cells.Goals as goal

pub loop-i-preserved : goal.loop-i-preserved
loop-i-preserved c =
    let was = c.loop-i.invariant in
    let w = c.args.width in
    let row = c.as_slice-row.result.now in
    record {
      width = c.in_ok-push.ensures.width ∙ was.width;
      rows = c.in_ok-push.ensures.added ∙ (λ k. was.rows k ++ take w row ∷ []) ∙ sym (map-take (take w) c.args.rows.now.rows c.loop-i.i row (c.in_ok-read.ensures.found ∙ ap Some (sym c.as_slice-row.ensures.value)));
    }
