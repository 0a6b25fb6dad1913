use Rattle.std.proofs.Common.{[], ◌∷◌, ◌++◌, length, get_or, None, sym, ap, ◌∙◌, arith, Some}
use Rattle.std.proofs.lemmas.Option.{slice_get-get_or}
use Rattle.sparql_eval.specs.Values.{bind_each}
use Rattle.sparql_eval.proofs.ReadingLaws.{all_taken}
use Rattle.sparql_eval.proofs.ExtendSteps.{bind_long, bind_more}
use Rattle.sparql_eval.proofs.extensions.extend_rows.Goals as goal

pub push-requires : goal.push-requires
push-requires c =
    let v = c.args.variable in
    let n = get_or c.args.numbers.now c.loop-i.i None in
    let row = c.as_slice-row.result.now in
    record {
      wide = ap length (c.as_slice.ensures.value ∙ c.in_ok-extend_row.ensures.bound) ∙ bind_long v n row ∙ (ap length c.as_slice-row.ensures.value ∙ c.in_ok-read.ensures.wide) ∙ sym c.loop-i.invariant.width;
    }

pub loop-i-preserved : goal.loop-i-preserved
loop-i-preserved c =
    let was = c.loop-i.invariant in
    let v = c.args.variable in
    let ns = c.args.numbers.now in
    let rows = c.args.rows.now.rows in
    let i = c.loop-i.i in
    let n = get_or ns i None in
    let row = c.as_slice-row.result.now in
    let extended = c.as_slice.ensures.value ∙ c.in_ok-extend_row.ensures.bound in
    record {
      width = c.in_ok-push.ensures.width ∙ was.width;
      made =
          c.in_ok-push.ensures.added ∙ (λ k. was.made k ++ extended k ∷ [])
          ∙ sym (bind_more v ns rows i n row (slice_get-get_or ns i None (omega arith)) (c.in_ok-read.ensures.found ∙ ap Some (sym c.as_slice-row.ensures.value)));
    }

pub returns-clause-rows : goal.returns-clause-rows
returns-clause-rows c =
    let ns = all_taken c.args.numbers.now c.loop-i.i (omega arith) in
    let rows = all_taken c.args.rows.now.rows c.loop-i.i (omega arith) in
    c.loop-i.invariant.made ∙ (λ k. bind_each c.args.variable (ns k) (rows k))
