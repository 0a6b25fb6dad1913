use Rattle.std.proofs.Common.{sym}
use Rattle.std.proofs.lemmas.List.{nil_from_length}
use Rattle.std.proofs.lemmas.Bool.{eqb-true}
use Rattle.nquads_core.proofs.PieceLaws.{counted_one, counted_all}
use Rattle.nquads_core.proofs.piece.count_plain_lines.Goals as goal

pub loop-rest-preserved : goal.loop-rest-preserved
loop-rest-preserved c = record {
  counted =
      counted_one c.loop-rest.count c.loop-rest.rest.now c.args.text.now c.after_line-rest.ensures.lines.0 c.after_line-rest.result.now c.loop-rest.invariant.counted c.after_line-rest.ensures.lines.1 c.after_line-rest.ensures.shorter;
  no_cr = c.after_line-rest.ensures.no_cr;
}

pub returns : goal.returns
returns c = record { count = counted_all c.loop-rest.count c.loop-rest.rest.now c.args.text.now c.loop-rest.invariant.counted (nil_from_length c.loop-rest.rest.now (eqb-true _ _ (sym c.loop-rest-test.ensures))) }
