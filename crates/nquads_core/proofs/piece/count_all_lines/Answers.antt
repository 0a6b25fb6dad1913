use Rattle.std.proofs.Common.{sym}
use Rattle.std.proofs.lemmas.List.{nil_from_length}
use Rattle.std.proofs.lemmas.Bool.{eqb-true}
use Rattle.nquads_core.proofs.PieceLaws.{counted_one, counted_all}
use Rattle.nquads_core.proofs.piece.count_all_lines.Goals as goal

pub loop-rest-preserved : goal.loop-rest-preserved
loop-rest-preserved c =
    counted_one c.loop-rest.count c.loop-rest.rest.now c.args.text.now c.first_line.result.0.now c.first_line.result.1.now c.loop-rest.invariant c.first_line.ensures.lines c.first_line.ensures.shorter

pub returns : goal.returns
returns c = record { count = counted_all c.loop-rest.count c.loop-rest.rest.now c.args.text.now c.loop-rest.invariant (nil_from_length c.loop-rest.rest.now (eqb-true _ _ (sym c.loop-rest-test.ensures))) }
