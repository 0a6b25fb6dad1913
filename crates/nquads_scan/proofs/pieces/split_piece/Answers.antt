use Rattle.std.proofs.Common.{sym, arith}
use Rattle.std.proofs.lemmas.List.{nil_from_length}
use Rattle.std.proofs.lemmas.Bool.{eqb-true}
use Rattle.nquads_scan.proofs.PieceSteps.{split_none, split_more, split_all}
use Rattle.nquads_scan.proofs.pieces.split_piece.Goals as goal

pub loop-rest-preserved : goal.loop-rest-preserved
loop-rest-preserved c =
    split_more c.loop-rest.statements.items c.add_statement.new.statements.items c.in-Some.statement c.loop-rest.count c.loop-rest.rest.now c.args.bytes.now c.in-Some.after.now c.loop-rest.invariant
    (omega (arith, c.in-Some.ensures.shorter)) c.in-Some.ensures.utf8 c.in-Some.ensures.shorter c.in-Some.ensures.line c.in_ok-add_statement.ensures

pub returns : goal.returns
returns c =
    let none = nil_from_length c.loop-rest.rest.now (eqb-true _ _ (sym c.loop-rest-test.ensures)) in
    let split = split_all c.loop-rest.statements.items c.loop-rest.count c.loop-rest.rest.now c.args.bytes.now c.loop-rest.invariant none in record {
      statements = split.0;
      lines = split.1;
    }

pub loop-rest-init : goal.loop-rest-init
loop-rest-init c = rw c.new-statements.ensures.items (split_none c.in-Ok.text.now c.args.bytes.now c.in-Ok.ensures.0 c.in-Ok.ensures.1)
