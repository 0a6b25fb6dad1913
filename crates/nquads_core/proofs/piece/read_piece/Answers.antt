use Rattle.std.proofs.Common.{map, sym, ap, Err}
use Rattle.rdf_core.specs.QuadParts.{parts_of}
use Rattle.std.specs.Prelude.{option_map}
use Rattle.std.proofs.lemmas.List.{nil_from_length}
use Rattle.std.proofs.lemmas.Bool.{eqb-true}
use Rattle.nquads_core.proofs.PieceLaws.{one_more, bad_line, all_read}
use Rattle.nquads_core.proofs.piece.read_piece.Goals as goal

pub returns-in-Err-Bad-clause-bad_line : goal.returns-in-Err-Bad-clause-bad_line
returns-in-Err-Bad-clause-bad_line c =
    bad_line (map parts_of c.loop-rest.quads.items) c.loop-rest.count c.loop-rest.rest.now c.args.bytes.now c.first_line.result.0.now c.first_line.result.1.now c.loop-rest.invariant c.first_line.ensures.lines (c.in-Err-Bad.ensures.bad (ap Err c.in-Err-Bad.field-0-is))

pub returns-clause-quads : goal.returns-clause-quads
returns-clause-quads c = (all_read (map parts_of c.loop-rest.quads.items) c.loop-rest.count c.loop-rest.rest.now c.args.bytes.now c.loop-rest.invariant (nil_from_length c.loop-rest.rest.now (eqb-true _ _ (sym c.loop-rest-test.ensures)))).0

pub returns-clause-lines : goal.returns-clause-lines
returns-clause-lines c = (all_read (map parts_of c.loop-rest.quads.items) c.loop-rest.count c.loop-rest.rest.now c.args.bytes.now c.loop-rest.invariant (nil_from_length c.loop-rest.rest.now (eqb-true _ _ (sym c.loop-rest-test.ensures)))).1

pub loop-rest-preserved : goal.loop-rest-preserved
loop-rest-preserved c =
    one_more (map parts_of c.loop-rest.quads.items) (map parts_of c.add.new.quads.items) c.loop-rest.count c.loop-rest.rest.now c.args.bytes.now c.first_line.result.0.now c.first_line.result.1.now (option_map parts_of c.in-Ok.quad) c.loop-rest.invariant c.first_line.ensures.lines c.first_line.ensures.shorter c.in-Ok.ensures.has_statement c.in_ok-add.ensures
