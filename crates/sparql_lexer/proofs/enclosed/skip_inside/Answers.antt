use Rattle.std.proofs.Common.{Some, None}
use Rattle.sparql_lexer.specs.Forms.{close_of, piece_of}
use Rattle.sparql_lexer.proofs.PatternLaws.{closes, one_piece, unclosed, strictly}
use Rattle.sparql_lexer.proofs.ProductionLaws.{piece_sure, close_apart, piece_solid}
use Rattle.sparql_lexer.proofs.enclosed.skip_inside.Goals as goal

pub returns-in-Some : goal.returns-in-Some
returns-in-Some c = c.pieces.invariant (Some c.in-Some.end) (closes (piece_of c.args.enclosure) (close_of c.args.enclosure) c.pieces.rest.now c.in-Some.end.now (close_apart c.args.enclosure) c.in-Some.ensures)

pub returns-in_err-rest : goal.returns-in_err-rest
returns-in_err-rest c = rw c.from_residual.ensures (c.pieces.invariant None (unclosed (piece_of c.args.enclosure) (close_of c.args.enclosure) c.pieces.rest.now c.in_default.ensures c.in_err-rest.ensures))

pub pieces-preserved : goal.pieces-preserved
pieces-preserved c = λ res h. c.pieces.invariant res (one_piece (piece_of c.args.enclosure) (close_of c.args.enclosure) c.pieces.rest.now c.in_ok-rest.rest.now res (piece_sure c.args.enclosure) c.in_default.ensures c.in_ok-rest.ensures.matches h)

pub pieces-smaller : goal.pieces-smaller
pieces-smaller c = strictly (piece_solid c.args.enclosure) c.in_ok-rest.ensures.matches
