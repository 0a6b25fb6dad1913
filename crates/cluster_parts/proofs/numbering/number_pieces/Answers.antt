use Rattle.std.proofs.Common.{ap, ◌∙◌, length, subst, arith}
use Rattle.nquads_core.specs.Pieces.{HaveStatements}
use Rattle.cluster_parts.specs.Numbered.{AreRead}
use Rattle.cluster_parts.proofs.NumberingSteps.{bad_of_all, lines_more, lines_of_all, room_for}
use Rattle.cluster_parts.proofs.numbering.number_pieces.Goals as goal

pub add_lines-requires : goal.add_lines-requires
add_lines-requires c =
    let are = c.pieces_are_the_document.ensures.law c.args.bytes.now c.args.cuts.now c.requires.fits in
    let r = room_for c.args.bytes.now c.args.cuts.now are c.loop-i.i c.loop-i.so_far.lines c.piece.result.now (omega (arith, c.loop-i-test.true)) c.piece.ensures.bytes c.loop-i.invariant.count in
    record { room = omega (arith, r) }

pub loop-i-init : goal.loop-i-init
loop-i-init c = c.new-so_far.ensures.none c.args.filter.now

pub loop-i-preserved : goal.loop-i-preserved
loop-i-preserved c =
    let are = c.pieces_are_the_document.ensures.law c.args.bytes.now c.args.cuts.now c.requires.fits in
    subst (AreRead c.args.filter.now c.add_lines.new.so_far)
    (lines_more c.args.bytes.now c.args.cuts.now are c.loop-i.i c.piece.result.now (omega (arith, c.loop-i-test.true)) c.piece.ensures.bytes)
    (c.in-Ok.ensures.read _ c.loop-i.invariant)

pub returns-clause-quads : goal.returns-clause-quads
returns-clause-quads c =
    let are = c.pieces_are_the_document.ensures.law c.args.bytes.now c.args.cuts.now c.requires.fits in
    let all = lines_of_all c.args.bytes.now c.args.cuts.now are c.loop-i.i (omega (arith, c.loop-i-test.false)) in
    let read = c.loop-i.invariant in
    (read.all, read.quads, subst (λ ls. HaveStatements ls read.all) all read.statements, read.kept, read.numbered)

pub returns-clause-count : goal.returns-clause-count
returns-clause-count c =
    let are = c.pieces_are_the_document.ensures.law c.args.bytes.now c.args.cuts.now c.requires.fits in
    c.loop-i.invariant.count ∙ ap length (lines_of_all c.args.bytes.now c.args.cuts.now are c.loop-i.i (omega (arith, c.loop-i-test.false)))

pub returns-in-Err-clause-bad_line : goal.returns-in-Err-clause-bad_line
returns-in-Err-clause-bad_line c = λ k is.
    let are = c.pieces_are_the_document.ensures.law c.args.bytes.now c.args.cuts.now c.requires.fits in
    bad_of_all c.args.bytes.now c.args.cuts.now are c.loop-i.i c.piece.result.now k (omega (arith, c.loop-i-test.true)) c.piece.ensures.bytes
    (c.in-Err.ensures.bad_line k is _ c.loop-i.invariant)
