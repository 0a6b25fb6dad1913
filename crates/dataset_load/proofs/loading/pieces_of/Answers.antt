use Rattle.std.proofs.Common.{ℕ, List, [], ◌∷◌, ap, ◌∙◌, arith, Bor}
use Rattle.std.proofs.lemmas.List.{map-append}
use Rattle.dataset_load.specs.Lines.{texts}
use Rattle.dataset_load.proofs.LoadingSteps.{piece_more, lines_of_cuts}
use Rattle.dataset_load.proofs.loading.pieces_of.Goals as goal

pub loop-i-preserved : goal.loop-i-preserved
loop-i-preserved c =
    let are = c.pieces_are_the_document.ensures.law c.args.doc.now c.args.cuts.now c.requires.fits in
    ap texts c.in_ok-push.ensures.items
    ∙ map-append (λ (piece : Bor (List ℕ)). piece.now) c.loop-i.pieces.items (c.piece.result ∷ [])
    ∙ piece_more c.args.doc.now c.args.cuts.now are (texts c.loop-i.pieces.items) c.loop-i.i c.piece.result.now c.loop-i.invariant (omega arith) c.piece.ensures.bytes

pub returns : goal.returns
returns c =
    let are = c.pieces_are_the_document.ensures.law c.args.doc.now c.args.cuts.now c.requires.fits in
    record { lines = lines_of_cuts c.args.doc.now c.args.cuts.now are (texts c.loop-i.pieces.items) c.loop-i.i c.loop-i.invariant (omega arith) }
