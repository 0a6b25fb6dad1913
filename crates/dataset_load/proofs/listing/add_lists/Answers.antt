use Rattle.std.proofs.Common.{◌<◌, length, arith, sym, subst}
use Rattle.nquads_core.specs.Lines.{lines}
use Rattle.malformed_lines.specs.Malformed.{IsListOf}
use Rattle.malformed_lines.specs.declared.piece_list.PieceList.{PieceList}
use Rattle.dataset_load.specs.Lines.{text_at}
use Rattle.dataset_load.proofs.ListingSteps.{listed_all, listed_more, listed_none}
use Rattle.dataset_load.proofs.listing.add_lists.Goals as goal

pub loop-piece-init : goal.loop-piece-init
loop-piece-init c = record {
  listed = λ before h. listed_none before c.args.list.now h;
  counted = omega arith;
}

pub loop-piece-preserved : goal.loop-piece-preserved
loop-piece-preserved c =
    let was = c.loop-piece.invariant in
    let low : c.loop-piece.piece-index < length c.args.pieces.now = omega (arith, c.loop-piece-test.true, c.requires.count) in
    let piece : IsListOf (lines (text_at c.args.pieces.now c.loop-piece.piece-index)) c.piece-item.result =
    subst (λ (p : PieceList). IsListOf (lines (text_at c.args.pieces.now c.loop-piece.piece-index)) p) (sym c.piece-item.is) (c.requires.each c.loop-piece.piece-index c.piece-item.result low) in
    record {
      listed = λ before h. listed_more c.args.pieces.now c.loop-piece.piece-index before c.add.new.self low (c.in_ok-add.ensures.listed _ _ (was.listed before h) piece);
      counted = omega (arith, was.counted, c.in_ok-add.ensures.lines);
    }

pub returns-clause-listed : goal.returns-clause-listed
returns-clause-listed c = λ before h. listed_all c.args.pieces.now _ before c.loop-piece.list (omega (arith, c.requires.count)) (c.loop-piece.invariant.listed before h)
