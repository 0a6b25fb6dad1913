use Rattle.std.proofs.Common.{◌≤◌, IfSome, ap, sym, subst}
use Rattle.piece_cuts.specs.Blocks.{BlocksView}
use Rattle.dataset_load.specs.Lines.{AreBlocksOf, block_texts}
use Rattle.dataset_load.proofs.reader.read_blocks.Goals as goal

pub append_blocks-requires-clause-some : goal.append_blocks-requires-clause-some
append_blocks-requires-clause-some g c = subst (λ n. 1 ≤ n) (sym (ap (λ (b : BlocksView). b.size) c.in-Ok.ensures.fresh)) c.requires.some

pub append_blocks-requires-clause-unread : goal.append_blocks-requires-clause-unread
append_blocks-requires-clause-unread g c = ap (λ (b : BlocksView). b.kept) c.in-Ok.ensures.fresh

pub returns-clause-pieces : goal.returns-clause-pieces
returns-clause-pieces g c =
    subst (λ size. IfSome (g.S.Source.left c.args.reader.now) (λ text. AreBlocksOf size text (block_texts c.append_blocks.new.read.items)))
    (ap (λ (b : BlocksView). b.size) c.in-Ok.ensures.fresh) c.in_ok-append_blocks.ensures.pieces
