use Rattle.core.specs.Prelude.{length}
use borrow.Author.Tests.{le-leb, lt-leb, lt-ltb, le-ltb}
use Rattle.core.specs.Hash.FoldHasher.{read_short}
use Rattle.keyed_hash.proofs.read_short.Goals as goal

pub returns-then-len-ge4 : goal.returns-then-len-ge4
unfolding read_short
returns-then-len-ge4 c = rw (c.read_u32.ensures, c.read_u32-then-len-ge4.ensures, le-leb 4 (length c.args.bytes.now) c.if-len-ge4.true)

pub returns-then-len-gt0 : goal.returns-then-len-gt0
unfolding read_short
returns-then-len-gt0 c = rw (lt-leb 4 (length c.args.bytes.now) c.if-len-ge4.false, lt-ltb 0 (length c.args.bytes.now) c.if-len-gt0.true)

pub returns-else-len-gt0 : goal.returns-else-len-gt0
unfolding read_short
returns-else-len-gt0 c = rw (lt-leb 4 (length c.args.bytes.now) c.if-len-ge4.false, le-ltb 0 (length c.args.bytes.now) c.if-len-gt0.false)
