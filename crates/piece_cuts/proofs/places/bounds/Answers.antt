use Rattle.std.proofs.Common.{arith}
use Rattle.piece_cuts.proofs.CutLaws.{ends-in_order, ends-inside}
use Rattle.piece_cuts.proofs.places.bounds.Goals as goal

pub returns-clause-in_order : goal.returns-clause-in_order
returns-clause-in_order c =
    rw (c.ends.ensures.from, c.ends.ensures.to) (ends-in_order c.args.doc.now 0 c.args.places.now c.args.i c.requires.cuts (omega arith) c.requires.inside)

pub returns-clause-within : goal.returns-clause-within
returns-clause-within c = rw c.ends.ensures.to (ends-inside c.args.doc.now 0 c.args.places.now c.args.i c.requires.cuts c.requires.inside)
