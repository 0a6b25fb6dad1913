use Rattle.std.proofs.Common.{arith, ◌+◌, ◌-◌}
use Rattle.piece_cuts.proofs.CutLaws.{HasNoNextCut-from_none, HasNoNextCut-from_last, IsNextCut-from_first}
use Rattle.piece_cuts.proofs.places.next_cut.Goals as goal

pub returns-in-Some : goal.returns-in-Some
returns-in-Some c = record { cut = IsNextCut-from_first _ (c.args.start + c.args.size - 1) _ _ (omega arith) (omega arith) c.in-Some.k c.in-Some.ensures.0 c.in-Some.ensures.1 (omega arith) }

pub returns-in_default : goal.returns-in_default
returns-in_default c = record { cut = HasNoNextCut-from_last _ (c.args.start + c.args.size - 1) _ _ (omega arith) (omega arith) c.in-Some.k c.in-Some.ensures.0 (omega arith) }

pub returns-in_default-2 : goal.returns-in_default-2
returns-in_default-2 c = record { cut = HasNoNextCut-from_none _ (c.args.start + c.args.size - 1) _ _ (omega arith) (omega arith) c.in_default.ensures }
