use Rattle.std.proofs.Common.{length}
use Rattle.nquads_scan.specs.Rewriting.{IsPutTo}
use Rattle.nquads_scan.proofs.rewriting.put_string.Given as goal

abbrev pub invariant-loop-rest : goal.invariant-loop-rest
invariant-loop-rest l = IsPutTo l.text l.fn.out.items l.out.items l.rest

abbrev pub decreases-loop-rest : goal.decreases-loop-rest
decreases-loop-rest l = length l.rest
