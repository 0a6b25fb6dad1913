use Rattle.result_json.specs.Ranks.{terms_of, IsRisingPart}
use Rattle.result_json.proofs.order_check.is_rising.Given as goal

abbrev pub invariant-loop-k : goal.invariant-loop-k
invariant-loop-k l = IsRisingPart (terms_of l.entries) l.from l.k
