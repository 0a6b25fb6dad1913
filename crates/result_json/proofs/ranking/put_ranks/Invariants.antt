use Rattle.std.proofs.Common.{◌≡◌, get_or}
use Rattle.result_json.proofs.SliceLaws.{upto}
use Rattle.result_json.proofs.ranking.put_ranks.Given as goal

abbrev pub invariant-loop-code : goal.invariant-loop-code
invariant-loop-code l = l.codes ≡ upto (λ c. get_or l.table c 0) l.code-index l.initial.codes
