use Rattle.std.proofs.Common.{◌≡◌, true, All, take}
use Rattle.result_json.proofs.order_check.all_true.Given as goal

abbrev pub invariant-loop-value : goal.invariant-loop-value
invariant-loop-value l = All (λ value. value ≡ true) (take l.value-index l.values)
