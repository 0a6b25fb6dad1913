use Rattle.std.proofs.Common.{◌≡◌, ℕ, ◌++◌, List, drop, take}
use Rattle.cluster_parts.specs.Known.{HaveSums}
use Rattle.cluster_parts.specs.NumberList.{differences}
use Rattle.cluster_parts.proofs.FaultSteps.{HaveSumsFrom, IsRising}
use Rattle.cluster_parts.proofs.number_lists.push_sums.Given as goal

abbrev pub invariant-loop-step : goal.invariant-loop-step
invariant-loop-step l =
    (more : List ℕ) × (l.numbers.items ≡ l.initial.numbers.items ++ more)
    × ((rest : List ℕ) → differences 0 (more ++ rest) ≡ take l.step-index l.found ++ differences l.before rest)
    × ((rest : List ℕ) → IsRising l.before rest → IsRising 0 (more ++ rest))
    × (HaveSums l.found → HaveSumsFrom l.before (drop l.step-index l.found))
