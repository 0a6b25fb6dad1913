use Rattle.std.proofs.Common.{◌≡◌, ℕ, nat_eq, take}
use Rattle.indexmap.specs.IndexSet.{contains}
use Rattle.cluster_parts.specs.Repeated.{is_repeated}
use Rattle.cluster_parts.proofs.repeated.again_of.Given as goal

abbrev pub invariant-loop-i : goal.invariant-loop-i
invariant-loop-i l = (n : ℕ) → contains nat_eq l.again n ≡ is_repeated (take l.i l.numbers) n
