use Rattle.std.proofs.Common.{◌≡◌, ℕ, take}
use Rattle.std.specs.Prelude.{nat_eq}
use Rattle.indexmap.specs.IndexSet.{contains}
use Rattle.cluster_parts.specs.Repeated.{has}
use Rattle.cluster_parts.proofs.repeated.set_of.Given as goal

abbrev pub invariant-loop-number : goal.invariant-loop-number
invariant-loop-number l = (n : ℕ) → contains nat_eq l.set n ≡ has (take l.number-index l.numbers) n
