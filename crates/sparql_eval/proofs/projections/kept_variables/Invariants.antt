use Rattle.std.proofs.Common.{◌≡◌, ℕ, ◌<◌, ◌==◌, length, get_or, take, false}
use Rattle.std.specs.List.{list_any}
use Rattle.sparql_eval.proofs.projections.kept_variables.Given as goal

abbrev pub invariant-loop-v : goal.invariant-loop-v
invariant-loop-v l = record {
  wide : length l.kept.items ≡ l.width;
  listed : (k : ℕ) → k < l.width → get_or l.kept.items k false ≡ list_any (λ u. u == k) (take l.v-index l.variables);
}
