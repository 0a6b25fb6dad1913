use Rattle.std.proofs.Common.{◌≡◌, ℕ, false, map, take}
use Rattle.std.specs.List.{list_any}
use Rattle.expression_values.specs.ExpressionOf.{expression_of}
use Rattle.sparql_eval.specs.Mentions.{mentions}
use Rattle.sparql_eval.proofs.mentions.may_mention_some.Given as goal

abbrev pub invariant-loop-i : goal.invariant-loop-i
invariant-loop-i l = (v : ℕ) → list_any (λ e. mentions e v) (map expression_of (take l.i l.list)) ≡ false
