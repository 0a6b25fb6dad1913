use Rattle.std.proofs.Common.{◌≡◌, false, map, take}
use Rattle.algebra_model.specs.Bgp.{occurs}
use Rattle.sparql_algebra.specs.AlgebraOf.{triple_pattern_of}
use Rattle.sparql_eval.proofs.mentions.occurs.Given as goal

abbrev pub invariant-loop-i : goal.invariant-loop-i
invariant-loop-i l = occurs l.width (map triple_pattern_of (take l.i l.triples)) l.variable ≡ false
