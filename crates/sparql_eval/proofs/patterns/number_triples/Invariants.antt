use Rattle.std.proofs.Common.{map, take}
use Rattle.row_pattern.specs.Numbered.{pattern_of}
use Rattle.sparql_algebra.specs.AlgebraOf.{triple_pattern_of}
use Rattle.sparql_eval.specs.Constants.{ArePatternsOf}
use Rattle.sparql_eval.proofs.patterns.number_triples.Given as goal

abbrev pub invariant-loop-triple : goal.invariant-loop-triple
invariant-loop-triple l = ArePatternsOf l.dict (map triple_pattern_of (take l.triple-index l.triples)) (map pattern_of l.numbered.items)
