use Rattle.std.proofs.Common.{◌≡◌, ◌++◌, drop, map}
use Rattle.sparql_algebra.specs.AlgebraOf.{triple_pattern_of}
use Rattle.sparql_algebra.specs.Translation.{translate_triple}
use Rattle.sparql_algebra.proofs.pattern.convert_triples.Given as goal

abbrev pub invariant-loop-triple : goal.invariant-loop-triple
invariant-loop-triple l =
    map triple_pattern_of l.patterns.items ++ map (translate_triple l.names l.labels) (map (λ t. t.now) (drop l.triple-index l.triples))
    ≡ map (translate_triple l.names l.labels) (map (λ t. t.now) l.triples)
