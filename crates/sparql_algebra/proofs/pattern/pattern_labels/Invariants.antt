use Rattle.std.proofs.Common.{◌≡◌, [], drop, flat_map}
use Rattle.std.specs.Str.{bytes_eq}
use Rattle.indexmap.specs.IndexSet.{insert_all}
use Rattle.sparql_algebra.specs.Translation.{triple_blanks}
use Rattle.sparql_algebra.proofs.pattern.pattern_labels.Given as goal

abbrev pub invariant-loop-triple : goal.invariant-loop-triple
invariant-loop-triple l =
    insert_all bytes_eq l.labels (flat_map (λ t. triple_blanks t.now) (drop l.triple-index l.triples))
    ≡ insert_all bytes_eq [] (flat_map (λ t. triple_blanks t.now) l.triples)
