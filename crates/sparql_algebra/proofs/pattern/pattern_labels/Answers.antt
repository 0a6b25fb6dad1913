use Rattle.std.proofs.Common.{flat_map, sym, ap, ◌∙◌}
use Rattle.std.proofs.lemmas.List.{drop_all}
use Rattle.std.specs.Str.{bytes_eq}
use Rattle.indexmap.specs.IndexSet.{insert_all}
use Rattle.sparql_algebra.specs.Translation.{triple_blanks}
use Rattle.sparql_algebra.proofs.PatternSteps.{labels_noted}
use Rattle.sparql_algebra.proofs.pattern.pattern_labels.Goals as goal

pub returns : goal.returns
returns c = record {
  labels = sym (ap (λ l. insert_all bytes_eq c.loop-triple.labels (flat_map (λ t. triple_blanks t.now) l)) (drop_all c.loop-triple.triple-index c.args.triples.now c.loop-triple-test.false))
      ∙ c.loop-triple.invariant
      ∙ labels_noted (λ t. t.now) c.args.triples.now;
}
