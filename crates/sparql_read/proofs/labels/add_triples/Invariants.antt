use Rattle.std.proofs.Common.{true, take}
use Rattle.sparql_tree.specs.BlankReuse.{labels_of}
use Rattle.sparql_read.specs.LabelSteps.{AddsLabels}
use Rattle.sparql_read.proofs.labels.add_triples.Given as goal

abbrev pub invariant-loop-triple : goal.invariant-loop-triple
invariant-loop-triple l = AddsLabels l.earlier (labels_of (take l.triple-index l.triples)) true l.initial.labels l.labels
