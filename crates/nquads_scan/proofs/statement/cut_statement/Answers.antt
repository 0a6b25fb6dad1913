use Rattle.nquads_scan.proofs.statement.cut_statement.Goals as goal

pub returns : goal.returns
returns c = record {
  predicate = c.in_ok-subject.rest.now;
  object = c.in_ok-predicate.rest.now;
  graph = c.in_ok-object.rest.now;
  s = c.in_ok-subject.ensures;
  p = c.in_ok-predicate.ensures;
  o = c.in_ok-object.ensures;
  g = c.in_ok-graph.ensures;
}
