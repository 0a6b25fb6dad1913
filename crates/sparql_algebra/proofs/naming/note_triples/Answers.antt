use Rattle.sparql_tree.specs.Scope.{triple_names}
use Rattle.sparql_algebra.proofs.ListSteps.{next_names}
use Rattle.sparql_algebra.proofs.NameSteps.{at_refusal, noted_within}
use Rattle.sparql_algebra.proofs.naming.note_triples.Goals as goal

pub returns-in_err-note_triple-clause-in_part : goal.returns-in_err-note_triple-clause-in_part
returns-in_err-note_triple-clause-in_part c =
    at_refusal c.from_residual.result
    (noted_within triple_names c.args.triples.now c.loop-triple.triple-index c.triple-item.result c.args.names.now c.loop-triple.names c.note_triple.new.names
    c.loop-triple-test.true c.loop-triple.invariant c.triple-item.is c.in_err-note_triple.ensures.in_part)

pub loop-triple-preserved : goal.loop-triple-preserved
loop-triple-preserved c =
    next_names triple_names c.args.triples.now c.loop-triple.triple-index c.triple-item.result c.args.names.now c.loop-triple.names c.note_triple.new.names
    c.loop-triple-test.true c.triple-item.is c.loop-triple.invariant c.in_ok-note_triple.ensures.noted
