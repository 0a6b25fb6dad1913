use Rattle.sparql_algebra.specs.AlgebraOf.{triple_pattern_of}
use Rattle.sparql_eval.proofs.PatternSteps.{lacks_predicate, lacks_object}
use Rattle.sparql_eval.proofs.patterns.number_triple.Goals as goal

pub returns-in_err-predicate : goal.returns-in_err-predicate
returns-in_err-predicate c = record {
  numbered = rw c.from_residual-in_err-predicate.ensures (lacks_predicate c.args.dict.now (triple_pattern_of c.args.triple.now) c.in_err-predicate.ensures.numbered);
}

pub returns-in_err-object : goal.returns-in_err-object
returns-in_err-object c = record {
  numbered = rw c.from_residual-in_err-object.ensures (lacks_object c.args.dict.now (triple_pattern_of c.args.triple.now) c.in_err-object.ensures.numbered);
}
