use Rattle.std.proofs.Common.{List, map, subst, arith}
use Rattle.row_pattern.specs.Numbered.{pattern_of}
use Rattle.sparql_algebra.specs.AlgebraOf.{triple_pattern_of}
use Rattle.sparql_algebra.specs.declared.operator.TriplePattern.{TriplePattern}
use Rattle.sparql_eval.specs.Constants.{ArePatternsOf}
use Rattle.sparql_eval.proofs.ReadingLaws.{all_taken}
use Rattle.sparql_eval.proofs.PatternSteps.{some_lacks}
use Rattle.sparql_eval.proofs.TableSteps.{get_from}
use Rattle.sparql_eval.proofs.patterns.number_triples.Goals as goal

pub returns-in-None : goal.returns-in-None
returns-in-None c =
    let triples = c.args.triples.now in
    let i = c.loop-triple.triple-index in
    record {
      numbered = some_lacks c.args.dict.now triple_pattern_of triples i c.triple-item.result (get_from triples i c.triple-item.result (omega arith) c.triple-item.is) c.in-None.ensures.numbered;
    }

pub returns : goal.returns
returns c =
    let triples = c.args.triples.now in
    record {
      numbered =
          subst (λ (l : List TriplePattern). ArePatternsOf c.args.dict.now (map triple_pattern_of l) (map pattern_of c.loop-triple.numbered.items))
          (all_taken triples c.loop-triple.triple-index (omega arith)) c.loop-triple.invariant;
    }
