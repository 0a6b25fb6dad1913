use Rattle.sparql_eval.proofs.GraphSteps.{name_absent, number_found, search_finds}
use Rattle.sparql_eval.proofs.graphs.graph_number.Goals as goal

pub returns-in_err-number : goal.returns-in_err-number
returns-in_err-number c = record {
  number = rw c.from_residual.ensures (name_absent c.args.dict.now c.len-distinct.ensures.distinct c.args.index.now c.requires.index c.args.name.now c.in_err-number.ensures.value);
}

pub returns : goal.returns
returns c = record {
  number = rw c.then_some.ensures (number_found c.args.dict.now c.len-distinct.ensures.distinct c.args.index.now c.requires.index c.graphs.result.now c.graphs.ensures.names
      c.args.name.now c.in_ok-number.number c.in_ok-number.ensures.value c.is_ok.result
      (rw c.is_ok.ensures.value (search_finds c.graphs.result.now c.graphs.ensures.rising c.in_ok-number.number c.binary_search.result c.binary_search.ensures.position)));
}
