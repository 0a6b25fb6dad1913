use Rattle.std.proofs.Common.{◌∙◌, map}
use Rattle.std.proofs.lemmas.Result.{on_ok_weaker}
use Rattle.row_pattern.specs.Numbered.{triple_of, triples_of}
use Rattle.row_pattern.proofs.SearchLaws.{quad-turn, step-added}
use Rattle.row_pattern.proofs.search.Search.+search.Goals as goal

pub add_matches-loop-place-preserved : goal.add_matches-loop-place-preserved
add_matches-loop-place-preserved t c = record {
  row = c.in_ok-add_match.ensures.row ∙ c.loop-place.invariant.row;
  width = c.in_ok-add_match.ensures.width ∙ c.loop-place.invariant.width;
  found = quad-turn c.args.self.now.width (triples_of c.args.self.now.graph c.args.self.now.index.now) c.args.step.now c.args.rest.now c.args.row.now c.loop-place.row c.args.quads.now c.loop-place.place
      c.get.result c.args.found.now.rows c.loop-place.found.rows c.add_match.new.found.rows
      c.get.ensures.quad c.loop-place.invariant.row c.loop-place.invariant.found c.in_ok-add_match.ensures.found;
}

pub add_solutions-returns-in-Some-clause-found : goal.add_solutions-returns-in-Some-clause-found
add_solutions-returns-in-Some-clause-found t c =
    on_ok_weaker c.add_matches.result
    (step-added c.args.self.now.width (triples_of c.args.self.now.graph c.args.self.now.index.now) c.in-Some.step.now c.in-Some.rest.now c.args.steps.now c.args.row.now
    (map triple_of c.matches-quads.result) c.args.found.now.rows c.add_matches.new.found.rows c.in-Some.ensures.cases.0 c.matches-quads.ensures.same)
    c.add_matches.ensures.found
