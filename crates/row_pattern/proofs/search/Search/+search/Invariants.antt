use Rattle.std.proofs.Common.{◌≡◌, ◌++◌, ◌+◌, ◌*◌, length, map, take}
use Rattle.algebra_model.specs.Bag.{IsSameBag}
use Rattle.row_pattern.specs.Numbered.{triple_of, triples_of}
use Rattle.row_pattern.specs.Steps.{solutions_over}
use Rattle.row_pattern.proofs.search.Search.+search.Given as goal

abbrev pub decreases-add_match : goal.decreases-add_match
decreases-add_match l = 3 * length l.rest.now + 1

abbrev pub decreases-add_matches : goal.decreases-add_matches
decreases-add_matches l = 3 * length l.rest.now + 2

abbrev pub decreases-add_solutions : goal.decreases-add_solutions
decreases-add_solutions l = 3 * length l.steps.now

abbrev pub invariant-add_matches-loop-place : goal.invariant-add_matches-loop-place
invariant-add_matches-loop-place l = record {
  row : l.row ≡ l.initial.row;
  width : l.found.width ≡ l.initial.found.width;
  found : IsSameBag l.found.rows (l.initial.found.rows ++ solutions_over l.self.width (triples_of l.self.graph l.self.index.now) l.step l.rest l.initial.row (map triple_of (take l.place l.quads)));
}
