use Rattle.std.proofs.Common.{◌≡◌, map, take, flat_map, Some}
use Rattle.rdf_core.proofs.TermLaws.{term_eq}
use Rattle.algebra_model.specs.Algebra.{each_graph}
use Rattle.algebra_model.specs.Bag.{IsSameBag}
use Rattle.algebra_model.specs.Eval.{eval, named}
use Rattle.algebra_model.specs.Operators.{join}
use Rattle.algebra_model.specs.Renaming.{Each}
use Rattle.dict_core.specs.Dict.{IsGrown, term_at}
use Rattle.dict_core.specs.NumQuad.{quads_at}
use Rattle.sparql_algebra.specs.AlgebraOf.{algebra_of}
use Rattle.sparql_eval.specs.Computed.{TakesOnly}
use Rattle.sparql_eval.specs.TreeSolutions.{NeededIn}
use Rattle.sparql_eval.proofs.ReadingLaws.{Known, read_by}
use Rattle.sparql_eval.proofs.evaluator.Evaluator.+solve.Given as goal

abbrev pub invariant-solve_in_turn-loop-i : goal.invariant-solve_in_turn-loop-i
invariant-solve_in_turn-loop-i g l = record {
  width : l.made.width ≡ l.self.width;
  grown : IsGrown l.fn.dict l.dict;
  takes : TakesOnly (NeededIn l.fn.dict l.self.index.now l.self.width (each_graph l.variable) (algebra_of l.inner)) l.fn.dict l.dict;
  known : Each (Known l.dict) l.made.rows;
  bag : IsSameBag (map (read_by l.dict) l.made.rows)
      (flat_map (λ i. join term_eq (eval l.self.width (quads_at l.fn.dict l.self.index.now) (Some i) (algebra_of l.inner)) (named l.self.width l.variable i))
      (map (term_at l.fn.dict) (take l.i l.graphs)));
}
